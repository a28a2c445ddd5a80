-- 8,192 bytes are enough for every output. A line of an edge has a place below 512, a polygon number and a sequence number of up to four digits; a first
-- line has three such numbers, a refusal two. That the numbers are so small is what the numbering promises, and a refusal's place is one of the edges.
use mathlib.Core.Path.{◌≡◌, refl, sym, ap, ◌∙◌}
use mathlib.Core.Bool.{cond}
use mathlib.Core.List.{List}
use mathlib.Core.Logic.{⊎_elim}
use Prim.Native.Nat.{ℕ, zero, suc, ◌*◌, ◌≤◌, ◌<◌}
use native.Mathlib.Omega.{arith}
use lib.IntN.{ℤ}
use lib.ListN.{get_or, length, length-append}
use borrow.Author.Tests.{le-leb}
use Rattle.laws.specs.Listing.{listed}
use Rattle.laws.proofs.Deciding.{lt-or-le}
use Rattle.sheet.specs.declared.Numbered.{Numbered}
use Rattle.sheet.specs.declared.Refusal.{Refusal}
use Rattle.sheet.specs.declared.Refusal.TheVariants.{NotWhole, TooMany, ListsDiffer, JournalShort, PastRange, FilmPastRange, EqualEnds, TopFalls, Repeated, Uneven, NotAlternating, NoRow}
use Rattle.sheet.specs.Edges.{edges_in, drawing_of}
use Rattle.sheet.specs.Answers.{Call, number_of, place_of, checked, answered}
use Rattle.sheet.proofs.Outlines.{sequence-small}
use Rattle.checks.proofs.AnswerSheet.{Row, row, row-1, row-2, row-3, row-4, row-5, row-16, row-6, row-7, row-8, row-9, row-17, no_row}
use Rattle.checks.proofs.Passed.{passed}
use Rattle.steps.specs.Swept.{rows_in}
use Rattle.std.specs.Prelude.{Result, Ok, Err, ⊤}
use Rattle.text.specs.declared.TextRefusal.TheVariants.{TooMuch, Malformed}
use Rattle.text.specs.Lines.{edge_in}
use Rattle.text.specs.Texts.{Reading, line_of, reading_of}
use Rattle.steps.specs.declared.Halt.{Halt}
use Rattle.numbering.specs.Outcome.{Lent, call_of, up, down, answer_by, leaves, outcome}
use Rattle.numbering.specs.Promised.{Promised}
use Rattle.numbering.proofs.Promising.{promised, accepted-call}
use Rattle.printing.specs.Output.{decimal, accepted, refused, edge_line, edge_lines, answer_lines, outcome_lines, lent_for, five_numbers, edges_read, reading_lines, printed}
use Rattle.printing.specs.Laid.{Printed, too_short, Page}
use Rattle.printing.proofs.Digits.{few-digits}
use Rattle.printing.proofs.EdgesRead.{all_read, malformed-at}
use Rattle.sheet.specs.Amounts.{numbers_per_edge}

-- a number of up to four digits
abbrev Small : ℕ → Type 0
Small n = n < 10000

short : (n : ℕ) → Small n → length (decimal n) ≤ 4
short n h = few-digits 3 n h

-- the lengths of the lines
short-edge : (place polygon sequence : ℕ) → place < 512 → Small polygon → Small sequence → length (edge_line place polygon sequence) ≤ 14
unfolding edge_line
short-edge place polygon sequence a b c = simp length-append (omega (arith, few-digits 2 place (omega arith), short polygon b, short sequence c))

short-refusal : (number place : ℕ) → Small number → Small place → length (refused number place) ≤ 8192
unfolding refused
short-refusal number place a b = simp length-append (omega (arith, short number a, short place b))

short-first : (n : Numbered) → Small n.polygons → Small n.peak → Small n.records → length (accepted n) ≤ 24
unfolding accepted
short-first n a b c = simp length-append (omega (arith, short n.polygons a, short n.peak b, short n.records c))

short-edges : (polygons sequences : List ℕ) (n : ℕ) → n ≤ 512 → ((e : ℕ) → e < n → Small (get_or polygons e 0) × Small (get_or sequences e 0)) → length (edge_lines polygons sequences n) ≤ 14 * n
unfolding edge_lines
short-edges polygons sequences zero m h = omega arith
short-edges polygons sequences (suc e) m h =
    omega (
      arith,
      short-edge e (get_or polygons e 0) (get_or sequences e 0) (omega arith) (h e (omega arith)).0 (h e (omega arith)).1,
      short-edges polygons sequences e (omega arith) (λ k l. h k (omega arith)),
      length-append (edge_line e (get_or polygons e 0) (get_or sequences e 0)) (edge_lines polygons sequences e),
    )

small-number : (r : Refusal) → Small (number_of r)
small-number NotWhole = omega arith
small-number TooMany = omega arith
small-number ListsDiffer = omega arith
small-number JournalShort = omega arith
small-number (PastRange e) = omega arith
small-number (FilmPastRange e) = omega arith
small-number (EqualEnds e) = omega arith
small-number (TopFalls e) = omega arith
small-number (Repeated e) = omega arith
small-number (Uneven e) = omega arith
small-number (NotAlternating e) = omega arith
small-number (NoRow e) = omega arith

-- a refusal's place is 0 or an edge
abbrev check_place : Result ⊤ Refusal → ℕ
check_place (Err r) = place_of r
check_place (Ok _) = 0

place-is-edge : {c : Call} {a : Result ⊤ Refusal} → Row c a → check_place a ≤ edges_in c.list
place-is-edge (row-1 w) = omega arith
place-is-edge (row-2 w m) = omega arith
place-is-edge (row-3 w m o) = omega arith
place-is-edge (row-4 w m o j) = omega arith
place-is-edge (row-5 l f p) = omega (arith, f.is_edge)
place-is-edge (row-16 l f p o) = omega (arith, f.is_edge)
place-is-edge (row-6 l f p o q) = omega (arith, f.is_edge)
place-is-edge (row-7 l f p o q t) = omega (arith, f.is_edge)
place-is-edge (row-8 l f h) = omega (arith, h.is_edge)
place-is-edge (row-9 l f r h) = omega (arith, h.is_edge)
place-is-edge (row-17 p h) = omega (arith, h.is_edge)
place-is-edge (no_row p a) = omega arith

module _ (l : Lent) where
  leaves-answer : (a : Result Numbered Refusal) → (leaves l a).answer ≡ a
  leaves-answer (Err r) = refl
  leaves-answer (Ok n) = refl

  answer-is : (outcome l).answer ≡ answered (checked (call_of l)) (answer_by l (up l).state.end)
  unfolding outcome
  answer-is = leaves-answer _

  P : Promised l (outcome l)
  P = promised l (outcome l) refl

  place-small : (r : Refusal) → (outcome l).answer ≡ Err r → place_of r ≤ edges_in l.list
  unfolding drawing_of
  place-small r q = by (checked (call_of l)) refl
    where
      at_edge : (d : ℕ) → (outcome l).answer ≡ Err (NoRow d) → place_of r ≤ edges_in l.list
      at_edge d e =
          let f : Err r ≡ Err (NoRow d) = sym q ∙ e in
          let g : r ≡ NoRow d = cc in
          omega (arith, ap place_of g, (P.lacks_row d e).1.is_edge)

      ended : (u : Result ⊤ Halt) → (outcome l).answer ≡ answer_by l u → place_of r ≤ edges_in l.list
      ended (Ok _) e = let f : Err r ≡ Ok (record { polygons = (down l).polygons; peak = (up l).state.peak; records = (up l).state.records }) = sym q ∙ e in let z : ◌≡◌ {A = ℕ} 0 1 = cc in absurd (omega arith)
      ended (Err _) e = at_edge (up l).edge e

      by : (x : Result ⊤ Refusal) → checked (call_of l) ≡ x → place_of r ≤ edges_in l.list
      by (Err s) e =
          let f : Err r ≡ Err s = sym q ∙ answer-is ∙ ap (λ x. answered x (answer_by l (up l).state.end)) e in
          let g : r ≡ s = cc in
          omega (arith, ap place_of g, ap check_place e, place-is-edge (row (call_of l)))
      by (Ok _) e = ended (up l).state.end (answer-is ∙ ap (λ x. answered x (answer_by l (up l).state.end)) e)

  module _ (few_edges : edges_in l.list ≤ 512) (lent : rows_in l.rows ≤ 256) where
    module _ (n : Numbered) (q : (outcome l).answer ≡ Ok n) where
      peak-small : n.peak ≤ 256
      peak-small = ⊎_elim
          (λ h.
          let v = P.fewer_refused n.polygons n.peak n.records q l.rows h in
          let f : Err (NoRow v.0) ≡ Ok n = sym v.1 ∙ q in
          let z : ◌≡◌ {A = ℕ} 0 1 = cc in
          absurd (omega arith))
          (λ h. omega arith)
          (lt-or-le (rows_in l.rows) n.peak)

      numbers-small : (e : ℕ) → e < edges_in l.list → Small (get_or (outcome l).polygons e 0) × Small (get_or (outcome l).sequences e 0)
      unfolding drawing_of
      numbers-small e h =
          let N = P.numbered n.polygons n.peak n.records q in
          let s = sequence-small (passed (call_of l) (accepted-call refl q).passed_all).sheet N e h in
          (omega (arith, (N.from_one e h).1, P.few_records n.polygons n.peak n.records q), omega (arith, s))

    lines-short : (a : Result Numbered Refusal) → (outcome l).answer ≡ a → length (answer_lines (edges_in l.list) a (outcome l).polygons (outcome l).sequences) ≤ 8192
    lines-short (Ok n) q =
        let few = P.few_records n.polygons n.peak n.records q in
        omega (
          arith,
          short-first n (omega (arith, few)) (omega (arith, peak-small n q)) (omega (arith, few)),
          short-edges (outcome l).polygons (outcome l).sequences (edges_in l.list) few_edges (numbers-small n q),
          length-append (accepted n) (edge_lines (outcome l).polygons (outcome l).sequences (edges_in l.list)),
        )
    lines-short (Err r) q = short-refusal (number_of r) (place_of r) (small-number r) (omega (arith, place-small r q))

    outcome-short : (n : ℕ) → edges_in l.list ≡ n → length (outcome_lines n (outcome l)) ≤ 8192
    unfolding outcome_lines
    outcome-short n e = rw (← e) (lines-short (outcome l).answer refl)

-- the edges of n lines
five-each : (f : ℕ → List ℤ) → ((i : ℕ) → length (f i) ≡ 5) → (n : ℕ) → length (listed f n) ≡ numbers_per_edge * n
unfolding listed
five-each f h zero = refl
five-each f h (suc n) = length-append (listed f n) (f n) ∙ omega (arith, h n, five-each f h n)

edges_in_lem : (s : List ℕ) (n : ℕ) → edges_in (edges_read s n) ≡ n
unfolding edges_in
edges_in_lem s n = omega (arith, five-each (λ i. five_numbers (edge_in (line_of s i))) (λ i. refl) n)

-- so is all that the program prints
pub enough-page : (s : List ℕ) → length (printed s) ≤ 8192
unfolding printed
enough-page s = by (reading_of s 2560) refl
  where
    by : (r : Reading) → reading_of s 2560 ≡ r → length (reading_lines s r) ≤ 8192
    by (Err TooMuch) e = short-refusal 2 0 (omega arith) (omega arith)
    by (Err (Malformed line)) e = short-refusal 15 line (omega arith) (omega (arith, malformed-at s line e))
    by (Ok n) e =
        let m = edges_in_lem s n in
        outcome-short (lent_for n (edges_read s n)) (omega (arith, (all_read s n e).few)) (omega arith) n m

-- a page of 8,192 bytes is never too short
module _ {s before after : List ℕ} {r : Printed} (x : Page s before after r) (h : 8192 ≤ length before) where
  pub always-fits : r ≡ Ok (length (printed s))
  always-fits =
      x.answer ∙ ap (λ t. cond t (Ok (length (printed s))) too_short) (le-leb (length (printed s)) (length before) (omega (arith, enough-page s)))

  pub never-too-short : r ≡ too_short → ⊥
  never-too-short e = let f : too_short ≡ Ok (length (printed s)) = sym e ∙ always-fits in let z : ◌≡◌ {A = ℕ} 0 1 = cc in omega arith

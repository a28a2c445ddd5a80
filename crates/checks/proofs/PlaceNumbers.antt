-- The walk that numbers places: the ends of a place begin where the place changes, and every end of the list stands once in order, so each gets the number of
-- its place and nothing is written over it.
use Rattle.std.specs.Prelude.{Result, ⊤, Ok, Err}
use mathlib.Core.Path.{◌≡◌, refl, sym, ap, ◌∙◌, subst}
use mathlib.Core.Bool.{Bool, true, false, cond}
use mathlib.Core.List.{List}
use mathlib.Core.Logic.{⊎_elim}
use Prim.Native.Nat.{ℕ, ◌+◌, ◌-◌, ◌*◌, ◌/◌, ◌%◌, ◌≤◌, ◌<◌}
use native.Mathlib.Omega.{arith}
use lib.Dec.{eqb}
use lib.IntN.{ℤ}
use lib.ListN.{length, get_or, set, length-set, length-replicate}
use lib.Seq.{get_or-set_same, get_or-set_other}
use borrow.Author.Tests.{eq-eqb, ne_eqb}
use Rattle.laws.specs.Counting.{first}
use Rattle.laws.proofs.Deciding.{lt-or-le, eq-or-ne}
use Rattle.laws.proofs.First.{first-le, first-is}
use Rattle.sheet.specs.declared.Refusal.{Refusal}
use Rattle.sheet.specs.Amounts.{most_edges}
use Rattle.sheet.specs.Edges.{edges_in, drawing_of}
use Rattle.sheet.specs.Kinds.{Way, end_of}
use Rattle.ends.specs.Fitting.{EndsFit}
use Rattle.ends.specs.Ends.{way_number, word_of, place_in, edge_in, Ordered}
use Rattle.checks.specs.Places.{Walks}
use Rattle.checks.specs.Numbers.{place_number, no_numbers, Numbered, NumbersAfter, end_in, OneEach, NumbersSoFar}
use Rattle.ends.proofs.Words.{way-small, word-edge, word-place, word-way}
use Rattle.checks.proofs.ByWords.{one_way_lem, one_spot}
use Rattle.checks.proofs.CornersMarked.{no-mark}

-- where the ends of a place begin
unfoldable pub start_of : List ℕ → ℕ → ℕ → ℕ
start_of words n p = first (λ k. eqb (place_in words k) p) (2 * n)

-- before the end at k: the place of the end before it, and where the ends of that place begin; before the first end, 0
pub record Begun (words : List ℕ) (n k place start : ℕ) : Type 0 where
  pub none : k ≡ 0 → start ≡ 0
  pub some : 0 < k → (place ≡ place_in words (k - 1)) × (start ≡ start_of words n place)

pub begun-none : (words : List ℕ) (n place : ℕ) → Begun words n 0 place 0
begun-none words n place = record { none = λ q. refl; some = λ l. absurd (omega arith) }

either : (b : Bool) (x y : ℕ) → x ≡ y → cond b x y ≡ y
either true x y q = q
either false x y q = refl

module _ {words : List ℕ} {n : ℕ} (W : Walks words (2 * n)) {k place start : ℕ} (B : Begun words n k place start) (l : k < 2 * n) where
  rises : (i j : ℕ) → i ≤ j → j < 2 * n → place_in words i ≤ place_in words j
  rises i j il jl = omega (arith, W.rising i j il jl)

  -- the end at k is the first one of its place
  starts-here : ((j : ℕ) → j < k → place_in words j ≡ place_in words k → ⊥) → k ≡ start_of words n (place_in words k)
  unfolding start_of
  starts-here other = first-is _ (2 * n) k (omega arith) (λ h. eq-eqb (place_in words k) _ refl) (λ j h. ne_eqb (place_in words j) _ (other j h))

  start-told : cond (eqb (place_in words k) place) start k ≡ start_of words n (place_in words k)
  start-told = ⊎_elim
      (λ p. ⊎_elim
      (λ q. rw (eq-eqb (place_in words k) place q) ((B.some p).1 ∙ ap (start_of words n) (sym q)))
      (λ q. rw (ne_eqb (place_in words k) place q) (starts-here (λ j h e. q (omega (arith, e, (B.some p).0, rises j (k - 1) (omega arith) (omega arith), rises (k - 1) k (omega arith) l)))))
      (eq-or-ne (place_in words k) place))
      (λ p. let z : k ≡ 0 = omega arith in either (eqb (place_in words k) place) start k (B.none z ∙ sym z) ∙ starts-here (λ j h. absurd (omega arith)))
      (lt-or-le 0 k)

  -- what the code finds at k
  module _ {here next : ℕ} (h : here ≡ place_in words k) (q : next ≡ cond (eqb here place) start k) where
    next_start : next ≡ start_of words n (place_in words k)
    next_start = q ∙ rw h start-told

    pub start-within : next ≤ 2 * n
    unfolding start_of
    start-within = omega (arith, next_start, first-le (λ i. eqb (place_in words i) (place_in words k)) (2 * n))

    pub half-start : next / 2 ≡ place_number words n (place_in words k)
    unfolding start_of place_number
    half-start = ap (λ (x : ℕ). x / 2) next_start

    pub begun_more : Begun words n (k + 1) here next
    begun_more =
        let z : k + 1 - 1 ≡ k = omega arith in
        record { none = λ e. absurd (omega arith); some = λ p. (rw (z, h), rw h next_start) }

pub numbers-none : (words : List ℕ) (n : ℕ) → NumbersSoFar words n 0 no_numbers
numbers-none words n = record { size = length-replicate {A = ℕ} (2 * most_edges) 0; seen = λ k l. absurd (omega arith); rest = λ i l. no-mark 0 (2 * most_edges) i }

-- one more end has the number of its place
pub numbers_more : {words numbers : List ℕ} {n k i v : ℕ} → n ≤ most_edges → OneEach words n → NumbersSoFar words n k numbers → k < 2 * n → i ≡ end_in words k → v ≡ place_number words n (place_in words k) → NumbersSoFar words n (k + 1) (set numbers i v)
numbers_more {words} {numbers} {n} {k} {i} {v} few O N l told q = record {
  size = length-set numbers i v ∙ N.size;
  seen = λ j h. ⊎_elim
      (λ g. get_or-set_other numbers i (end_in words j) v 0 (λ e. omega (arith, g, O.once j k (omega arith) l (e ∙ told))) ∙ N.seen j g)
      (λ g. let z : j ≡ k = omega arith in rw (z, ← told) (get_or-set_same numbers i v 0 (omega (arith, told, O.within k l, N.size)) ∙ q))
      (lt-or-le j k);
  rest = λ j h. get_or-set_other numbers i j v 0 (λ e. omega (arith, h, e, told, O.within k l)) ∙ N.rest j h;
}

-- the ends in order are those of the list, each once
module _ {s : List ℤ} {words : List ℕ} {n : ℕ} (E : EndsFit s n) (O : Ordered s words n) where
  end-told : (w : Way) (e k : ℕ) → e < n → get_or words k 0 ≡ word_of s w e → end_in words k ≡ 2 * e + way_number w
  end-told w e k l q =
      let edge : edge_in words k ≡ e = ap (λ (x : ℕ). x % 4096) q ∙ word-edge s w e (omega (arith, E.few)) in
      let way : get_or words k 0 / 8192 % 2 ≡ way_number w = ap (λ (x : ℕ). x / 8192 % 2) q ∙ word-way s w e (omega (arith, E.few)) in
      rw (edge, way)

  pub one_each : OneEach words n
  one_each = record { within = within; once = once }
    where
      within : (k : ℕ) → k < 2 * n → end_in words k < 2 * n
      within k l = let h = O.held k l in omega (arith, end-told h.way h.edge k h.is_edge h.told, h.is_edge, way-small h.way)

      same : (v w : Way) (e f : ℕ) → 2 * e + way_number v ≡ 2 * f + way_number w → word_of s v e ≡ word_of s w f
      same v w e f q =
          let i : e ≡ f = omega (arith, q, way-small v, way-small w) in
          let j : v ≡ w = one_way_lem v w (omega (arith, q, i)) in rw (i, j)

      once : (j k : ℕ) → j < 2 * n → k < 2 * n → end_in words j ≡ end_in words k → j ≡ k
      once j k jl kl q =
          let g = O.held j jl in
          let h = O.held k kl in
          one_spot E O j k jl kl (g.told ∙ same g.way h.way g.edge h.edge (sym (end-told g.way g.edge j g.is_edge g.told) ∙ q ∙ end-told h.way h.edge k h.is_edge h.told) ∙ sym h.told)

-- all ends have their numbers
pub all-numbered : {s : List ℤ} {words numbers : List ℕ} → EndsFit s (edges_in s) → Ordered s words (edges_in s) → NumbersSoFar words (edges_in s) (2 * edges_in s) numbers → Numbered s numbers
all-numbered {s} {words} {numbers} E O N = record { size = N.size; words = words; ordered = O; number = number; rest = N.rest }
  where
    number : (w : Way) (e : ℕ) → e < edges_in s → get_or numbers (2 * e + way_number w) 0 ≡ place_number words (edges_in s) (end_of (drawing_of s) w e)
    number w e l =
        let v = O.stands w e l in
        let place : place_in words v.0 ≡ end_of (drawing_of s) w e = ap (λ (x : ℕ). x / 16384) v.2 ∙ word-place s w e (omega (arith, E.few)) in
        ap (λ (i : ℕ). get_or numbers i 0) (sym (end-told E O w e v.0 l v.2)) ∙ N.seen v.0 v.1 ∙ ap (place_number words (edges_in s)) place

-- the words of n edges are two for each
pub numbers-of : {words numbers : List ℕ} (n : ℕ) → length words ≡ 2 * n → NumbersSoFar words (length words / 2) (length words) numbers → NumbersSoFar words n (2 * n) numbers
numbers-of {words} {numbers} n q N =
    let half : length words / 2 ≡ n = omega (arith, q) in
    subst (λ (m : ℕ). NumbersSoFar words m (2 * n) numbers) half (subst (λ (b : ℕ). NumbersSoFar words (length words / 2) b numbers) q N)

-- what a check leaves that passes, and one that refuses
not-passed : {r : Refusal} → ◌≡◌ {A = Result ⊤ Refusal} (Err r) (Ok tt) → ⊥
not-passed q = let z : ◌≡◌ {A = ℕ} 0 1 = cc in absurd (omega arith)

pub numbers-given : {s : List ℤ} {numbers : List ℕ} → Numbered s numbers → NumbersAfter s (Ok tt) numbers
numbers-given N = record { passed = λ q. N; refused = λ r q. absurd (not-passed (sym q)) }

pub numbers-kept : {s : List ℤ} {numbers : List ℕ} {r : Refusal} → numbers ≡ no_numbers → NumbersAfter s (Err r) numbers
numbers-kept e = record { passed = λ q. absurd (not-passed q); refused = λ r q. e }

-- The edges that a text's reading leaves in its room, as the list that the numbering is handed; and how many there can be.
use mathlib.Core.Path.{◌≡◌, refl, sym, ap, ◌∙◌}
use mathlib.Core.Bool.{Bool, true, false, cond}
use mathlib.Core.List.{List, [], ◌∷◌}
use Prim.Native.Nat.{ℕ, suc, ◌+◌, ◌*◌, ◌≤◌, ◌<◌}
use native.Mathlib.Omega.{arith}
use lib.Dec.{ltb}
use lib.IntN.{ℤ, pos}
use lib.ListN.{get_or, length, take, drop}
use lib.Seq.{drop-cons}
use borrow.Author.Tests.{ltb-true, ltb-false}
use Rattle.laws.proofs.First.{first-le}
use Rattle.laws.proofs.Listing.{listed_is}
use Rattle.sheet.specs.Edges.{edge_at}
use Rattle.std.specs.Prelude.{Ok, Err}
use Rattle.text.specs.declared.TextRefusal.TheVariants.{TooMuch, Malformed}
use Rattle.text.specs.Lines.{edge_in}
use Rattle.text.specs.Texts.{line_count, line_of, first_malformed, too_much, answer_of, reading_of, lines_read, Filled}
use Rattle.text.proofs.EnoughRoom.{few-lines, enough-room}
use Rattle.printing.specs.Output.{five_numbers, edges_read}
use Rattle.sheet.specs.Amounts.{numbers_per_edge}

five-in-place : (s : List ℤ) (k : ℕ) → k + 4 < length s → take 5 (drop k s) ≡ get_or s k (pos 0) ∷ get_or s (k + 1) (pos 0) ∷ get_or s (k + 2) (pos 0) ∷ get_or s (k + 3) (pos 0) ∷ get_or s (k + 4) (pos 0) ∷ []
five-in-place s k h =
    let a : k + 1 ≡ suc k = omega arith in
    let b : k + 2 ≡ suc (suc k) = omega arith in
    let c : k + 3 ≡ suc (suc (suc k)) = omega arith in
    let d : k + 4 ≡ suc (suc (suc (suc k))) = omega arith in
    rw (
      a,
      b,
      c,
      d,
      drop-cons s k (pos 0) (omega arith),
      drop-cons s (suc k) (pos 0) (omega arith),
      drop-cons s (suc (suc k)) (pos 0) (omega arith),
      drop-cons s (suc (suc (suc k))) (pos 0) (omega arith),
      drop-cons s (suc (suc (suc (suc k)))) (pos 0) (omega arith),
    )

edge-in-place : (s : List ℤ) (e : ℕ) → numbers_per_edge * e + 4 < length s → take 5 (drop (numbers_per_edge * e) s) ≡ five_numbers (edge_at s e)
unfolding edge_at
edge-in-place s e h = five-in-place s (numbers_per_edge * e) h

pub edges-are-read : (s : List ℕ) (n : ℕ) {before after : List ℤ} → Filled s n before after → numbers_per_edge * n ≤ length after → take (numbers_per_edge * n) after ≡ edges_read s n
edges-are-read s n {before} {after} f h = listed_is 5 (λ i. five_numbers (edge_in (line_of s i))) after n (λ i l. edge-in-place after i (omega arith) ∙ ap five_numbers (f.edges i l))

-- where a text is read, its lines are all read, and there are up to 512
pub record AllRead (s : List ℕ) (n : ℕ) : Type 0 where
  pub few : n ≤ 512
  pub all : lines_read s 2560 ≡ n

pub all_read : (s : List ℕ) (n : ℕ) → reading_of s 2560 ≡ Ok n → AllRead s n
unfolding reading_of lines_read answer_of first_malformed
all_read s n e = by-limits (too_much s 2560) refl e
  where
    m : ℕ
    m = first_malformed s (line_count s)

    all-or-fewer : m ≤ line_count s
    all-or-fewer = first-le _ (line_count s)

    by-malformed : (t : Bool) → ltb m (line_count s) ≡ t → too_much s 2560 ≡ false → cond t (Err (Malformed (m + 1))) (Ok (line_count s)) ≡ Ok n → AllRead s n
    by-malformed true q p e = let z : ◌≡◌ {A = ℕ} 0 1 = cc in absurd (omega arith)
    by-malformed false q p e =
        let lines : line_count s ≡ n = cc in
        let none : line_count s ≤ m = ltb-false m (line_count s) q in
        record { few = omega (arith, few-lines s (sym (enough-room s 2560 (omega arith)) ∙ p)); all = rw p (omega (arith, all-or-fewer)) }

    by-limits : (t : Bool) → too_much s 2560 ≡ t → cond t (Err TooMuch) (answer_of (line_count s) m) ≡ Ok n → AllRead s n
    by-limits true p e = let z : ◌≡◌ {A = ℕ} 0 1 = cc in absurd (omega arith)
    by-limits false p e = by-malformed (ltb m (line_count s)) refl p e

-- a malformed line is one of the first 512
pub malformed-at : (s : List ℕ) (line : ℕ) → reading_of s 2560 ≡ Err (Malformed line) → line ≤ 512
unfolding reading_of answer_of
malformed-at s line e = by-limits (too_much s 2560) refl e
  where
    m : ℕ
    m = first_malformed s (line_count s)

    by-malformed : (t : Bool) → ltb m (line_count s) ≡ t → too_much s 2560 ≡ false → cond t (Err (Malformed (m + 1))) (Ok (line_count s)) ≡ Err (Malformed line) → line ≤ 512
    by-malformed true q p e =
        let at : m + 1 ≡ line = cc in
        let below : m < line_count s = ltb-true m (line_count s) q in
        omega (arith, few-lines s (sym (enough-room s 2560 (omega arith)) ∙ p))
    by-malformed false q p e = let z : ◌≡◌ {A = ℕ} 0 1 = cc in absurd (omega arith)

    by-limits : (t : Bool) → too_much s 2560 ≡ t → cond t (Err TooMuch) (answer_of (line_count s) m) ≡ Err (Malformed line) → line ≤ 512
    by-limits true p e = let z : ◌≡◌ {A = ℕ} 0 1 = cc in absurd (omega arith)
    by-limits false p e = by-malformed (ltb m (line_count s)) refl p e

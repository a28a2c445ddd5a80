-- 14 asked of the keys. The sequence number before is there where the key before is; the polygon before is there where a key lies between its first
-- and the first of the polygon itself.
use mathlib.Core.Path.{◌≡◌, ◌∙◌}
use mathlib.Core.Bool.{Bool, true, false, not, ◌&&◌}
use mathlib.Core.List.{List}
use mathlib.Core.Logic.{⊎_elim}
use Prim.Native.Nat.{ℕ, ◌+◌, ◌-◌, ◌≤◌, ◌<◌}
use native.Mathlib.Omega.{arith}
use lib.Dec.{eqb, ltb}
use borrow.Author.Tests.{le-ltb, eq-eqb, eqb-true}
use Rattle.laws.specs.Counting.{some_below}
use Rattle.laws.proofs.Deciding.{lt-or-le, both_true}
use Rattle.sheet.specs.TurnList.{NumberLists, gap}
use Rattle.turns.specs.Keys.{key_of, key_at, Keyed}
use Rattle.turns.specs.Answers.{sequence_missing, polygon_missing}
use Rattle.turns.proofs.Keys.{Tells, between}

-- a key from that of the sequence number before on, and below that of a pair
unit-before : {p s q t : ℕ} → 0 < s → s < 4294967296 → t < 4294967296 → key_of p (s - 1) ≤ key_of q t → key_of q t < key_of p s → (q ≡ p) × (t + 1 ≡ s)
unfolding key_of
unit-before pos sl tl low high = (omega arith, omega arith)

before-unit : {p s q : ℕ} (t : ℕ) → 0 < s → q ≡ p → t + 1 ≡ s → (key_of p (s - 1) ≤ key_of q t) × (key_of q t < key_of p s)
unfolding key_of
before-unit t pos e f = (omega arith, omega arith)

-- a key of the polygon before
polygon-before : {p : ℕ} (q : ℕ) {t : ℕ} → 1 < p → t < 4294967296 → key_of (p - 1) 0 ≤ key_of q t → key_of q t < key_of p 0 → q + 1 ≡ p
unfolding key_of
polygon-before q pos tl low high = omega arith

before-polygon : {p : ℕ} (q t : ℕ) → t < 4294967296 → q + 1 ≡ p → (key_of (p - 1) 0 ≤ key_of q t) × (key_of q t < key_of p 0)
unfolding key_of
before-polygon q t tl e = (omega arith, omega arith)

module _ {v : NumberLists} {keys : List ℕ} (K : Keyed v keys) (e : ℕ) where
  -- an edge has the sequence number before, in the polygon
  sequence-there : ℕ → Bool
  sequence-there f = eqb (v.polygon f) (v.polygon e) && eqb (v.sequence f + 1) (v.sequence e)

  sequence-tells : 0 < v.sequence e → Tells v (key_of (v.polygon e) (v.sequence e - 1)) (key_at v e) sequence-there
  unfolding sequence-there
  sequence-tells pos = record {
    inside = λ f fl low high. let w = unit-before pos (K.narrow e) (K.narrow f) low high in rw (eq-eqb _ _ w.0, eq-eqb _ _ w.1);
    outside = λ f fl t. let w = both_true (eqb (v.polygon f) (v.polygon e)) _ t in before-unit (v.sequence f) pos (eqb-true _ _ w.0) (eqb-true _ _ w.1);
  }

  sequence-told : sequence_missing keys v.edges (v.polygon e) (v.sequence e) ≡ (ltb 0 (v.sequence e) && not (some_below sequence-there v.edges))
  unfolding sequence_missing
  sequence-told = ⊎_elim
      (λ l. rw (between K (key_of (v.polygon e) (v.sequence e - 1)) (key_at v e) sequence-there (sequence-tells l)))
      (λ l. rw (le-ltb 0 (v.sequence e) l))
      (lt-or-le 0 (v.sequence e))

  -- an edge is in the polygon before
  polygon-there : ℕ → Bool
  polygon-there f = eqb (v.polygon f + 1) (v.polygon e)

  polygon-tells : 1 < v.polygon e → Tells v (key_of (v.polygon e - 1) 0) (key_of (v.polygon e) 0) polygon-there
  unfolding polygon-there
  polygon-tells pos = record {
    inside = λ f fl low high. eq-eqb _ _ (polygon-before (v.polygon f) pos (K.narrow f) low high);
    outside = λ f fl t. before-polygon (v.polygon f) (v.sequence f) (K.narrow f) (eqb-true _ _ t);
  }

  polygon-told : polygon_missing keys v.edges (v.polygon e) ≡ (ltb 1 (v.polygon e) && not (some_below polygon-there v.edges))
  unfolding polygon_missing
  polygon-told = ⊎_elim
      (λ l. rw (between K (key_of (v.polygon e - 1) 0) (key_of (v.polygon e) 0) polygon-there (polygon-tells l)))
      (λ l. rw (le-ltb 1 (v.polygon e) l))
      (lt-or-le 1 (v.polygon e))

  -- the two ways out
  pub gap-by-sequence : {r : Bool} → r ≡ sequence_missing keys v.edges (v.polygon e) (v.sequence e) → r ≡ true → true ≡ gap v e
  unfolding gap sequence-there
  gap-by-sequence told missing = rw (← sequence-told, ← told, missing)

  pub gap-by-polygon : {r q : Bool} →
      r ≡ sequence_missing keys v.edges (v.polygon e) (v.sequence e) →
      r ≡ false →
      q ≡ polygon_missing keys v.edges (v.polygon e) →
      q ≡ gap v e
  unfolding gap sequence-there polygon-there
  gap-by-polygon told there last = rw (← sequence-told, ← told, there) (last ∙ polygon-told)

-- Keys that leave no number out: 14 holds of none of their edges. The key before an edge's is that of the sequence number before, and going down from it one comes to
-- the polygon before.
use mathlib.Core.Path.{◌≡◌, refl, sym, subst, ◌∙◌}
use mathlib.Core.Bool.{Bool, true, false, ◌&&◌}
use mathlib.Core.List.{List}
use mathlib.Core.Logic.{⊎_elim, ◌⊎◌, inl, inr, ◌↔◌}
use Prim.Native.Nat.{ℕ, zero, suc, ◌+◌, ◌-◌, ◌/◌, ◌%◌, ◌≤◌, ◌<◌}
use native.Mathlib.Omega.{arith}
use lib.Dec.{leb, ltb}
use lib.ListN.{length, get_or}
use Rattle.std.specs.List.{IsAllAdjacentAnswer}
use borrow.Author.Tests.{lt-ltb, le-ltb, le-leb, eq-eqb, eqb-true, ne_eqb}
use Rattle.laws.proofs.Deciding.{lt-or-le, not-both}
use Rattle.laws.proofs.First.{below-some}
use Rattle.sheet.specs.TurnList.{NumberLists, gap}
use Rattle.turns.specs.Keys.{key_of, stands_between, goes_on, Keyed, Whole}
use Rattle.turns.specs.Answers.{sequence_missing, polygon_missing}
use Rattle.turns.proofs.Gaps.{gap-by-polygon}

goes-polygon : (key next : ℕ) → goes_on key next ≡ true → next % 4294967296 ≡ 0 → next / 4294967296 ≡ key / 4294967296 + 1
unfolding goes_on
goes-polygon key next g none = eqb-true _ _ (rw (eq-eqb _ _ none) at g)

goes-sequence : (key next : ℕ) → goes_on key next ≡ true → 0 < next % 4294967296 → next ≡ key + 1
unfolding goes_on
goes-sequence key next g some = let before = eqb-true (next - 1) key (rw (ne_eqb (next % 4294967296) 0 (λ e. omega (arith, e, some))) at g) in omega (arith, before, some)

-- a key's polygon is that of the key before, or the next
goes-near : (key next : ℕ) → goes_on key next ≡ true → (next / 4294967296 ≡ key / 4294967296) ⊎ (next / 4294967296 ≡ key / 4294967296 + 1)
goes-near key next g = ⊎_elim
    (λ some. let e = goes-sequence key next g some in
    ⊎_elim (λ h. inl (omega (arith, e, h))) (λ h. inr (omega (arith, e, h))) (lt-or-le (key % 4294967296) 4294967295))
    (λ none. inr (goes-polygon key next g (omega (arith, none))))
    (lt-or-le 0 (next % 4294967296))

module _ {keys : List ℕ} {n : ℕ} (W : Whole keys n) where
  goes : (k : ℕ) → suc k < n → goes_on (get_or keys k 0) (get_or keys (suc k) 0) ≡ true
  goes k l = let one : k + 1 ≡ suc k = omega arith in subst (λ (i : ℕ). goes_on (get_or keys k 0) (get_or keys i 0) ≡ true) one (W.next k (omega arith))

  lies-between : (k low high : ℕ) → k < n → low ≤ get_or keys k 0 → get_or keys k 0 < high → stands_between keys n low high ≡ true
  unfolding stands_between
  lies-between k low high l above below = below-some (λ k. leb low (get_or keys k 0) && ltb (get_or keys k 0) high) n k l (rw (le-leb low (get_or keys k 0) above, lt-ltb (get_or keys k 0) high below))

  sequence-stands : (k p s : ℕ) → k < n → s < 4294967296 → 0 < s → get_or keys k 0 ≡ key_of p s → stands_between keys n (key_of p (s - 1)) (key_of p s) ≡ true
  unfolding key_of
  sequence-stands zero p s l narrow pos e = absurd (omega (arith, W.begins l, e, narrow, pos))
  sequence-stands (suc k) p s l narrow pos e =
      let before = goes-sequence (get_or keys k 0) (get_or keys (suc k) 0) (goes k l) (omega (arith, e, narrow, pos)) in
      lies-between k _ _ (omega arith) (omega (arith, before, e, pos)) (omega (arith, before, e))

  sequence-whole : (k p s : ℕ) → k < n → s < 4294967296 → get_or keys k 0 ≡ key_of p s → sequence_missing keys n p s ≡ false
  unfolding sequence_missing
  sequence-whole k p s l narrow e = ⊎_elim
      (λ pos. rw (lt-ltb 0 s pos, sequence-stands k p s l narrow pos e))
      (λ none. rw (le-ltb 0 s none))
      (lt-or-le 0 s)

  -- some key before one that is not of polygon 1 is of the polygon before
  polygon-stood : (k p : ℕ) → k < n → 1 < p → get_or keys k 0 / 4294967296 ≡ p → (j : ℕ) × (j < n) × (get_or keys j 0 / 4294967296 + 1 ≡ p)
  unfolding key_of
  polygon-stood zero p l more e = absurd (omega (arith, W.begins l, e, more))
  polygon-stood (suc k) p l more e = ⊎_elim
      (λ h. polygon-stood k p (omega arith) more (sym h ∙ e))
      (λ h. (k, omega arith, sym h ∙ e))
      (goes-near (get_or keys k 0) (get_or keys (suc k) 0) (goes k l))

  polygon-whole : (k p s : ℕ) → k < n → s < 4294967296 → get_or keys k 0 ≡ key_of p s → polygon_missing keys n p ≡ false
  unfolding polygon_missing key_of
  polygon-whole k p s l narrow e = ⊎_elim
      (λ more. let w = polygon-stood k p l more (omega (arith, e, narrow)) in
      rw (lt-ltb 1 p more, lies-between w.0 (key_of (p - 1) 0) (key_of p 0) w.1 (omega (arith, w.2, more)) (omega (arith, w.2))))
      (λ few. rw (le-ltb 1 p few))
      (lt-or-le 1 p)

pub whole-gap : {v : NumberLists} {keys : List ℕ} → Keyed v keys → Whole keys v.edges → (e : ℕ) → e < v.edges → gap v e ≡ false
whole-gap {v} {keys} K W e l =
    let w = K.stands e l in
    let seq = sequence-whole W w.0 (v.polygon e) (v.sequence e) w.1 (K.narrow e) w.2 in
    let poly = polygon-whole W w.0 (v.polygon e) (v.sequence e) w.1 (K.narrow e) w.2 in
    sym (gap-by-polygon K e (sym seq) refl (sym poly))

-- each key is asked whether the next goes on from it
pub whole-asked : {keys : List ℕ} {r : Bool} → get_or keys 0 0 ≡ key_of 1 0 → IsAllAdjacentAnswer (λ x y b. b ≡ goes_on x y) keys r → (r ≡ true) ↔ Whole keys (length keys)
whole-asked {r = true} begins all = (λ q. record { begins = λ l. begins; next = λ k l. sym (all k 0 l) }, λ w. refl)
whole-asked {r = false} begins some = (λ q. absurd (not-both q refl), λ W. absurd (not-both (W.next some.0 some.1) (sym (some.2 0))))

pub whole-none : {keys : List ℕ} → length keys ≡ 0 → Whole keys (length keys)
whole-none none = record { begins = λ l. absurd (omega arith); next = λ k l. absurd (omega arith) }

-- Turning between two and three directions. Of three, the heights over any line weigh the turns between the other two, and these add up to 0. With a
-- line a little off the level one, the heights have the signs of the sides; so the sides tell which signs the three turns can have.
use mathlib.Core.Path.{◌≡◌, refl, sym, ap, ◌∙◌}
use mathlib.Core.Bool.{Bool, true, false, ◌&&◌}
use mathlib.Core.List.{[], ◌∷◌}
use Prim.Native.Nat.{ℕ, suc, ◌+◌, ◌<◌}
use native.Mathlib.Omega.{arith}
use lib.IntN.{ℤ, pos, nat_abs, ◌+ℤ◌, ◌*ℤ◌, +ℤ_idl, -ℤ-+ℤ_cancel}
use Rattle.laws.proofs.Ring.{ring, v, num, ◌⊞◌, ◌⊠◌, ◌⊟◌, opp}
use Rattle.laws.proofs.Tests.{and-true, and-false}
use Rattle.sheet.specs.Turning.{Sign, minus, nought, plus, sign, is_sign, Direction, cross, turn, same_way}
use Rattle.corner.proofs.AllSigns.{all3, all-signs, all-signs3, implies, then, agree, agreed, is_sign-self}
use Rattle.corner.proofs.Signs.{flip, flip-flip, times, balanced, balance, sign_zero, sign-neg, sign-times}
use Rattle.corner.proofs.Weighing.{weigh, sign-weigh}
use Rattle.corner.proofs.Sides.{first_of, side}

-- turning back
pub turn-back : (d b : Direction) → turn b d ≡ flip (turn d b)
unfolding turn cross
turn-back d b =
    ap sign (ring (d.right ∷ d.up ∷ b.right ∷ b.up ∷ []) (v 2 ⊠ v 1 ⊟ v 3 ⊠ v 0) (opp (v 0 ⊠ v 3 ⊟ v 1 ⊠ v 2)) refl) ∙ sign-neg (cross d b)

-- three directions: their heights, by whatever line, weigh the turns between the other two, and these add up to 0
module _ (a b c : Direction) where
  around-sum : (K : ℤ) →
      (K *ℤ a.up +ℤ a.right) *ℤ cross b c +ℤ (K *ℤ b.up +ℤ b.right) *ℤ cross c a +ℤ (K *ℤ c.up +ℤ c.right) *ℤ cross a b ≡ pos 0
  unfolding cross
  around-sum K =
      ring (K ∷ a.right ∷ a.up ∷ b.right ∷ b.up ∷ c.right ∷ c.up ∷ [])
      ((v 0 ⊠ v 2 ⊞ v 1) ⊠ (v 3 ⊠ v 6 ⊟ v 4 ⊠ v 5) ⊞ (v 0 ⊠ v 4 ⊞ v 3) ⊠ (v 5 ⊠ v 2 ⊟ v 6 ⊠ v 1) ⊞ (v 0 ⊠ v 6 ⊞ v 5) ⊠ (v 1 ⊠ v 4 ⊟ v 2 ⊠ v 3))
      (num (pos 0)) refl

  -- so the sides weigh the turns, and the three can add up to 0
  pub around : balanced (times (side a) (turn b c)) (times (side b) (turn c a)) (times (side c) (turn a b)) ≡ true
  unfolding turn side
  around = rw (← part a b c (omega arith), ← part b c a (omega arith), ← part c a b (omega arith)) (balance _ _ _ (around-sum (pos K)))
    where
      K : ℕ
      K = suc (nat_abs a.right + nat_abs b.right + nat_abs c.right)

      part : (d e f : Direction) → nat_abs d.right < K →
          sign (weigh K d.up d.right *ℤ cross e f) ≡ times (first_of (sign d.up) (sign d.right)) (sign (cross e f))
      part d e f h = sign-times (weigh K d.up d.right) (cross e f) ∙ ap (λ (s : Sign). times s (sign (cross e f))) (sign-weigh K d.up d.right h)

-- in one line: then the signs of the two products are the same
in-line : (d b : Direction) → turn d b ≡ nought → times (sign d.right) (sign b.up) ≡ times (sign d.up) (sign b.right)
unfolding turn cross
in-line d b h = sym (sign-times d.right b.up) ∙ ap sign e ∙ sign-times d.up b.right
  where
    e : d.right *ℤ b.up ≡ d.up *ℤ b.right
    e =
        sym (-ℤ-+ℤ_cancel (d.right *ℤ b.up) (d.up *ℤ b.right)) ∙ ap (λ (z : ℤ). z +ℤ d.up *ℤ b.right) (sign_zero (cross d b) h) ∙
        +ℤ_idl (d.up *ℤ b.right)

-- the signs of two directions, x and y of one, z and w of the other
abbrev in_line : Sign → Sign → Sign → Sign → Bool
in_line x y z w = implies (is_sign (times x w) (times y z)) (agree (is_sign x z && is_sign y w) (is_sign (first_of y x) (first_of w z)))

line-signs : (x y z w : Sign) → times x w ≡ times y z → (is_sign x z && is_sign y w) ≡ is_sign (first_of y x) (first_of w z)
line-signs x y z w e =
    let t : in_line x y z w ≡ true = all-signs3 (in_line x) (all-signs (λ x. all3 (in_line x)) refl x) y z w in
    let k : is_sign (times x w) (times y z) ≡ true = rw e (is_sign-self (times y z)) in
    agreed _ _ (then _ t k)

-- in one direction: in one line, and both below or both above
pub same_way_lem : (d b : Direction) → same_way d b ≡ (is_sign (turn d b) nought && is_sign (side d) (side b))
unfolding same_way side
same_way_lem d b = by (turn d b) refl
  where
    by : (t : Sign) → turn d b ≡ t →
        (is_sign t nought && (is_sign (sign d.right) (sign b.right) && is_sign (sign d.up) (sign b.up))) ≡
        (is_sign t nought && is_sign (first_of (sign d.up) (sign d.right)) (first_of (sign b.up) (sign b.right)))
    by minus e = refl
    by nought e = line-signs (sign d.right) (sign d.up) (sign b.right) (sign b.up) (in-line d b e)
    by plus e = refl

-- on one side, the turn tells whether two are in one direction; across the point no two are
pub same-way-beside : (d b : Direction) → side d ≡ side b → same_way d b ≡ is_sign (turn d b) nought
same-way-beside d b h = same_way_lem d b ∙ ap (λ (t : Bool). is_sign (turn d b) nought && t) (rw h (is_sign-self (side b))) ∙ and-true (is_sign (turn d b) nought)

pub same-way-across : (d b : Direction) → side d ≡ minus → side b ≡ plus → same_way d b ≡ false
same-way-across d b h k = same_way_lem d b ∙ rw (h, k) (and-false (is_sign (turn d b) nought))

-- what three directions on the two sides allow, by the turns from the first to the second, from the first and from the second to the third: two below
-- and one above ..
abbrev pub two_below : Sign → Sign → Sign → Bool
two_below ab ac bc = balanced (flip bc) ac ab

-- .. one below and two above
abbrev pub one_below : Sign → Sign → Sign → Bool
one_below ab ac bc = balanced (flip bc) (flip ac) ab

module _ (a b c : Direction) where
  pub two-below : side a ≡ minus → side b ≡ minus → side c ≡ plus → two_below (turn a b) (turn a c) (turn b c) ≡ true
  two-below ha hb hc = rw (ha, hb, hc, turn-back a c, flip-flip (turn a c)) at (around a b c)

  pub one_below_lem : side a ≡ minus → side b ≡ plus → side c ≡ plus → one_below (turn a b) (turn a c) (turn b c) ≡ true
  one_below_lem ha hb hc = rw (ha, hb, hc, turn-back a c) at (around a b c)

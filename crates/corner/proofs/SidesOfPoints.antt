-- A point below another lies on its lower side: `is_below` of points is `side` of the direction between them.
use mathlib.Core.Path.{◌≡◌, refl, sym, ap, ◌∙◌}
use mathlib.Core.Bool.{Bool, true, false, cond}
use mathlib.Core.List.{[], ◌∷◌}
use mathlib.Core.Logic.{⊎_elim}
use Prim.Native.Nat.{ℕ, zero, suc, ◌+◌, ◌-◌, ◌≤◌, ◌<◌}
use native.Mathlib.Omega.{arith}
use lib.Dec.{ltb, eqb}
use lib.IntN.{ℤ, pos, negsuc, sub_ℕ, ◌-ℤ◌, +ℤ_idr}
use lib.Signed.{lt_z}
use borrow.Author.Tests.{lt-ltb, le-ltb, eq-eqb, ne_eqb}
use Rattle.laws.proofs.Deciding.{lt-or-le, eq-or-ne, not-both}
use Rattle.laws.proofs.Ring.{ring, v, ◌⊟◌, opp}
use Rattle.laws.proofs.Tests.{eqb-agree}
use Rattle.sheet.specs.declared.Point.{Point}
use Rattle.sheet.specs.Points.{same_z, is_below}
use Rattle.sheet.specs.Turning.{Sign, minus, nought, plus, sign, towards}
use Rattle.corner.proofs.Signs.{is-plus, flip, sign-neg}
use Rattle.corner.proofs.Sides.{first_of, side}

-- how two numbers compare, by the tests, as a sign
abbrev order : Bool → Bool → Sign
order same less = cond less minus (cond same nought plus)

order-less : (a b : ℕ) → a < b → order (eqb a b) (ltb a b) ≡ minus
order-less a b h = rw (lt-ltb a b h)

order_same : (a b : ℕ) → a ≡ b → order (eqb a b) (ltb a b) ≡ nought
order_same a b h = rw (eq-eqb a b h, le-ltb a b (omega arith))

order-more : (a b : ℕ) → b < a → order (eqb a b) (ltb a b) ≡ plus
order-more a b h = rw (ne_eqb a b (omega arith), le-ltb a b (omega arith))

sign-sub : (a b : ℕ) → sign (sub_ℕ a b) ≡ order (eqb a b) (ltb a b)
unfolding sign
sign-sub a b = ⊎_elim less (λ h. ⊎_elim (same h) (more h) (eq-or-ne a b)) (lt-or-le a b)
  where
    less : a < b → sign (cond (ltb a b) (negsuc (b - suc a)) (pos (a - b))) ≡ order (eqb a b) (ltb a b)
    less h = rw (order-less a b h, lt-ltb a b h)

    same : b ≤ a → a ≡ b → sign (cond (ltb a b) (negsuc (b - suc a)) (pos (a - b))) ≡ order (eqb a b) (ltb a b)
    same h e = let z : a - b ≡ 0 = omega arith in rw (order_same a b e, le-ltb a b h, z)

    more : b ≤ a → (a ≡ b → ⊥) → sign (cond (ltb a b) (negsuc (b - suc a)) (pos (a - b))) ≡ order (eqb a b) (ltb a b)
    more h n = rw (order-more a b (omega arith), le-ltb a b h) (is-plus (a - b) (omega arith))

eqb-back : (a b : ℕ) → eqb (suc b) (suc a) ≡ eqb a b
eqb-back a b = eqb-agree (suc b) (suc a) a b (λ h. omega arith) (λ h. omega arith)

ltb-suc : (a b : ℕ) → ltb (suc a) (suc b) ≡ ltb a b
ltb-suc a b =
    ⊎_elim (λ h. lt-ltb (suc a) (suc b) (omega arith) ∙ sym (lt-ltb a b h))
    (λ h. le-ltb (suc a) (suc b) (omega arith) ∙ sym (le-ltb a b h)) (lt-or-le a b)

-- the sign of a difference is the outcome of comparing
sign-difference : (x y : ℤ) → sign (x -ℤ y) ≡ order (same_z x y) (lt_z x y)
unfolding sign same_z
sign-difference (pos zero) (pos zero) = refl
sign-difference (pos (suc a)) (pos zero) = ap sign (+ℤ_idr (pos (suc a))) ∙ sym (order-more (suc a) 0 (omega arith))
sign-difference (pos a) (pos (suc b)) = sign-sub a (suc b)
sign-difference (pos a) (negsuc b) = is-plus (a + suc b) (omega arith)
sign-difference (negsuc a) (pos zero) = ap sign (+ℤ_idr (negsuc a))
sign-difference (negsuc a) (pos (suc b)) = refl
sign-difference (negsuc a) (negsuc b) = sign-sub (suc b) (suc a) ∙ rw (eqb-back a b, ltb-suc b a)

first_of-flip : (s t : Sign) → first_of (flip s) (flip t) ≡ flip (first_of s t)
first_of-flip minus t = refl
first_of-flip nought t = refl
first_of-flip plus t = refl

-- the way back is on the other side
side-back : (p q : Point) → side (towards p q) ≡ flip (side (towards q p))
unfolding side towards
side-back p q =
    rw (
      ring (q.y ∷ p.y ∷ []) (v 0 ⊟ v 1) (opp (v 1 ⊟ v 0)) refl,
      ring (q.x ∷ p.x ∷ []) (v 0 ⊟ v 1) (opp (v 1 ⊟ v 0)) refl,
      sign-neg (p.y -ℤ q.y),
      sign-neg (p.x -ℤ q.x),
    ) (first_of-flip (sign (p.y -ℤ q.y)) (sign (p.x -ℤ q.x)))

pub side-below : (p q : Point) → is_below q p ≡ true → side (towards p q) ≡ minus
unfolding is_below side towards
side-below p q h = rw (sign-difference q.x p.x, sign-difference q.y p.y) (by (same_z q.y p.y) (lt_z q.y p.y) h)
  where
    by : (same less : Bool) → cond same (lt_z q.x p.x) less ≡ true →
        first_of (order same less) (order (same_z q.x p.x) (lt_z q.x p.x)) ≡ minus
    by true true e = refl
    by true false e = rw e refl
    by false true e = refl
    by false false e = absurd (not-both e refl)

pub side-above : (p q : Point) → is_below p q ≡ true → side (towards p q) ≡ plus
side-above p q h = side-back p q ∙ ap flip (side-below q p h)

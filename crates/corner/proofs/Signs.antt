-- Signs of integers: of minus, of sums and products, of three that add up to 0.
use mathlib.Core.Path.{◌≡◌, refl, ap, ◌∙◌}
use mathlib.Core.Bool.{Bool, true}
use Prim.Native.Nat.{ℕ, zero, suc, ◌+◌, ◌*◌, ◌<◌}
use native.Mathlib.Nat.{mul-pos}
use native.Mathlib.Omega.{arith}
use lib.IntN.{ℤ, pos, negsuc, neg_ℤ, ◌+ℤ◌, ◌*ℤ◌, +ℤ_idl, +ℤ_idr, zero-*ℤ, *ℤ-zero}
use Rattle.laws.proofs.Integers.{adds-up}
use Rattle.sheet.specs.Turning.{Sign, minus, nought, plus, sign, is_sign}
use Rattle.corner.proofs.AllSigns.{all-signs, is_sign-self, is_sign-true}

abbrev pub flip : Sign → Sign
flip minus = plus
flip nought = nought
flip plus = minus

abbrev pub times : Sign → Sign → Sign
times minus t = flip t
times nought t = nought
times plus t = t

-- whether a sum of numbers with the first two signs can have the third
abbrev pub sums : Sign → Sign → Sign → Bool
sums minus minus t = is_sign minus t
sums minus nought t = is_sign minus t
sums minus plus t = true
sums nought s t = is_sign s t
sums plus minus t = true
sums plus nought t = is_sign plus t
sums plus plus t = is_sign plus t

-- whether three numbers with these signs can add up to 0
abbrev pub balanced : Sign → Sign → Sign → Bool
balanced p q r = sums p q (flip r)

pub is-plus : (n : ℕ) → 0 < n → sign (pos n) ≡ plus
unfolding sign
is-plus zero h = absurd (omega arith)
is-plus (suc n) h = refl

-- only 0 has no sign
pub sign_zero : (x : ℤ) → sign x ≡ nought → x ≡ pos 0
unfolding sign
sign_zero (pos zero) h = refl
sign_zero (pos (suc n)) h = cc
sign_zero (negsuc n) h = cc

pub sign-neg : (x : ℤ) → sign (neg_ℤ x) ≡ flip (sign x)
unfolding sign
sign-neg (pos zero) = refl
sign-neg (pos (suc n)) = refl
sign-neg (negsuc n) = refl

pub flip-flip : (s : Sign) → flip (flip s) ≡ s
flip-flip s = is_sign-true _ _ (all-signs (λ t. is_sign (flip (flip t)) t) refl s)

pub sign-times : (x y : ℤ) → sign (x *ℤ y) ≡ times (sign x) (sign y)
unfolding sign
sign-times (pos zero) y = rw zero-*ℤ
sign-times (pos (suc a)) (pos zero) = rw *ℤ-zero
sign-times (pos (suc a)) (pos (suc b)) = is-plus (suc a * suc b) (mul-pos (omega arith) (omega arith))
sign-times (pos (suc a)) (negsuc b) = sign-neg (pos (suc a * suc b)) ∙ ap flip (is-plus (suc a * suc b) (mul-pos (omega arith) (omega arith)))
sign-times (negsuc a) (pos zero) = rw *ℤ-zero
sign-times (negsuc a) (pos (suc b)) = sign-neg (pos (suc a * suc b)) ∙ ap flip (is-plus (suc a * suc b) (mul-pos (omega arith) (omega arith)))
sign-times (negsuc a) (negsuc b) = is-plus (suc a * suc b) (mul-pos (omega arith) (omega arith))

sign-sum : (x y : ℤ) → sums (sign x) (sign y) (sign (x +ℤ y)) ≡ true
unfolding sign
sign-sum (pos zero) y = rw (+ℤ_idl y) (is_sign-self (sign y))
sign-sum (pos (suc a)) (pos zero) = ap (λ (z : ℤ). is_sign plus (sign z)) (+ℤ_idr (pos (suc a)))
sign-sum (pos (suc a)) (pos (suc b)) = ap (is_sign plus) (is-plus (suc a + suc b) (omega arith))
sign-sum (pos (suc a)) (negsuc b) = refl
sign-sum (negsuc a) (pos zero) = ap (λ (z : ℤ). is_sign minus (sign z)) (+ℤ_idr (negsuc a))
sign-sum (negsuc a) (pos (suc b)) = refl
sign-sum (negsuc a) (negsuc b) = refl

pub balance : (x y z : ℤ) → x +ℤ y +ℤ z ≡ pos 0 → balanced (sign x) (sign y) (sign z) ≡ true
balance x y z h =
    let e : z ≡ neg_ℤ (x +ℤ y) = adds-up (x +ℤ y) z h in
    let f : flip (sign z) ≡ sign (x +ℤ y) = ap (λ (t : ℤ). flip (sign t)) e ∙ ap flip (sign-neg (x +ℤ y)) ∙ flip-flip (sign (x +ℤ y)) in
    ap (sums (sign x) (sign y)) f ∙ sign-sum x y

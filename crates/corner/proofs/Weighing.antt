-- A number that counts y before x: K y + x, where x is less than K. Its sign is the sign of y, and that of x where y is 0.
use mathlib.Core.Path.{◌≡◌, refl, ap, ◌∙◌}
use mathlib.Core.List.{[], ◌∷◌}
use Prim.Native.Nat.{ℕ, zero, suc, ◌+◌, ◌*◌, ◌-◌, ◌≤◌, ◌<◌}
use native.Mathlib.Nat.{le-mul_of_pos_right}
use native.Mathlib.Omega.{arith}
use lib.IntN.{ℤ, pos, negsuc, neg_ℤ, nat_abs, ◌+ℤ◌, ◌*ℤ◌, +ℤ_idl, *ℤ-zero}
use borrow.Author.Tests.{le-ltb}
use Rattle.laws.proofs.Magnitudes.{nat_abs-neg}
use Rattle.laws.proofs.Ring.{ring, v, ◌⊞◌, ◌⊠◌, opp}
use Rattle.sheet.specs.Turning.{plus, sign}
use Rattle.corner.proofs.Signs.{flip, is-plus, sign-neg}
use Rattle.corner.proofs.Sides.{first_of}

module _ (K : ℕ) where
  abbrev pub weigh : ℤ → ℤ → ℤ
  weigh y x = pos K *ℤ y +ℤ x

  weigh-up : (n : ℕ) (x : ℤ) → nat_abs x < K → sign (weigh (pos (suc n)) x) ≡ plus
  weigh-up n (pos m) h = is-plus (K * suc n + m) (omega (arith, le-mul_of_pos_right {m = suc n} K (omega arith)))
  weigh-up n (negsuc m) h =
      let b : K ≤ K * suc n = le-mul_of_pos_right {m = suc n} K (omega arith) in
      rw (le-ltb (K * suc n) (suc m) (omega arith)) (is-plus (K * suc n - suc m) (omega arith))

  pub sign-weigh : (y x : ℤ) → nat_abs x < K → sign (weigh y x) ≡ first_of (sign y) (sign x)
  unfolding sign
  sign-weigh (pos zero) x h = ap sign (ap (λ (z : ℤ). z +ℤ x) (*ℤ-zero (pos K)) ∙ +ℤ_idl x)
  sign-weigh (pos (suc n)) x h = weigh-up n x h
  sign-weigh (negsuc n) x h =
      ap sign (ring (pos K ∷ pos (suc n) ∷ x ∷ []) (v 0 ⊠ opp (v 1) ⊞ v 2) (opp (v 0 ⊠ v 1 ⊞ opp (v 2))) refl) ∙
      sign-neg (weigh (pos (suc n)) (neg_ℤ x)) ∙ ap flip (weigh-up n (neg_ℤ x) (omega (arith, nat_abs-neg x)))

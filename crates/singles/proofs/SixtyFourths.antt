-- A whole number of 64ths as a single-precision number: what dividing by 64 gives, and that nothing is rounded, since 64 is a power of two.
use mathlib.Core.Path.{◌≡◌, refl, sym, ap, ◌∙◌}
use mathlib.Core.Bool.{Bool, true, false}
use Prim.Native.Nat.{ℕ, ◌*◌, ◌^◌, ◌≤◌, ◌<◌}
use native.Mathlib.Nat.{mul_assoc, mul-one, lt_of_lt_of_le}
use lib.Dec.{lit<, lit≤}
use lib.Pow.{pow-add, pow_mono, shl_lt}
use lib.IntN.{ℤ, pos, nat_abs}
use lib.Ieee.{fin, binary32, unlike, round, div}
use lib.Ieee.Exact.{HasValue, round_exact}
use Rattle.singles.specs.Singles.{is_negative, Exactly, single}
use Rattle.singles.proofs.WholeNumbers.{whole-exact}
use Rattle.singles.proofs.Quotients.{div-values}

-- n / 64 in units of 2 ^ -149
in-units : (n : ℕ) → n * 2 ^ 149 ≡ n * 2 ^ 143 * 64
in-units n = ap (λ (x : ℕ). n * x) (pow-add 2 143 6) ∙ sym (mul_assoc n (2 ^ 143) 64)

round-64ths : (s : Bool) (n : ℕ) → n < 16777216 → HasValue (round binary32 s n 64) s n 64
round-64ths s n h =
    let room : 167 ≤ 277 = lit≤ tt in
    round_exact binary32 s n 64 n 143 (lit< tt) h (lt_of_lt_of_le (shl_lt 24 143 h) (pow_mono room)) (in-units n)

pub sixty-fourth-exact : (z : ℤ) → nat_abs z < 16777216 → Exactly (single z 64) z 64
unfolding single
sixty-fourth-exact z h = round-64ths (is_negative z) (nat_abs z) h

-- the sign of a quotient by a number above 0
unlike-false : (s : Bool) → unlike s false ≡ s
unlike-false true = refl
unlike-false false = refl

pub over-64 : (z : ℤ) → nat_abs z ≤ 16777216 → div binary32 (single z 1) (fin false 1 (pos 6)) ≡ single z 64
unfolding single
over-64 z h =
    let v : HasValue (fin false 1 (pos 6)) false 64 1 = (refl, refl) in
    div-values binary32 (single z 1) (fin false 1 (pos 6)) (is_negative z) false (nat_abs z) 1 64 1 (lit< tt) (lit< tt) (whole-exact z h) v
    ∙ rw (unlike-false (is_negative z), mul-one (nat_abs z))

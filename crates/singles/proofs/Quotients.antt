-- The quotient of two floats whose values are known is one rounding of the exact quotient, in whatever way the two floats are written: equal fractions
-- round alike.
use mathlib.Core.Path.{◌≡◌, refl, sym, ◌∙◌}
use mathlib.Core.Bool.{Bool}
use Prim.Native.Nat.{ℕ, zero, suc, ◌*◌, ◌<◌}
use native.Mathlib.Nat.{mul_assoc, mul_comm, mul_left_comm, mul-pos, zero-mul, lt_irrefl, zero-lt-suc}
use borrow.Author.Tests.{ne_eqb}
use lib.IntN.{ℤ}
use lib.Ieee.{Float, fin, Format, up, down, unlike, round, div}
use lib.Ieee.Exact.{HasValue}
use lib.Ieee.Fits.{down_pos, up_pos}
use lib.Ieee.Scale.{round_same}

-- x / p is a / c and y / q is b / d: their quotients are one fraction
over : (x p a c y q b d : ℕ) → x * c ≡ a * p → y * d ≡ b * q → x * q * (b * c) ≡ a * d * (y * p)
over x p a c y q b d g h =
    let l : x * q * (b * c) ≡ x * c * (b * q) = simp (mul_assoc, mul_comm, mul_left_comm) in
    let r : a * d * (y * p) ≡ a * p * (y * d) = simp (mul_assoc, mul_comm, mul_left_comm) in
    l ∙ rw (g, ← h) (sym r)

-- a divisor whose value is not 0
not-zero : (n : ℕ) (e : ℤ) (b d : ℕ) → 0 < b → n * up e * d ≡ b * down e → n ≡ 0 → ⊥
not-zero n e b d p h z = lt_irrefl 0 (rw (z, zero-mul (up e), zero-mul d) at (rw (← h) at (mul-pos p (down_pos e))))

size-pos : (n : ℕ) (e : ℤ) (b d : ℕ) → 0 < b → n * up e * d ≡ b * down e → 0 < n * up e
size-pos zero e b d p h = absurd (not-zero 0 e b d p h refl)
size-pos (suc n) e b d p h = mul-pos (zero-lt-suc n) (up_pos e)

pub div-values : (f : Format) (x y : Float) (s t : Bool) (a c b d : ℕ) → 0 < c → 0 < b → HasValue x s a c → HasValue y t b d
    → div f x y ≡ round f (unlike s t) (a * d) (b * c)
unfolding div
div-values f lib.Ieee.nan y s t a c b d C B v k = elim v [ ]
div-values f (lib.Ieee.inf _) y s t a c b d C B v k = elim v [ ]
div-values f (fin u m e) lib.Ieee.nan s t a c b d C B v k = elim k [ ]
div-values f (fin u m e) (lib.Ieee.inf _) s t a c b d C B v k = elim k [ ]
div-values f (fin u m e) (fin w n g) s t a c b d C B v k =
    rw (ne_eqb n 0 (not-zero n g b d B k.1), ← v.0, ← k.0) (round_same f (unlike u w) (m * up e * down g) (n * up g * down e) (a * d) (b * c)
    (mul-pos (size-pos n g b d B k.1) (down_pos e)) (mul-pos B C) (over (m * up e) (down e) a c (n * up g) (down g) b d v.1 k.1))

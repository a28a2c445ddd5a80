-- A float that is z / c exactly is read back as z, whatever its size: the division that reads it leaves no remainder.
use mathlib.Core.Path.{◌≡◌, ap, ◌∙◌}
use mathlib.Core.Bool.{true, false, true≢false, false≢true}
use Prim.Native.Nat.{ℕ, suc, ◌*◌, ◌/◌}
use native.Mathlib.Nat.{mul-div_cancel}
use lib.IntN.{ℤ, pos, negsuc, neg_ℤ}
use lib.Ieee.{Float, fin, up, down}
use lib.Ieee.Fits.{down_pos}
use Rattle.singles.specs.Singles.{Exactly, read}

size-read : (m : ℕ) (e : ℤ) (n c : ℕ) → m * up e * c ≡ n * down e → m * up e * c / down e ≡ n
size-read m e n c h = ap (λ (x : ℕ). x / down e) h ∙ mul-div_cancel n (down_pos e)

pub read-exactly : (x : Float) (z : ℤ) (c : ℕ) → Exactly x z c → read c x ≡ z
unfolding read
read-exactly lib.Ieee.nan z c v = elim v [ ]
read-exactly (lib.Ieee.inf _) z c v = elim v [ ]
read-exactly (fin false m e) (pos n) c v = ap pos (size-read m e n c v.1)
read-exactly (fin true m e) (pos n) c v = absurd (true≢false v.0)
read-exactly (fin false m e) (negsuc n) c v = absurd (false≢true v.0)
read-exactly (fin true m e) (negsuc n) c v = ap (λ (x : ℕ). neg_ℤ (pos x)) (size-read m e (suc n) c v.1)

-- The sum of two numbers of 32 bits: what is stored of it where 32 bits hold it, and what is answered where it is not below 0.
use mathlib.Core.Path.{◌≡◌, refl, sym, ◌∙◌}
use mathlib.Core.Bool.{Bool, true, false, cond}
use mathlib.Core.Logic.{⊎_elim}
use Prim.Native.Nat.{ℕ, suc, ◌+◌, ◌-◌, ◌≤◌, ◌<◌}
use native.Mathlib.Omega.{arith}
use lib.Dec.{ltb}
use lib.IntN.{ℤ, pos, negsuc, ◌+ℤ◌}
use lib.Signed.{mag}
use mir.Syntax.{w32, w64}
use mir.Val.{SFits, to_z, of_z}
use mir.ValLaws.{to_z-of_z}
use borrow.Author.Tests.{lt-ltb, le-ltb}
use Rattle.std.specs.Prelude.{Option, Some, None, Result, Ok, Err, unsigned_abs}
use Rattle.std.specs.Option.{SomeIff, unwrap_or}
use Rattle.std.specs.Result.{OkIff, result_unwrap_or}
use Rattle.std.specs.Int.{FitsUnsignedBits}
use Rattle.laws.proofs.Deciding.{lt-or-le}
use Rattle.steps.specs.SweepDown.{natural_part}
use Rattle.sweep.specs.Lookup.{narrowed}

either-small : (n : ℕ) (t : Bool) (x y : ℕ) → x ≤ n → y ≤ n → mag (cond t (negsuc x) (pos y)) ≤ n
either-small n true x y hx hy = hx
either-small n false x y hx hy = hy

mag_sum : (a b : ℤ) → mag (a +ℤ b) ≤ mag a + mag b + 1
mag_sum (pos a) (pos b) = omega arith
mag_sum (pos a) (negsuc b) = either-small (a + b + 1) (ltb a (suc b)) (suc b - suc a) (a - suc b) (omega arith) (omega arith)
mag_sum (negsuc a) (pos b) = either-small (a + b + 1) (ltb b (suc a)) (suc a - suc b) (b - suc a) (omega arith) (omega arith)
mag_sum (negsuc a) (negsuc b) = omega arith

-- 64 bits hold a number of 32, and a sum of two
pub wide : (a : ℤ) → SFits w32 a → to_z w64 (of_z w64 a) ≡ a
wide a fa = to_z-of_z w64 a (record { sfits = omega (arith, fa.sfits) })

pub in64 : (a b : ℤ) → SFits w32 a → SFits w32 b → to_z w64 (of_z w64 (a +ℤ b)) ≡ a +ℤ b
in64 a b fa fb = to_z-of_z w64 (a +ℤ b) (record { sfits = omega (arith, mag_sum a b, fa.sfits, fb.sfits) })

-- what 32 bits hold is stored as it is
pub narrowed-held : (z : ℤ) → mag z < 2147483648 → narrowed z ≡ z
unfolding narrowed
narrowed-held z h = rw (lt-ltb (mag z) 2147483648 h)

-- a sum that 32 bits hold, otherwise 0
pub narrowed-or : (z : ℤ) (o : Option ℤ) → SomeIff o (SFits w32 z) z → unwrap_or o (pos 0) ≡ narrowed z
unfolding narrowed
narrowed-or z None h = ⊎_elim (λ l. absurd (h (record { sfits = l }))) (λ l. rw (le-ltb (mag z) 2147483648 l)) (lt-or-le (mag z) 2147483648)
narrowed-or z (Some x) h = h.1 ∙ sym (narrowed-held z h.0.sfits)

-- a sum that is not below 0, otherwise 0
pub natural-or : {E : Type 0} (a b : ℤ) → SFits w32 a → SFits w32 b → (o : Result ℕ E) → OkIff o (FitsUnsignedBits 32 (a +ℤ b)) (unsigned_abs (a +ℤ b)) → result_unwrap_or o 0 ≡ natural_part (a +ℤ b)
unfolding natural_part
natural-or a b fa fb o h = by (a +ℤ b) (omega (arith, mag_sum a b, fa.sfits, fb.sfits)) o h
  where
    by : {E : Type 0} (z : ℤ) → mag z < 4294967296 → (o : Result ℕ E) → OkIff o (FitsUnsignedBits 32 z) (unsigned_abs z) → result_unwrap_or o 0 ≡ natural_part z
    by (pos n) l (Ok x) h = h.1
    by (pos n) l (Err e) h = absurd (h l)
    by (negsuc n) l (Ok x) h = absurd h.0
    by (negsuc n) l (Err e) h = refl

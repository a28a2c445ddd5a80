-- A number of 31 bits as the code has it.
use mathlib.Core.Path.{◌≡◌}
use Prim.Native.Nat.{ℕ, ◌<◌}
use lib.IntN.{pos}
use mir.Syntax.{w32}
use mir.Val.{to_z}
use Rattle.laws.proofs.Bits.{read_back}

-- a number of 31 bits is itself as a signed one
pub plain-read : (n : ℕ) → n < 2147483648 → to_z w32 n ≡ pos n
plain-read n h = read_back (pos n) h

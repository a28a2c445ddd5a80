-- `whole` meets its contract: up to 2 ^ 24 the cast is exact.
use mathlib.Core.Path.{refl}
use mir.Syntax.{w32}
use mir.ValLaws.{to_z-of_z}
use Rattle.singles.proofs.WholeNumbers.{of_int_is, whole-exact}
use Rattle.singles.proofs.whole.Goals as goal

pub returns : goal.returns
returns c = rw (to_z-of_z w32 c.args.v c.ranges.v, of_int_is c.args.v) (record { nearest = refl; exact = whole-exact c.args.v c.requires })

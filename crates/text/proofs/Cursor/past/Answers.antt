-- `past` is the byte there compared. A byte that stands is inside the text, so the place after it is a number too.
use Rattle.std.proofs.Common.{arith, rules}
use Rattle.text.proofs.Bytes.{byte-stands}
use Rattle.text.proofs.Fields.{went_on, stayed}
use Rattle.text.proofs.Cursor.past.Goals as goal

pub returns-in_err-byte-clause-says : goal.returns-in_err-byte-clause-says
returns-in_err-byte-clause-says c = rw c.from_residual.ensures (stayed _ _ c.in_err-byte.ensures (λ q. omega arith))

pub returns-then-branch-byte-clause-says : goal.returns-then-branch-byte-clause-says
returns-then-branch-byte-clause-says c = stayed _ _ c.in_ok-byte.ensures c.if-branch-byte.true

pub overflow_add-at : goal.overflow_add-at
overflow_add-at c = omega (arith, byte-stands c.args.self.text.now c.args.self.at (omega (arith, c.in_ok-byte.ensures)))

pub returns-clause-says : goal.returns-clause-says
returns-clause-says c = went_on _ _ c.in_ok-byte.ensures (search rules)

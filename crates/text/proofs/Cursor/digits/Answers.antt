-- `digits` are as many bytes of what is left as are digits in front.
use Rattle.text.proofs.Numerals.{digits-taken}
use Rattle.text.proofs.Cursor.digits.Goals as goal

pub returns : goal.returns
returns c = digits-taken _ _ c.rest-rest.ensures c.digits_in_front-count.ensures

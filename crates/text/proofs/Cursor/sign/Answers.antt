-- `sign` goes by the byte that stands there.
use Rattle.text.proofs.Fields.{minus-passed, place-passed, no-minus, place-stays}
use Rattle.text.proofs.Cursor.sign.Goals as goal

pub returns-in-Some-clause-minus : goal.returns-in-Some-clause-minus
returns-in-Some-clause-minus c = minus-passed _ _ c.in-Some.ensures.says

pub returns-in-Some-clause-digits : goal.returns-in-Some-clause-digits
returns-in-Some-clause-digits c = place-passed _ _ c.in-Some.ensures.says

pub returns-in-None-clause-minus : goal.returns-in-None-clause-minus
returns-in-None-clause-minus c = no-minus _ _ c.in-None.ensures.says

pub returns-in-None-clause-digits : goal.returns-in-None-clause-digits
returns-in-None-clause-digits c = place-stays _ _ c.in-None.ensures.says

-- `number` goes by what its parts found: no numeral, or one with at most seven digits, which stands inside the text and fits.
use Rattle.std.proofs.Common.{arith, sym, ap, ◌∙◌}
use denote.Bor.{now}
use Rattle.text.proofs.Numerals.{no_number, is_number, a-number}
use Rattle.text.proofs.Cursor.number.Goals as goal

pub returns-then-not-is_numeral-clause-says : goal.returns-then-not-is_numeral-clause-says
returns-then-not-is_numeral-clause-says c =
    no_number _ _ c.sign-minus.ensures.minus c.sign-minus.ensures.digits (ap now c.sign-minus.ensures.text) c.digits-digits.ensures (sym c.is_numeral.ensures ∙ c.if-not-is_numeral.true)

pub value_of-requires-clause-few : goal.value_of-requires-clause-few
value_of-requires-clause-few c =
    (is_number _ _ c.sign-minus.ensures.minus c.sign-minus.ensures.digits (ap now c.sign-minus.ensures.text) c.digits-digits.ensures (sym c.is_numeral.ensures ∙ c.if-not-is_numeral.false)).few

pub value_of-requires-clause-digits : goal.value_of-requires-clause-digits
value_of-requires-clause-digits c =
    (is_number _ _ c.sign-minus.ensures.minus c.sign-minus.ensures.digits (ap now c.sign-minus.ensures.text) c.digits-digits.ensures (sym c.is_numeral.ensures ∙ c.if-not-is_numeral.false)).digits

pub with_sign-number-requires : goal.with_sign-number-requires
with_sign-number-requires c =
    let numeral =
    is_number _ _ c.sign-minus.ensures.minus c.sign-minus.ensures.digits (ap now c.sign-minus.ensures.text) c.digits-digits.ensures (sym c.is_numeral.ensures ∙ c.if-not-is_numeral.false) in
    omega (arith, numeral.small, c.value_of.ensures)

pub overflow_add-at : goal.overflow_add-at
overflow_add-at c =
    let numeral =
    is_number _ _ c.sign-minus.ensures.minus c.sign-minus.ensures.digits (ap now c.sign-minus.ensures.text) c.digits-digits.ensures (sym c.is_numeral.ensures ∙ c.if-not-is_numeral.false) in
    omega (arith, numeral.stands)

pub returns-clause-says : goal.returns-clause-says
returns-clause-says c =
    let numeral =
    is_number _ _ c.sign-minus.ensures.minus c.sign-minus.ensures.digits (ap now c.sign-minus.ensures.text) c.digits-digits.ensures (sym c.is_numeral.ensures ∙ c.if-not-is_numeral.false) in
    a-number numeral c.value_of.ensures c.with_sign-number.ensures

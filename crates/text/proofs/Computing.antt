use Rattle.std.specs.Prelude.{⊤}
use Rattle.text.specs.Said as said
use Rattle.text.specs.Numbers as numbers
use Rattle.text.specs.Lines as lines
use Rattle.text.specs.Texts as texts
use Rattle.laws.proofs.Computing.{counts_computed}

-- `unfolding texts_computed` lets `refl` read a text that is written out
unfoldable pub texts_computed : ⊤
unfolding
    counts_computed
    said.and_then
    numbers.byte_at
    numbers.is_digit
    numbers.minus_at
    numbers.digits_at
    numbers.digits_from
    numbers.value_at
    numbers.leading_zero
    numbers.minus_zero
    numbers.is_numeral
    numbers.with_sign
    numbers.numeral_at
    numbers.number_at
    lines.past_at
    lines.field_at
    lines.line_at
    lines.is_malformed
    texts.newline_at
    texts.newlines
    texts.unended
    texts.line_count
    texts.after_newline
    texts.line_start
    texts.line_of
    texts.first_malformed
    texts.past_limits
    texts.too_much
    texts.answer_of
    texts.reading_of
texts_computed = tt

-- `line_count` is the newlines and one line more where the last is unended.
use Rattle.std.proofs.Common.{ap, ◌∙◌}
use mir.Val.{bool_byte}
use Rattle.text.proofs.Newlines.{counted-all}
use Rattle.text.proofs.line_count.Goals as goal

pub returns : goal.returns
returns c = counted-all _ c.newline_count.ensures (c.from.ensures ∙ ap bool_byte c.is_unended.ensures)

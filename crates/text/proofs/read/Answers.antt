-- `read` tries the limits and the room and then reads the lines: one law for each way out.
use Rattle.text.proofs.Limits.{many-bytes, many-lines, little-room, lines-read}
use Rattle.text.proofs.read.Goals as goal

pub returns-then-text-gt-MOST_BYTES : goal.returns-then-text-gt-MOST_BYTES
returns-then-text-gt-MOST_BYTES c = many-bytes _ _ c.if-text-gt-MOST_BYTES.true

pub returns-then-lines-gt-MOST_LINES : goal.returns-then-lines-gt-MOST_LINES
returns-then-lines-gt-MOST_LINES c = many-lines _ c.if-text-gt-MOST_BYTES.false c.line_count-lines.ensures _ c.if-lines-gt-MOST_LINES.true

pub returns-then-edges-lines : goal.returns-then-edges-lines
returns-then-edges-lines c = little-room _
    c.if-text-gt-MOST_BYTES.false
    c.line_count-lines.ensures
    c.if-lines-gt-MOST_LINES.false
    _
    c.if-edges-lines.true

pub returns : goal.returns
returns c = lines-read _
    c.if-text-gt-MOST_BYTES.false
    c.line_count-lines.ensures
    c.if-lines-gt-MOST_LINES.false
    c.if-edges-lines.false
    c.read_lines.ensures

-- `print_sheet` tells by the place after the output whether it fits.
use Rattle.std.proofs.Common.{arith, rules}
use Rattle.std.proofs.lemmas.Grind.{common_steps}
use Rattle.printing.proofs.Pages.{put-on-page, page-too-short, page-whole}
use Rattle.printing.proofs.print_sheet.Goals as goal

pub returns-then-room-count : goal.returns-then-room-count
returns-then-room-count c = page-too-short (put-on-page c.new-output.ensures.bytes c.new-output.ensures.place c.put_sheet.ensures (search rules)) (search rules)

pub returns : goal.returns
returns c = page-whole (put-on-page c.new-output.ensures.bytes c.new-output.ensures.place c.put_sheet.ensures (grind (arith, common_steps))) (grind (arith, common_steps))

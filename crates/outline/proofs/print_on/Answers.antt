-- `print_on` has the output in front of the page: the page is never too short.
use Rattle.std.proofs.Common.{ap, rules, is_ok}
use Rattle.printing.proofs.EnoughPage.{always-fits}
use Rattle.outline.proofs.print_on.Goals as goal

pub unwrap-requires : goal.unwrap-requires
unwrap-requires c = ap is_ok (always-fits c.print_sheet.ensures (search rules))

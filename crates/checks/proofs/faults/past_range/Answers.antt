-- `checks::faults::past_range` meets its contract: with the tail in the range, the head decides.
use mathlib.Core.Path.{sym, ap, ◌∙◌}
use mathlib.Core.Bool.{not}
use Rattle.checks.specs.Faults.{end_past_range}
use Rattle.checks.proofs.faults.past_range.Goals as goal
use Rattle.checks.proofs.faults.past_range.Goals.{then-in_range, else-in_range}

pub returns : goal.returns
unfolding end_past_range
returns c =
    elim c.if-in_range.branch [
      | then-in_range w ↦ rw (sym c.in_range.ensures ∙ w.if-in_range.true) (ap not (w.result-is ∙ w.in_range-then-in_range.ensures))
      | else-in_range w ↦ rw (sym c.in_range.ensures ∙ w.if-in_range.false) (ap not (w.result-is ∙ w.if-in_range.false))
    ]

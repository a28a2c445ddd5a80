-- `checks::faults::alone_at_fault` meets its contract: each way out computes from the test that led there.
use mathlib.Core.Path.{sym, ◌∙◌}
use Rattle.checks.specs.Faults.{fault_alone}
use Rattle.checks.proofs.faults.alone_at_fault.Goals as goal

pub returns-then-past_limits : goal.returns-then-past_limits
unfolding fault_alone
returns-then-past_limits c = rw (sym c.past_limits.ensures ∙ c.if-past_limits.true) c.if-past_limits.true

pub returns-else-past_limits : goal.returns-else-past_limits
unfolding fault_alone
returns-else-past_limits c = rw (sym c.past_limits.ensures ∙ c.if-past_limits.false) c.equal_ends.ensures

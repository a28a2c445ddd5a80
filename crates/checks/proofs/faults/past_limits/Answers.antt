-- `checks::faults::past_limits` meets its contract: each way out computes from the test that led there.
use mathlib.Core.Path.{sym, ◌∙◌}
use Rattle.checks.specs.Faults.{limits_passed}
use Rattle.checks.proofs.faults.past_limits.Goals as goal

pub returns-then-past_range : goal.returns-then-past_range
unfolding limits_passed
returns-then-past_range c = rw (sym c.past_range.ensures ∙ c.if-past_range.true) c.if-past_range.true

pub returns-else-past_range : goal.returns-else-past_range
unfolding limits_passed
returns-else-past_range c = rw (sym c.past_range.ensures ∙ c.if-past_range.false) c.film_past_range.ensures

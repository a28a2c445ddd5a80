-- `checks::places::least_uneven` meets its contract: where as many arrive as leave no end passes the test, otherwise every end at the place does.
use mathlib.Core.Path.{ap, ◌∙◌}
use mathlib.Core.Bool.{not}
use native.Mathlib.Omega.{arith}
use borrow.Author.Rules.{rules}
use borrow.Author.Tests.{eq-eqb, ne_eqb}
use Rattle.laws.proofs.Counting.{count-le}
use Rattle.ends.specs.Ends.{arrives_in}
use Rattle.checks.specs.Places.{any_end}
use Rattle.checks.proofs.LeastEdge.{least-none, least-same}
use Rattle.checks.proofs.Visiting.{uneven-is}
use Rattle.checks.proofs.places.least_uneven.Goals as goal

pub overflow_mul-arriving : goal.overflow_mul-arriving
overflow_mul-arriving c = omega (arith, c.arriving.ensures, count-le (arrives_in c.args.words.now) c.args.to, c.requires.0.few, c.requires.1.within)

pub returns-then-arriving-to : goal.returns-then-arriving-to
returns-then-arriving-to c = least-none (λ k l h. uneven-is c.requires.1 _ c.arriving.ensures k l h ∙ ap not (eq-eqb _ _ c.if-arriving-to.true))

pub returns : goal.returns
returns c = least-same _ _ (λ k l h. uneven-is c.requires.1 _ c.arriving.ensures k l h ∙ ap not (ne_eqb _ _ c.if-arriving-to.false)) (c.least_edge.ensures any_end (λ k r l h t. search rules))

-- `Turns::runs` meets its contract: a position that names no edge, or whose pair does not come next, is none of a list that runs.
use mathlib.Core.Path.{refl, sym, ◌∙◌}
use native.Mathlib.Omega.{arith}
use Rattle.laws.proofs.Deciding.{not-both}
use Rattle.sheet.specs.TurnList.{number_lists}
use Rattle.cutter.proofs.Running.{carried_first, run_none, carried-next, run-further, run-all, next-along}
use Rattle.cutter.proofs.turning.Turns.runs.Goals as goal

pub loop-turn-init : goal.loop-turn-init
loop-turn-init c = (carried_first _ _, run_none _ _)

pub returns-then-self-e : goal.returns-then-self-e
unfolding number_lists
returns-then-self-e c = (λ q. absurd (not-both q refl), λ R. absurd (omega (arith, R.size, R.to_end.places c.loop-turn.turn-index (omega arith))))

pub returns-then-not-comes_next : goal.returns-then-not-comes_next
unfolding number_lists
returns-then-not-comes_next c = (
  λ q. absurd (not-both q refl),
  λ R. absurd (not-both (c.comes_next.ensures ∙ next-along _ _ R c.loop-turn.turn-index c.loop-turn.invariant.0 (omega arith)) c.if-not-comes_next.true),
)

pub loop-turn-preserved : goal.loop-turn-preserved
unfolding number_lists
loop-turn-preserved c =
    let l = c.loop-turn in
    let v = number_lists c.args.self.now.polygons.now c.args.self.now.sequences.now in
    (carried-next v _ _, run-further v _ l.invariant.1 l.invariant.0 (omega arith) (omega arith) (sym c.comes_next.ensures ∙ c.if-not-comes_next.false))

pub returns : goal.returns
unfolding number_lists
returns c = (λ _. run-all _ _ c.loop-turn.invariant.1 (omega arith) c.args.self.now.turns_long, λ _. refl)

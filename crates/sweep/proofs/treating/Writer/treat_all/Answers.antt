-- `sweep::treating::Writer::treat_all` meets its contract: an edge more is treated, or the sweep ends with it.
use borrow.Author.Rules.{rules}
use native.Mathlib.Omega.{arith}
use mathlib.Core.Path.{◌≡◌}
use Prim.Native.Nat.{ℕ}
use Rattle.sweep.specs.Treated.{slices}
use Rattle.sweep.proofs.Outcomes.{lent-on}
use Rattle.sweep.proofs.Sweeping.{swept-none, swept-on, swept-halted}
use Rattle.sweep.proofs.treating.Writer.treat_all.Goals as goal

pub loop-i-init : goal.loop-i-init
loop-i-init c = (search rules, swept-none (slices c.args.self.now) c.requires.unwritten.0 c.requires.unwritten.1)

pub returns-in-Err-clause-result_after : goal.returns-in-Err-clause-result_after
returns-in-Err-clause-result_after c = let V = c.loop-i.invariant in
    rw c.swept.ensures (swept-halted (slices c.args.self.now) c.loop-i-test.true V.1 V.0.kept c.edge.ensures.0 c.edge.ensures.2 c.edge.ensures.3 c.in-Err.ensures.treated c.requires.numbers)

pub loop-i-preserved : goal.loop-i-preserved
loop-i-preserved c = let V = c.loop-i.invariant in (
  lent-on V.0 c.treat_first.ensures.lent,
  swept-on (slices c.args.self.now) c.loop-i-test.true V.1 V.0.kept c.edge.ensures.0 c.edge.ensures.2 c.edge.ensures.3 c.in-Ok.ensures.treated,
)

pub returns-clause-result_after : goal.returns-clause-result_after
returns-clause-result_after c = let z : ◌≡◌ {A = ℕ} c.loop-i.i c.args.list.count = omega (arith, c.loop-i-test.false, c.loop-i.auto) in
    rw c.swept-2.ensures (rw z at (c.loop-i.invariant.1 c.requires.numbers).0)

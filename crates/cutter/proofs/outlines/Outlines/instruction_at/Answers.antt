-- `Outlines::instruction_at` meets its contract. The position that is found is the first whose count passes k; where none does, k is the lift behind the
-- last cut.
use native.Mathlib.Omega.{arith}
use mathlib.Core.Path.{sym, ◌∙◌, ap}
use Rattle.std.specs.Prelude.{Ok}
use Rattle.cutter.specs.declared.blade.Instruction.{Instruction}
use Rattle.cutter.proofs.KthInstruction.{when-past, when-lift, passed, when-found}
use Rattle.cutter.proofs.outlines.Outlines.instruction_at.Goals as goal

pub returns-then-past_last : goal.returns-then-past_last
returns-then-past_last c = let s = c.args.self.now in
    when-past c.args.machine s.edges.now s.polygons.now s.sequences.now s.turns.now c.requires.runs c.args.k (sym c.past_last.ensures ∙ c.if-past_last.true)

pub returns-in_default : goal.returns-in_default
returns-in_default c = let s = c.args.self.now in
    when-lift c.args.machine s.edges.now s.polygons.now s.sequences.now s.turns.now c.requires.runs c.args.k (sym c.past_last.ensures ∙ c.if-past_last.false) c.in_default.ensures

pub overflow_sub-up_to_cut : goal.overflow_sub-up_to_cut
overflow_sub-up_to_cut c = let s = c.args.self.now in
    let here = passed c.args.machine s.edges.now s.polygons.now s.sequences.now s.turns.now c.requires.runs c.args.k c.in-Some.i c.in-Some.ensures in
    omega (arith, here, c.up_to_cut.ensures)

pub returns : goal.returns
returns c = let s = c.args.self.now in
    ap (λ (i : Instruction). Ok i) c.before_end.ensures ∙ rw (c.at-edge.ensures, c.up_to_cut.ensures) (when-found c.args.machine s.edges.now s.polygons.now s.sequences.now s.turns.now c.requires.runs c.args.k c.in-Some.i c.in-Some.ensures)

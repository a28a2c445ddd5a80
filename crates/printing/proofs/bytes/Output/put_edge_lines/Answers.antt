-- `put_edge_lines` goes from the last edge to the first: at every step of the loop the lines of the edges below the place are to come, and make all of them.
use Rattle.std.proofs.Common.{◌≡◌, suc, ◌-◌, rules, arith}
use Rattle.printing.proofs.LinesLaid.{edge-lines-put, no-lines-put}
use Rattle.printing.proofs.bytes.Output.put_edge_lines.Goals as goal

pub loop-place-init : goal.loop-place-init
loop-place-init c = (search rules, λ z h. h)

pub loop-place-preserved : goal.loop-place-preserved
loop-place-preserved c = (
  omega (arith, c.put_edge.ensures.1),
  λ z h.
      let place = c.loop-place.place in
      let e : suc (place - 1) ≡ place = omega arith in
      c.loop-place.invariant.1 z (rw e at (edge-lines-put c.args.polygons.now c.args.sequences.now (place - 1) c.put_edge.ensures.0 h)),
)

pub returns : goal.returns
returns c = c.loop-place.invariant.1 _ (no-lines-put _ _ c.loop-place.place _ c.loop-place-test.false)

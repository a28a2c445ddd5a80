-- `put_sheet` prints what is read: the edges' outcome, or the refusal.
use Rattle.std.proofs.Common.{arith, rules, sym}
use Rattle.std.proofs.Math.Seq.{length-take-le}
use Rattle.printing.proofs.Pages.{few-edges, edges-printed, refusal-printed}
use Rattle.printing.proofs.put_sheet.Goals as goal

pub overflow_mul-edges : goal.overflow_mul-edges
overflow_mul-edges c = omega (arith, few-edges _ (search rules) c.read.ensures c.in-Ok.is)

pub slice_bounds-edges-end : goal.slice_bounds-edges-end
slice_bounds-edges-end c = (few-edges _ (search rules) c.read.ensures c.in-Ok.is).1

pub slice_bounds-put_edges-end : goal.slice_bounds-put_edges-end
slice_bounds-put_edges-end c = sym (length-take-le _ _ (few-edges _ (search rules) c.read.ensures c.in-Ok.is).1)

pub put_edges-requires : goal.put_edges-requires
put_edges-requires c = (search rules, (few-edges _ (search rules) c.read.ensures c.in-Ok.is).0)

pub returns-in-Ok : goal.returns-in-Ok
returns-in-Ok c = edges-printed _ (search rules) c.read.ensures _ c.in-Ok.is c.put_edges.ensures

pub returns-in-Err : goal.returns-in-Err
returns-in-Err c = refusal-printed _ (search rules) c.read.ensures c.in-Err.refusal c.in-Err.is c.number.ensures c.place.ensures c.put_refusal.ensures

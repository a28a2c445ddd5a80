-- `put` writes an edge's five numbers at its place.
use Rattle.std.proofs.Common.{arith, rules}
use Rattle.std.proofs.lemmas.Int.{to_z-of_z}
use mir.Syntax.{w32}
use mir.Val.{SFits}
use Rattle.text.proofs.Rooms.{five-placed}
use Rattle.text.proofs.put.Goals as goal

pub returns : goal.returns
returns c =
    let e = c.args.edge in
    let tail_x : SFits w32 e.tail.x = search rules in
    let tail_y : SFits w32 e.tail.y = search rules in
    let head_x : SFits w32 e.head.x = search rules in
    let head_y : SFits w32 e.head.y = search rules in
    let film : SFits w32 e.film = search rules in
    let numbers =
    rw (
      to_z-of_z w32 e.tail.x tail_x,
      to_z-of_z w32 e.tail.y tail_y,
      to_z-of_z w32 e.head.x head_x,
      to_z-of_z w32 e.head.y head_y,
      to_z-of_z w32 e.film film,
    ) at c.copy_from_slice.ensures.after in
    five-placed c.args.edges.now c.args.place _ e (omega arith) (omega arith) numbers

-- `sweep::treating::Writer::as_edge` meets its contract. The row's tips and lengths, read side by side; both tips are on its film.
use borrow.Author.Rules.{rules}
use mathlib.Core.Bool.{false}
use Prim.Native.Nat.{◌<◌}
use lib.Signed.{mag}
use Rattle.laws.proofs.Bits.{read_back}
use Rattle.steps.specs.SweepUp.{as_edge}
use Rattle.rows.specs.Layout.{on_film, look_row}
use Rattle.rows.proofs.Looking.{one_film}
use Rattle.sweep.proofs.treating.Writer.as_edge.Goals as goal

pub returns-clause-edge : goal.returns-clause-edge
unfolding as_edge
returns-clause-edge c =
    let a = c.args.self.now.rows.now in
    let row = look_row a c.args.r in
    let film : mag c.tip_of-falling_tip.result.film < 2147483648 = search rules in (
      rw (read_back c.tip_of-falling_tip.result.film film, c.tip_of-falling_tip.ensures, c.tip_of-rising_tip.ensures, c.length_of.ensures.0, c.length_of-2.ensures.0)
          (λ i.
          record {
            name = c.args.r;
            tail = row.branch.falling.tip;
            head = on_film (one_film a c.args.r i) row.branch.rising.tip.point;
            length = record { rising = row.branch.rising.length; falling = row.branch.falling.length };
            apart = false;
          }),
      c.length_of-2.ensures.1,
    )

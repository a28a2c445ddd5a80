-- `Numbers::order_keys` meets its contract: what was packed is sorted.
use Rattle.std.proofs.Common.{◌≡◌, length, arith}
use Rattle.sheet.specs.TurnList.{number_lists}
use Rattle.turns.proofs.Keys.{keyed-sorted}
use Rattle.turns.proofs.numbers.Numbers.order_keys.Goals as goal

pub returns-clause-keyed : goal.returns-clause-keyed
unfolding number_lists
returns-clause-keyed c =
    let long : length c.pack_keys.new.keys ≡ length c.args.self.now.polygons.now = omega arith in
    keyed-sorted c.pack_keys.ensures (rw long at c.sort.ensures) (omega arith) c.args.self.now.narrow

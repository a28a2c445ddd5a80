-- `Rising::place_from` meets its contract: the library's `partition_point` finds where the keys that are below end.
use Rattle.std.proofs.Common.{rules}
use lib.Dec.{ltb}
use Rattle.std.proofs.lemmas.List.Sorted.{IsPartitionPoint-from_clause}
use Rattle.turns.proofs.Places.{below-first, parted}
use Rattle.turns.proofs.rising.Rising.place_from.Goals as goal

pub returns : goal.returns
returns c = let keys = c.args.self.now.words.now in
    parted c.args.self.now.rising c.args.key c.partition_point.ensures.bound
    (IsPartitionPoint-from_clause (λ word. ltb word c.args.key) keys _ c.partition_point.ensures.partitioned (below-first c.args.self.now.rising c.args.key) (λ a r q k. search rules))

use Rattle.std.specs.Prelude.{⊤}
use Rattle.laws.specs.Counting as counting
use Rattle.laws.specs.Listing as listing

-- `unfolding counts_computed` lets `refl` count and list where all is written out
unfoldable pub counts_computed : ⊤
unfolding
    counting.count
    counting.some_below
    counting.first
    counting.first_from
    listing.listed
counts_computed = tt

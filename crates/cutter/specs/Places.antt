-- A place of each machine (02, M-102): two single-precision numbers in millimetres, a unit of the list being 1/64 mm; and the point read back from it.
use Rattle.std.specs.Prelude.{ℤ, neg_ℤ, Float}
use Rattle.singles.specs.Singles.{Exactly, single, read}
use Rattle.sheet.specs.declared.Point.{Point}
use Rattle.cutter.specs.declared.machines.Machine.{Machine}
use Rattle.cutter.specs.declared.machines.Machine.TheVariants.{Flatbed, RollFeeder}
use Rattle.cutter.specs.declared.machines.Place.{Place}

unfoldable pub millimetres_of : ℤ → Float
millimetres_of v = single v 64

-- the flatbed takes x and y, the roll feeder y and then x negated
unfoldable pub place_for : Machine → Point → Place
place_for Flatbed p = record { first = millimetres_of p.x; second = millimetres_of p.y }
place_for RollFeeder p = record { first = millimetres_of p.y; second = millimetres_of (neg_ℤ p.x) }

-- the way back
unfoldable pub point_at : Machine → Place → Point
point_at Flatbed q = record { x = read 64 q.first; y = read 64 q.second }
point_at RollFeeder q = record { x = neg_ℤ (read 64 q.second); y = read 64 q.first }

-- a place is its point's exactly: nothing is lost, and a zero is plus zero
abbrev pub ExactPlace : Machine → Point → Place → Type 0
ExactPlace Flatbed p q = Exactly q.first p.x 64 × Exactly q.second p.y 64
ExactPlace RollFeeder p q = Exactly q.first p.y 64 × Exactly q.second (neg_ℤ p.x) 64

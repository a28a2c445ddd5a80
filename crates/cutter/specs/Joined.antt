-- The lists that outlines can be cut from: what is left once 1, 2, 5, 16, 6, 11 to 14 and 24 are passed. Counting
-- instructions asks for the first record, 25 for the second, the instructions for the third.
use Rattle.std.specs.Prelude.{ℕ, ◌*◌, ◌≤◌, ◌<◌, ◌≡◌, true, List, ℤ, length, get_or}
use Rattle.sheet.specs.Points.{in_range}
use Rattle.sheet.specs.Edges.{edge_at}
use Rattle.sheet.specs.TurnList.{number_lists}
use Rattle.sheet.specs.Amounts.{numbers_per_edge, most_edges}
use Rattle.cutter.specs.Runs.{Runs}

-- a turn list whose edges have their number in a list of numbers
pub record Within (numbers turns : List ℕ) : Type 0 where
  pub few : length turns ≤ most_edges
  pub edges : (i : ℕ) → i < length turns → get_or turns i 0 < length numbers

-- .. with as many positions before each edge as its sequence number says
pub record Standing (sequences turns : List ℕ) : Type 0 where
  pub within : Within sequences turns
  pub before : (i : ℕ) → i < length turns → get_or sequences (get_or turns i 0) 0 ≤ i

pub record Drawable (list : List ℤ) (polygons sequences turns : List ℕ) : Type 0 where
  pub few : length polygons ≤ most_edges
  pub long : numbers_per_edge * length polygons ≤ length list
  pub same : length sequences ≡ length polygons
  pub tails : (e : ℕ) → e < length polygons → in_range (edge_at list e).tail ≡ true
  pub heads : (e : ℕ) → e < length polygons → in_range (edge_at list e).head ≡ true
  pub runs : Runs (number_lists polygons sequences) turns

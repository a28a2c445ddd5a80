-- What a row opened and the end of step 4 leave of rows, index and counts. The index is that of the crate finding, and nothing is said of it here but that it stays good.
use Rattle.std.specs.Prelude.{ℕ, ◌+◌, max, ◌≡◌, Option, Some, None, List, ℤ}
use Rattle.steps.specs.declared.Side.{Side}
use Rattle.steps.specs.Rows.{other_side, lowest_free}
use Rattle.rows.specs.declared.Place.{Place}
use Rattle.rows.specs.Layout.{HasRow, look_row, finished_in}
use Rattle.finding.specs.Free.{peak_in}
use Rattle.finding.specs.Index.{marked_in, none, only, Long, Indexed}
use Rattle.sweep.specs.declared.NamedEdge.{NamedEdge}
use Rattle.sweep.specs.Slices.{number_below}

-- row r opened for an edge that works on the side: its tip there is not yet known
pub record Opened (a : List ℤ) (index c : List ℕ) (r : ℕ) (side : Side) (p : Place) (k : ℕ) (a₁ : List ℤ) (index₁ c₁ : List ℕ) : Type 0 where
  pub peak : peak_in c₁ ≡ max (peak_in c) (r + 1)
  pub good : (number : Place → ℕ) → Indexed number index a c none → r ≡ lowest_free look_row a (peak_in c) → (Long index c → k ≡ number p) → Indexed number index₁ a₁ c₁ (only r side)

-- a row that is found is there
abbrev pub HasFound : List ℤ → Option ℕ → Type 0
HasFound a None = Unit {0}
HasFound a (Some q) = HasRow a q

-- the end of step 4: the tip of row r marked, or it and the branch that it meets finished
abbrev pub Meets : List ℤ → List ℕ → ℕ → Side → NamedEdge → ℕ → Option ℕ → Option (ℕ × ℕ) → List ℤ → List ℕ → Type 0
Meets a index level side e r None o a₁ index₁ = (o ≡ None) × (a₁ ≡ a) × (index₁ ≡ marked_in a index level side (number_below (other_side side) e) r)
Meets a index level side e r (Some q) o a₁ index₁ = (o ≡ Some (q, r)) × (a₁ ≡ finished_in (finished_in a q (other_side side)) r side) × (index₁ ≡ index)

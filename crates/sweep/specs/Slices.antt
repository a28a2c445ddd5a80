-- The steps on the lent slices: places are points with films, a table of rows and a journal are slices of numbers. The code's own values, its progress and an edge
-- with its name and lengths, as the steps have them.
use Rattle.std.specs.Prelude.{ℕ, ◌+◌, ◌*◌, ◌<◌, ◌≡◌, Bool, true, false, List, ℤ, get_or, Result, ⊤, Ok, Err}
use Rattle.rows.specs.declared.Place.{Place}
use Rattle.sheet.specs.Rank.{place_on}
use Rattle.sheet.specs.Edges.{edge_at, drawing_of}
use Rattle.sheet.specs.Corners.{apart}
use Rattle.steps.specs.Rows.{LevelEdge, Room}
use Rattle.steps.specs.declared.Side.{Side}
use Rattle.steps.specs.declared.Side.TheVariants.{Rising, Falling}
use Rattle.steps.specs.SweepUp.{State, Sweep, list_edge}
use Rattle.rows.specs.Layout as rows
use Rattle.rows.specs.Layout.{on_film, film_places}
use Rattle.finding.specs.Free.{peak_in}
use Rattle.steps.specs.Swept.{rows_in}
use Rattle.journal.specs.Layout as journal
use Rattle.journal.specs.Layout.{records_in}
use Rattle.sweep.specs.declared.Progress.{Progress}
use Rattle.sweep.specs.declared.NamedEdge.{NamedEdge}
use Rattle.sweep.specs.declared.Swept.{Swept}
use Rattle.steps.specs.declared.Halt.{Halt}

-- so many rows, of which all may be in use, and so many records
unfoldable pub room : ℕ → ℕ → Room Place (List ℤ) (List ℤ)
room n m = record { places = film_places; table = rows.row_slice; journal = journal.record_slice; rows = n; share = n; records = m }

-- as many as two slices have
abbrev pub lent_room : List ℤ → List ℤ → Room Place (List ℤ) (List ℤ)
lent_room a b = room (rows_in a) (records_in b)

-- the code looks for rows only as far as they have been opened, and as the lowest free row is opened that is the peak: one number serves for both
abbrev pub state : List ℤ → List ℤ → Progress → State (List ℤ) (List ℤ)
state a b s = record { rows = a; journal = b; records = s.records; reach = s.peak; peak = s.peak; end = s.end }

abbrev pub edge_of : NamedEdge → LevelEdge Place
edge_of e = record { name = e.name; tail = on_film e.film e.tail; head = on_film e.film e.head; length = record { rising = e.rising; falling = e.falling }; apart = e.apart }

-- the number of an edge's bottom, by side
abbrev pub number_below : Side → NamedEdge → ℕ
number_below Rising e = e.tails
number_below Falling e = e.heads

-- how far the sweep has come by the number of records and the counts, which are of the crate finding
abbrev pub progress : ℕ → List ℕ → Result ⊤ Halt → Progress
progress records counts t = record { records = records; peak = peak_in counts; end = t }

-- which places of a list are apart
unfoldable pub apart_at : List ℤ → Place → Bool
apart_at s p = apart (drawing_of s) (place_on p.film p.point)

-- the edges of a list at level 0
abbrev pub list_edges : List ℤ → ℕ → LevelEdge Place
list_edges s i = list_edge film_places (apart_at s) i (on_film (edge_at s i).film (edge_at s i).tail) (on_film (edge_at s i).film (edge_at s i).head)

-- a mark for each of n edges: whether the place of its top is apart
abbrev pub TopsMarked : List ℤ → ℕ → List Bool → Type 0
TopsMarked s n marks = (i : ℕ) → i < n → get_or marks i false ≡ (list_edges s i).apart

-- the number of the place of each end of n edges, an edge's tail first, then its head
pub record PlacesNumbered (s : List ℤ) (n : ℕ) (numbers : List ℕ) : Type 0 where
  pub number : Place → ℕ
  pub tails : (i : ℕ) → i < n → get_or numbers (2 * i) 0 ≡ number (list_edges s i).tail
  pub heads : (i : ℕ) → i < n → get_or numbers (2 * i + 1) 0 ≡ number (list_edges s i).head

abbrev pub is_done : Result ⊤ Halt → Bool
is_done (Ok _) = true
is_done (Err _) = false

abbrev pub swept : List ℤ → List ℤ → Swept → Sweep (List ℤ) (List ℤ)
swept a b w = record { state = state a b w.progress; edge = w.edge }

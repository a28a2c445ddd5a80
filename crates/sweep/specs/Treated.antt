-- What the parts of a treatment leave: the slices as the steps leave them, wherever the index and the counts beside the rows were good, and these good again.
use Rattle.std.specs.Prelude.{ℕ, ◌≤◌, ◌<◌, ◌≡◌, true, Option, Some, None, Result, ⊤, Ok, Err, List, ℤ, length}
use Rattle.steps.specs.declared.Side.{Side}
use Rattle.steps.specs.declared.Halt.{Halt}
use Rattle.steps.specs.declared.Halt.TheVariants.{NoFreeRow}
use Rattle.steps.specs.Rows.{other_side, LevelEdge, Room, lowest_free}
use Rattle.steps.specs.SweepUp as up
use Rattle.steps.specs.SweepUp.{State, found_below, pick_meeting}
use Rattle.steps.specs.Swept.{rows_in}
use Rattle.rows.specs.declared.Place.{Place}
use Rattle.rows.specs.Layout.{HasRow, film_places, film_in, look_row, has_tip_in}
use Rattle.finding.specs.Free.{peak_in, InUse}
use Rattle.finding.specs.Index.{tip_of, Tips, none, only, all_on, Long, Indexed}
use Rattle.sweep.specs.declared.NamedEdge.{NamedEdge}
use Rattle.sweep.specs.declared.treating.Writer.{Writer}
use Rattle.sweep.specs.Slices.{lent_room, state, edge_of, progress, number_below}

-- rows, journal, index, counts and the number of records, before or after
pub record Slices : Type 0 where
  pub rows : List ℤ
  pub journal : List ℤ
  pub index : List ℕ
  pub counts : List ℕ
  pub records : ℕ

abbrev pub slices : Writer → Slices
slices w = record { rows = w.rows.now; journal = w.journal.now; index = w.index.now; counts = w.counts.now; records = w.records }

-- the steps' room and state by them
abbrev pub room_of : Slices → Room Place (List ℤ) (List ℤ)
room_of l = lent_room l.rows l.journal

abbrev pub state_of : Slices → Result ⊤ Halt → State (List ℤ) (List ℤ)
state_of l t = state l.rows l.journal (progress l.records l.counts t)

abbrev pub Good : (Place → ℕ) → Slices → Tips → Type 0
Good number l but = Indexed number l.index l.rows l.counts but

-- an edge has the numbers of its places, where the index is long enough for the rows
abbrev pub Numbered : (Place → ℕ) → Slices → NamedEdge → Type 0
Numbered number l e = Long l.index l.counts → (side : Side) → number_below side e ≡ number (up.bottom side (edge_of e))

-- how the steps go on with an edge of the next level
abbrev pub Next : Type 0
Next = State (List ℤ) (List ℤ) → LevelEdge Place → State (List ℤ) (List ℤ)

-- the lengths stay
pub record Kept (l l₁ : Slices) : Type 0 where
  pub rows : length l₁.rows ≡ length l.rows
  pub journal : length l₁.journal ≡ length l.journal
  pub index : length l₁.index ≡ length l.index

-- what is lent stays the same, and keeps its length
pub record SameLent (w w₁ : Writer) : Type 0 where
  pub rows : w₁.rows.ghost_name ≡ w.rows.ghost_name
  pub journal : w₁.journal.ghost_name ≡ w.journal.ghost_name
  pub kept : Kept (slices w) (slices w₁)

-- all but the journal and the number of records is as it was
pub record OnlyWritten (l l₁ : Slices) : Type 0 where
  pub rows : l₁.rows ≡ l.rows
  pub index : l₁.index ≡ l.index
  pub counts : l₁.counts ≡ l.counts

-- what a search for an edge's bottom on a side finds
pub record Found (l : Slices) (level : ℕ) (side : Side) (e : NamedEdge) (f : Option ℕ) : Type 0 where
  pub there : (q : ℕ) → f ≡ Some q → (has_tip_in l.rows level side (up.bottom side (edge_of e)) q ≡ true) × (q < peak_in l.counts)
  pub found : (number : Place → ℕ) → Good number l (all_on (other_side side)) → Numbered number l e → f ≡ found_below (has_tip_in l.rows level side (up.bottom side (edge_of e))) (peak_in l.counts)

-- what step 4's search finds: nothing where the edge's top is apart
pub record Met (l : Slices) (level : ℕ) (side : Side) (e : NamedEdge) (f : Option ℕ) : Type 0 where
  pub there : (q : ℕ) → f ≡ Some q → (has_tip_in l.rows level (other_side side) (up.top side (edge_of e)) q ≡ true) × (q < peak_in l.counts)
  pub found : (number : Place → ℕ) → Good number l (all_on (other_side (other_side side))) → Numbered number l e →
      f ≡ pick_meeting e.apart (found_below (has_tip_in l.rows level (other_side side) (up.top side (edge_of e))) (peak_in l.counts))

-- the lowest free row, where the slice has it
abbrev pub Free : Slices → Result ℕ Halt → Type 0
Free l (Ok r) = (r < rows_in l.rows) × (InUse l.counts l.rows → r ≡ lowest_free look_row l.rows (peak_in l.counts))
Free l (Err t) = (t ≡ NoFreeRow) × (InUse l.counts l.rows → rows_in l.rows ≤ lowest_free look_row l.rows (peak_in l.counts))

-- the row of an edge's chain, found or opened: the steps go on with it; where there is none, they end
abbrev pub ChainLeaves : Slices → ℕ → Side → NamedEdge → (Place → ℕ) → Next → Result ℕ Halt → Slices → Type 0
ChainLeaves l level side e number next (Ok r) l₁ =
    Good number l₁ (only r side) × (up.steps_on (room_of l) next (state_of l (Ok tt)) level side (edge_of e) ≡ up.on_row (room_of l) next (state_of l₁ (Ok tt)) level side (edge_of e) r)
ChainLeaves l level side e number next (Err t) l₁ = up.steps_on (room_of l) next (state_of l (Ok tt)) level side (edge_of e) ≡ state_of l₁ (Err t)

-- it is there, of the edge's level and film, and below the peak
abbrev pub ChainRow : ℕ → NamedEdge → Result ℕ Halt → Slices → Type 0
ChainRow level e (Ok r) l₁ = HasRow l₁.rows r × ((look_row l₁.rows r).level ≡ level) × (film_in l₁.rows r ≡ e.film) × (r < peak_in l₁.counts)
ChainRow level e (Err t) l₁ = Unit {0}

pub record Chained (l : Slices) (level : ℕ) (side : Side) (e : NamedEdge) (o : Result ℕ Halt) (l₁ : Slices) : Type 0 where
  pub grows : peak_in l.counts ≤ peak_in l₁.counts
  pub row : ChainRow level e o l₁
  pub leaves : (number : Place → ℕ) → Good number l none → Numbered number l e → (next : Next) → ChainLeaves l level side e number next o l₁

-- an edge attached to row r: the tip is at its top, and not yet known
pub record Attached (l : Slices) (level : ℕ) (side : Side) (e : NamedEdge) (r : ℕ) (t : Result ⊤ Halt) (l₁ : Slices) : Type 0 where
  pub leaves : state_of l₁ t ≡ up.attach (room_of l) (state_of l (Ok tt)) level side (edge_of e) r
  pub peak : peak_in l₁.counts ≡ peak_in l.counts
  pub level_kept : (look_row l₁.rows r).level ≡ (look_row l.rows r).level
  pub tip : t ≡ Ok tt → film_in l.rows r ≡ e.film → tip_of l₁.rows r side ≡ up.top side (edge_of e)
  pub good : (number : Place → ℕ) → Good number l (only r side) → Numbered number l e → film_in l.rows r ≡ e.film → Good number l₁ (only r side)

-- the four steps as far as two branches met: the steps end, or are done, or pass both rows up
abbrev pub StepLeaves : Slices → ℕ → NamedEdge → (Place → ℕ) → Next → Result (Option (ℕ × ℕ)) Halt → Slices → Type 0
StepLeaves l level e number next (Err t) l₁ = state_of l₁ (Err t) ≡ up.steps_on (room_of l) next (state_of l (Ok tt)) level (up.side_of film_places (edge_of e)) (edge_of e)
StepLeaves l level e number next (Ok None) l₁ =
    (state_of l₁ (Ok tt) ≡ up.steps_on (room_of l) next (state_of l (Ok tt)) level (up.side_of film_places (edge_of e)) (edge_of e)) × Good number l₁ none
StepLeaves l level e number next (Ok (Some p)) l₁ =
    (up.pass_both (room_of l) next (state_of l₁ (Ok tt)) p.0 p.1 ≡ up.steps_on (room_of l) next (state_of l (Ok tt)) level (up.side_of film_places (edge_of e)) (edge_of e))
    × Good number l₁ none × (p.0 < peak_in l₁.counts) × (p.1 < peak_in l₁.counts)

-- the two rows are there
abbrev pub StepRows : Result (Option (ℕ × ℕ)) Halt → Slices → Type 0
StepRows (Err t) l₁ = Unit {0}
StepRows (Ok None) l₁ = Unit {0}
StepRows (Ok (Some p)) l₁ = HasRow l₁.rows p.0 × HasRow l₁.rows p.1

pub record Stepped (l : Slices) (level : ℕ) (e : NamedEdge) (o : Result (Option (ℕ × ℕ)) Halt) (l₁ : Slices) : Type 0 where
  pub grows : peak_in l.counts ≤ peak_in l₁.counts
  pub both : StepRows o l₁
  pub leaves : (number : Place → ℕ) → Good number l none → Numbered number l e → (next : Next) → StepLeaves l level e number next o l₁

-- a treatment, or a part of one that ends it: what the steps leave, where all was good and the numbers are right
pub record Treated (right : (Place → ℕ) → Type 0) (before after : Slices) (t : Result ⊤ Halt) (want : State (List ℤ) (List ℤ)) : Type 0 where
  pub grows : peak_in before.counts ≤ peak_in after.counts
  pub told : (number : Place → ℕ) → Good number before none → right number → (state_of after t ≡ want) × (t ≡ Ok tt → Good number after none)

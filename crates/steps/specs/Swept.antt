-- The two sweeps of a drawing as document 01 runs them, on plain tables: all rows are free at the start, all of them are looked at and may be in use, and the
-- journal has room for two records an edge, which is what refusal 4 asks for.
use Rattle.std.specs.Prelude.{ℕ, ◌*◌, ◌/◌, ◌<◌, ◌≡◌, eqb, ltb, List, ℤ, pos, length, None, Ok, Err}
use Rattle.sheet.specs.Edges.{Drawing}
use Rattle.sheet.specs.Corners.{apart}
use Rattle.steps.specs.Rows.{Row, closing, Record, LevelEdge, Places, Room}
use Rattle.steps.specs.SweepUp.{Sweep, side_of, bottom, find, in_use, levels, treat, sweep_up, list_edge, start}
use Rattle.steps.specs.SweepDown.{Pair, Reading, sweep_down}
use Rattle.steps.specs.Plain.{new_row, free_row, plain_table, plain_journal, plain_tables}
use Rattle.steps.specs.declared.Halt.TheVariants.{NoFreeRow}

abbrev pub places_of : Drawing → Places ℕ
places_of sh = record { same = eqb; below = λ p q. ltb (sh.height p) (sh.height q) }

abbrev pub plain_room : Drawing → ℕ → ℕ → Room ℕ (ℕ → Row ℕ) (ℕ → Record)
plain_room sh rows records = record { places = places_of sh; table = plain_table; journal = plain_journal; rows = rows; share = rows; records = records }

-- the drawing's edges at level 0
abbrev pub drawn_edge : Drawing → ℕ → LevelEdge ℕ
drawn_edge sh i = list_edge (places_of sh) (apart sh) i (sh.tail i) (sh.head i)

-- the numbers of a row and of a record in the slices lent
abbrev pub numbers_per_row : ℕ
numbers_per_row = 8

abbrev pub numbers_per_record : ℕ
numbers_per_record = 4

-- how many rows a slice has; a part of a row at the end is no row
abbrev pub rows_in : List ℤ → ℕ
rows_in s = length s / numbers_per_row

-- before the first edge
abbrev pub free_rows : ℕ → Row ℕ
free_rows r = free_row (new_row 0 0)

abbrev pub no_records : ℕ → Record
no_records k = record { level = 0; name = 0; chain = closing; offset = pos 0 }

abbrev pub no_pairs : ℕ → Pair
no_pairs e = record { polygon = 0; sequence = pos 0 }

-- the first k edges swept up with so many rows
unfoldable pub swept_to : Drawing → ℕ → ℕ → Sweep (ℕ → Row ℕ) (ℕ → Record)
swept_to sh rows k = sweep_up (plain_room sh rows (2 * sh.edges)) (drawn_edge sh) (start rows free_rows no_records) k

-- the records read down
unfoldable pub read_down : (ℕ → Record) → ℕ → Reading (ℕ → Pair) (ℕ → Pair)
read_down j n = sweep_down plain_tables plain_journal j n (record { table = no_pairs; answers = no_pairs; polygons = 0 })

-- step 1 finds no free row while edge e of the list is treated: the edges before it are treated, and its own treatment ends so
pub record LacksRow (sh : Drawing) (rows e : ℕ) : Type 0 where
  pub is_edge : e < sh.edges
  pub before : (swept_to sh rows e).state.end ≡ Ok tt
  pub lacking : (treat (plain_room sh rows (2 * sh.edges)) levels 0 (swept_to sh rows e).state (drawn_edge sh e)).end ≡ Err NoFreeRow

-- .. and then it is the edge itself that finds no row, while all rows are in use: an edge passed up is never without one, since its own row was freed first (M-103)
pub record LacksItself (sh : Drawing) (rows e : ℕ) : Type 0 where
  pub unfound : find (plain_room sh rows (2 * sh.edges)) (swept_to sh rows e).state 0 (side_of (places_of sh) (drawn_edge sh e)) (bottom (side_of (places_of sh) (drawn_edge sh e)) (drawn_edge sh e)) ≡ None
  pub all_in_use : in_use (plain_room sh rows (2 * sh.edges)) (swept_to sh rows e).state ≡ rows

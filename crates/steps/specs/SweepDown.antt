-- The sweep down (01, "The sweep down"): the records read last to first, with a look-up table by row names.
use Rattle.std.specs.Prelude.{ℕ, zero, suc, ◌+◌, ℤ, pos, negsuc, ◌+ℤ◌}
use Rattle.steps.specs.Rows.{Chain, in_row, closing, Record, Journal}

-- a number that is not below 0 as it is, 0 for any other
unfoldable pub natural_part : ℤ → ℕ
natural_part (pos n) = n
natural_part (negsuc n) = 0

-- a polygon number and a sequence number
pub record Pair : Type 0 where
  pub polygon : ℕ
  pub sequence : ℤ

-- a table of numbers by row name, and the lists of the edges' answers
pub record Tables (T A : Type 0) : Type 0 where
  pub look : T → ℕ → Pair
  pub given : T → ℕ → Pair → T
  pub answered : A → ℕ → Pair → A

pub record Reading (T A : Type 0) : Type 0 where
  pub table : T
  pub answers : A
  pub polygons : ℕ

module _ {T A : Type 0} (tables : Tables T A) where
  -- numbers for an edge of level 0 are its answer, for a row's edge they are given to the row
  abbrev pub give : Reading T A → ℕ → ℕ → Pair → Reading T A
  give d zero name v = record { table = d.table; answers = tables.answered d.answers name v; polygons = d.polygons }
  give d (suc level) name v = record { table = tables.given d.table name v; answers = d.answers; polygons = d.polygons }

  -- what its chain's row has, the offset added to the sequence number
  abbrev pub shifted : Pair → ℤ → Pair
  shifted v offset = record { polygon = v.polygon; sequence = v.sequence +ℤ offset }

  -- a closing record takes the next polygon number
  abbrev pub read_record : Reading T A → Record → Chain → Reading T A
  read_record d entry (in_row r) = give d entry.level entry.name (shifted (tables.look d.table r) entry.offset)
  read_record d entry closing =
      record { table = tables.given d.table entry.name (record { polygon = d.polygons + 1; sequence = entry.offset }); answers = d.answers; polygons = d.polygons + 1 }

  -- the records below n, from the last to the first
  unfoldable pub sweep_down : {J : Type 0} → Journal J → J → ℕ → Reading T A → Reading T A
  sweep_down journal j zero d = d
  sweep_down journal j (suc n) d = sweep_down journal j n (read_record d (journal.read j n) (journal.read j n).chain)

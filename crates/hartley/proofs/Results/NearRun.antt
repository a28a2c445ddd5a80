-- The run that the theory follows, near to the rows opened: it looks for rows only as far as they have been opened, whatever its table holds before. 01's own
-- run, which looks at all rows, comes to the same (Results).
use Prim.Native.Nat.{ℕ}
use Rattle.sheet.specs.Edges.{Drawing}
use Rattle.steps.specs.Rows.{Row, Record}
use Rattle.steps.specs.SweepUp.{Sweep, sweep_up, start}
use Rattle.steps.specs.SweepDown.{Pair, Reading, sweep_down}
use Rattle.steps.specs.Plain.{plain_journal, plain_tables}
use Rattle.steps.specs.Swept.{plain_room, drawn_edge}

-- the first k edges swept up with so many rows and records, rows looked for as far as they have been opened, whatever the table and the journal hold before
abbrev pub near_to : Drawing → ℕ → ℕ → (ℕ → Row ℕ) → (ℕ → Record) → ℕ → Sweep (ℕ → Row ℕ) (ℕ → Record)
near_to sh rows records t j k = sweep_up (plain_room sh rows records) (drawn_edge sh) (start 0 t j) k

-- all of them
abbrev pub near_run : Drawing → ℕ → ℕ → (ℕ → Row ℕ) → (ℕ → Record) → Sweep (ℕ → Row ℕ) (ℕ → Record)
near_run sh rows records t j = near_to sh rows records t j sh.edges

-- a journal's first n records read down, whatever the tables hold before
abbrev pub read_with : (ℕ → Record) → ℕ → (ℕ → Pair) → (ℕ → Pair) → Reading (ℕ → Pair) (ℕ → Pair)
read_with j n table answers = sweep_down plain_tables plain_journal j n (record { table = table; answers = answers; polygons = 0 })

-- How far a sweep down has come, as the code has it.
use Rattle.std.specs.Prelude.{◌≡◌, List, ℤ, length}
use Rattle.steps.specs.SweepDown.{Reading}
use Rattle.sweep.specs.declared.down.Reader.{Reader}
use Rattle.sweep.specs.Lookup.{Answers, reading}

-- the steps' reading by it
abbrev pub read_by : Reader → Reading (List ℤ) Answers
read_by d = reading d.rows.now d.polygons.now d.sequences.now d.count

-- the slices that are lent stay the same ones, and keep their lengths; the journal is only read
pub record SameLent (d d₁ : Reader) : Type 0 where
  pub journal : d₁.journal.now ≡ d.journal.now
  pub rows : d₁.rows.ghost_name ≡ d.rows.ghost_name
  pub polygons : d₁.polygons.ghost_name ≡ d.polygons.ghost_name
  pub sequences : d₁.sequences.ghost_name ≡ d.sequences.ghost_name
  pub rows-kept : length d₁.rows.now ≡ length d.rows.now
  pub polygons-kept : length d₁.polygons.now ≡ length d.polygons.now
  pub sequences-kept : length d₁.sequences.now ≡ length d.sequences.now

-- The two sweeps on the lent slices, which the contracts of this crate's own functions speak of. What a caller reads is Outcome; that the two are the same
-- is proofs/Running.antt.
use Rattle.std.specs.Prelude.{ℕ, ◌*◌, List, ℤ, length, take, Result, ⊤, Ok, Err}
use Rattle.sheet.specs.declared.Refusal.{Refusal}
use Rattle.sheet.specs.declared.Refusal.TheVariants.{NoRow}
use Rattle.sheet.specs.Edges.{edges_in}
use Rattle.sheet.specs.Answers.{zeros, after_refusal, followed_by_zeros}
use Rattle.steps.specs.SweepUp.{Sweep, sweep_up, start}
use Rattle.steps.specs.SweepDown.{Reading, sweep_down}
use Rattle.journal.specs.Layout.{record_slice}
use Rattle.sweep.specs.Slices.{lent_room, list_edges}
use Rattle.sweep.specs.Lookup.{Answers, tables, reading}
use Rattle.numbering.specs.Outcome.{Lent, Left, lent}
use Rattle.sheet.specs.Amounts.{journal_numbers_per_edge}
use Rattle.steps.specs.Swept.{numbers_per_record}
use Rattle.steps.specs.declared.Halt.{Halt}
use Rattle.sheet.specs.declared.Numbered.{Numbered}
use Rattle.sheet.specs.Answers as answers

-- the slices of a call that passed 3: its turn list is as long as its polygon list
abbrev pub fitted : List ℤ → List ℕ → List ℕ → List ℤ → List ℤ → Lent
fitted list polygons sequences journal rows = lent list polygons sequences (length polygons) journal rows

unfoldable pub swept_up : Lent → Sweep (List ℤ) (List ℤ)
swept_up l =
    sweep_up (lent_room l.rows l.journal) (list_edges l.list) (start 0 l.rows l.journal) (edges_in l.list)

-- the records read down, with the rows' slice as look-up table
unfoldable pub read_down : Lent → Sweep (List ℤ) (List ℤ) → Reading (List ℤ) Answers
read_down l w = sweep_down tables record_slice w.state.journal w.state.records (reading w.state.rows l.polygons l.sequences 0)

-- a refusal leaves the two number lists, and journal and rows as the answer sheet says
abbrev pub refused : Lent → Refusal → Left (Result Numbered Refusal)
refused l r = record { answer = Err r; polygons = l.polygons; sequences = l.sequences; journal = after_refusal r l.journal; rows = after_refusal r l.rows }

abbrev pub accepted : Lent → Sweep (List ℤ) (List ℤ) → Reading (List ℤ) Answers → Left (Result Numbered Refusal)
accepted l w d =
    record {
      answer = answers.accepted d.polygons w.state.peak w.state.records;
      polygons = d.answers.polygons;
      sequences = d.answers.sequences;
      journal = followed_by_zeros (take (numbers_per_record * w.state.records) w.state.journal) (length l.journal);
      rows = zeros l.rows;
    }

-- `Overrun` does not come for a list that passed its checks (crates/hartley); it is answered as a missing row is.
abbrev pub after_sweep : Lent → Sweep (List ℤ) (List ℤ) → Result ⊤ Halt → Left (Result Numbered Refusal)
after_sweep l w (Ok _) = accepted l w (read_down l w)
after_sweep l w (Err _) = refused l (NoRow w.edge)

unfoldable pub sweeps : Lent → Left (Result Numbered Refusal)
sweeps l = after_sweep l (swept_up l) (swept_up l).state.end

-- the sweeps work in the journal's first eight numbers an edge, and what lies behind is set to zero
abbrev pub in_journal : Lent → Lent
in_journal l = record { list = l.list; polygons = l.polygons; sequences = l.sequences; turns = l.turns; journal = take (journal_numbers_per_edge * edges_in l.list) l.journal; rows = l.rows }

abbrev pub whole_journal : ℕ → Left (Result Numbered Refusal) → Left (Result Numbered Refusal)
whole_journal n x =
    record { answer = x.answer; polygons = x.polygons; sequences = x.sequences; journal = followed_by_zeros x.journal n; rows = x.rows }

-- a list that passed its checks
abbrev pub sweeps_on : Lent → Left (Result Numbered Refusal)
sweeps_on l = whole_journal (length l.journal) (sweeps (in_journal l))

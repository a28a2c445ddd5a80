use Rattle.std.specs.Prelude.{⊤}
use Rattle.steps.specs.Rows as rows
use Rattle.steps.specs.SweepUp as up
use Rattle.steps.specs.SweepDown as down
use Rattle.steps.specs.Plain as plain
use Rattle.steps.specs.Swept as swept
use Rattle.sheet.proofs.Computing.{sheets_computed}

-- `unfolding steps_computed` lets `refl` run both sweeps of a sheet that is written out
unfoldable pub steps_computed : ⊤
unfolding
    sheets_computed
    rows.lowest_free
    up.found_below
    up.has_tip
    up.as_edge
    up.find
    up.chosen
    up.in_use
    up.can_open
    up.open_row
    up.write
    up.move
    up.attach
    up.close
    up.pick_meeting
    up.meeting
    up.finish
    up.free
    up.pass_up
    up.pass_both
    up.meet
    up.on_row
    up.in_chain
    up.steps_on
    up.treat
    up.sweep_up
    down.sweep_down
    down.natural_part
    plain.plain_table
    plain.plain_journal
    plain.plain_tables
    swept.swept_to
    swept.read_down
steps_computed = tt

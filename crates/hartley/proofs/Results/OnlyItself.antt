-- Only an edge of the list can lack a row. Where the run that looks as far as rows have been opened ends without a free row it is the edge itself that finds none, and
-- all rows are in use (ListSwept); its reach is then all the rows lent, so that 01's run, which looks at all of them, stands at the same state.
use Rattle.std.specs.Prelude.{Ok, Err}
use mathlib.Core.Path.{◌≡◌, refl, ap, sym, ◌∙◌}
use mathlib.Core.Bool.{◌&&◌}
use Prim.Native.Nat.{ℕ, suc, ◌*◌, ◌≤◌}
use native.Mathlib.Omega.{arith}
use borrow.Author.Tests.{ltb-false}
use Rattle.laws.specs.Counting.{count}
use Rattle.sheet.specs.Amounts.{most_edges}
use Rattle.sheet.specs.Edges.{Drawing}
use Rattle.sheet.proofs.Checked.{Checked}
use Rattle.steps.specs.declared.Side.{Side}
use Rattle.steps.specs.Rows.{Row, Record, Room}
use Rattle.steps.specs.SweepUp as up
use Rattle.steps.specs.SweepUp.{Sweep, found_below, has_tip, levels, start, treat}
use Rattle.steps.specs.Swept.{places_of, drawn_edge, free_rows, no_records, swept_to, LacksRow, LacksItself}
use Rattle.steps.proofs.Alone.{plain-alone, opened-name, chosen-up-to, can-open}
use Rattle.steps.proofs.Reaching.{SameRun, all-rows, all-reached}
use Rattle.steps.proofs.Stopping.{when-done}
use Rattle.hartley.proofs.Step.StepsSeen.{Work}
use Rattle.hartley.proofs.Step.Given.{Setting, room_in}
use Rattle.hartley.proofs.Results.NearRun.{near_to}
use Rattle.hartley.proofs.Results.ListSwept.{Lacking, lacking-at}
use Rattle.steps.specs.declared.Halt.TheVariants.{NoFreeRow}

-- what is found and how many are in use is a matter of the table and the reach
module _ (room : Room ℕ (ℕ → Row ℕ) (ℕ → Record)) (s s' : Work) (e : s.rows ≡ s'.rows) (q : s.reach ≡ s'.reach) where
  find-same : (level : ℕ) (side : Side) (p : ℕ) → up.find room s level side p ≡ up.find room s' level side p
  unfolding up.find
  find-same level side p = λ i. found_below (λ r. room.table.mine (e i) r && has_tip room.places level side p (room.table.look (e i) r)) (q i)

  in-use-same : up.in_use room s ≡ up.in_use room s'
  unfolding up.in_use
  in-use-same = λ i. count (room.table.mine (e i)) (q i)

module _ {sh : Drawing} (K : Checked sh) (few : sh.edges ≤ most_edges) (rows e : ℕ) (L : LacksRow sh rows e) where
  abbrev A : Setting
  A = record { sheet = sh; checked = K; few = few; rows = rows; records = 2 * sh.edges; journal_long = omega arith }

  abbrev near : ℕ → Sweep (ℕ → Row ℕ) (ℕ → Record)
  near k = near_to sh rows (2 * sh.edges) free_rows no_records k

  same : (k : ℕ) → SameRun (near k) (swept_to sh rows k)
  unfolding swept_to
  same k = all-rows (places_of sh) rows (2 * sh.edges) (drawn_edge sh) free_rows no_records (λ r l. refl) k

  -- the near run stops there too
  before : (near e).state.end ≡ Ok tt
  before = (same e).end ∙ L.before

  lacking : (treat (room_in A) levels 0 (near e).state (drawn_edge sh e)).end ≡ Err NoFreeRow
  unfolding swept_to
  lacking =
      sym (ap (λ w. w.state.end) (when-done (room_in A) (drawn_edge sh) (start 0 free_rows no_records) e before))
      ∙ (same (suc e)).end
      ∙ ap (λ w. w.state.end) (when-done (room_in A) (drawn_edge sh) (start rows free_rows no_records) e L.before)
      ∙ L.lacking

  stands : Lacking A e L.is_edge (near e).state
  stands = lacking-at A free_rows no_records e L.is_edge before lacking

  -- no row is free: the lowest free one is past those lent, so that all are in reach and in use
  none_lent : rows ≤ up.chosen (room_in A) (near e).state
  none_lent = ltb-false _ rows (sym (can-open (room_in A) plain-alone (near e).state refl (λ i a b. absurd (omega (arith, a, b, stands.reach_rows)))) ∙ stands.finds_none.none_free)

  all-in-reach : (near e).state.reach ≡ rows
  all-in-reach = omega (arith, none_lent, chosen-up-to (room_in A) plain-alone (near e).state, stands.reach_rows)

  all_in_use : up.in_use (room_in A) (near e).state ≡ rows
  all_in_use = omega (arith, none_lent, chosen-up-to (room_in A) plain-alone (near e).state, all-in-reach, opened-name (room_in A) plain-alone (near e).state)

  same-reach : (near e).state.reach ≡ (swept_to sh rows e).state.reach
  unfolding swept_to
  same-reach = all-in-reach ∙ sym (all-reached (places_of sh) rows (2 * sh.edges) (drawn_edge sh) free_rows no_records (λ r l. refl) e)

  pub lacks_itself : LacksItself sh rows e
  lacks_itself = record {
    unfound = sym (find-same (room_in A) (near e).state (swept_to sh rows e).state (same e).rows same-reach 0 _ _) ∙ stands.finds_none.unfound;
    all_in_use = sym (in-use-same (room_in A) (near e).state (swept_to sh rows e).state (same e).rows same-reach) ∙ all_in_use;
  }

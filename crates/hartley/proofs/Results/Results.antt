-- What the two sweeps give for a checked list: the theorems that other crates cite, in the words of crates/sheet and crates/steps. The list is `sh`, and `up`
-- is document 01's run on it: all rows free at the start, all of them looked at. The theory before this speaks of the run that looks only as far as
-- rows have been opened, `near`; they hold the same and count the same peak (steps/proofs/Reaching.antt).
use Rattle.std.specs.Prelude.{Ok, Err}
use mathlib.Core.Path.{◌≡◌, refl, sym, ap, ◌∙◌}
use mathlib.Core.Logic.{◌⊎◌, inl, inr, ⊎_elim}
use Prim.Native.Nat.{ℕ, ◌+◌, ◌-◌, ◌*◌, ◌≤◌, ◌<◌}
use native.Mathlib.Omega.{arith}
use lib.IntN.{pos}
use Rattle.laws.proofs.Deciding.{lt-or-le}
use Rattle.sheet.specs.Edges.{Drawing}
use Rattle.sheet.specs.Joining.{Follows}
use Rattle.sheet.specs.Numbering.{Numbering}
use Rattle.sheet.specs.Passing.{Enough}
use Rattle.sheet.proofs.Checked.{Checked}
use Rattle.steps.specs.Rows.{Row, Record}
use Rattle.steps.specs.SweepUp.{Sweep, start}
use Rattle.steps.specs.SweepDown.{natural_part, Pair, Reading}
use Rattle.steps.specs.Plain.{plain_table, plain_journal, plain_tables}
use Rattle.steps.specs.Swept.{places_of, plain_room, drawn_edge, free_rows, no_records, no_pairs, swept_to, LacksRow, LacksItself}
use Rattle.steps.proofs.AlikeDown.{Holding, AllHeld}
use Rattle.steps.proofs.Alone.{plain-alone}
use Rattle.steps.proofs.Bounded.{sweep-within}
use Rattle.steps.proofs.Reaching.{SameRun, all-rows}
use Rattle.steps.proofs.Stopping.{stops_at, stopped}
use Rattle.hartley.proofs.Results.NearRun.{near_run, read_with}
use Rattle.hartley.proofs.Results.PeakExact.{sweep-cut}
use Rattle.hartley.proofs.Step.Given.{Setting}
use Rattle.hartley.proofs.Results.SweepEnded.{Finished, sweep-ends, when-done}
use Rattle.hartley.proofs.Results.GivesNumbering.{gives-numbering, sequence-natural, records-few}
use Rattle.hartley.proofs.Results.NumbersFit.{Fits, all_held}
use Rattle.hartley.proofs.Results.OnlyItself as itself
use Rattle.hartley.proofs.Results.RowsEnough.{twelve-each, fewer-rows, enough_rows}
use Rattle.sheet.specs.Amounts.{most_edges}
use Rattle.steps.specs.declared.Halt.TheVariants.{NoFreeRow}

module _ {sh : Drawing} (K : Checked sh) (few : sh.edges ≤ most_edges) where
  -- with so many rows lent
  module _ (rows : ℕ) where
    abbrev A : Setting
    A = record { sheet = sh; checked = K; few = few; rows = rows; records = 2 * sh.edges; journal_long = omega arith }

    abbrev pub up : Sweep (ℕ → Row ℕ) (ℕ → Record)
    up = swept_to sh rows sh.edges

    abbrev near : Sweep (ℕ → Row ℕ) (ℕ → Record)
    near = near_run sh rows (2 * sh.edges) free_rows no_records

    same : SameRun near up
    unfolding swept_to
    same = all-rows (places_of sh) rows (2 * sh.edges) (drawn_edge sh) free_rows no_records (λ r l. refl) sh.edges

    -- the peak is as far as rows have been opened
    peak-near : up.state.peak ≡ near.state.reach
    peak-near = sym same.peak ∙ (sweep-within (plain_room sh rows (2 * sh.edges)) plain-alone (drawn_edge sh) sh.edges free_rows no_records).by_name

    -- the sweep up ends done or without a free row, never in an overrun
    pub up_ends : (up.state.end ≡ Ok tt) ⊎ (up.state.end ≡ Err NoFreeRow)
    up_ends = ⊎_elim (λ h. inl (sym same.end ∙ h)) (λ h. inr (sym same.end ∙ h)) (sweep-ends A free_rows no_records)

    -- .. and without a free row at edge e exactly when step 1 lacks one while e is treated
    pub lacks_row : up.state.end ≡ Err NoFreeRow → LacksRow sh rows up.edge
    unfolding swept_to
    lacks_row h = let S = stops_at (plain_room sh rows (2 * sh.edges)) (drawn_edge sh) (start rows free_rows no_records) refl sh.edges h in record { is_edge = S.is_edge; before = S.before; lacking = S.lacking }

    -- that is then e itself: no edge passed up lacks a row
    pub lacks_itself : (e : ℕ) → LacksRow sh rows e → LacksItself sh rows e
    lacks_itself e L = itself.lacks_itself K few rows e L

    pub lacking-row : (e : ℕ) → LacksRow sh rows e → (up.state.end ≡ Err NoFreeRow) × (up.edge ≡ e)
    unfolding swept_to
    lacking-row e L = stopped (plain_room sh rows (2 * sh.edges)) (drawn_edge sh) (start rows free_rows no_records) sh.edges e (record { is_edge = L.is_edge; before = L.before; lacking = L.lacking })

    module _ (done : up.state.end ≡ Ok tt) where
      F : Finished A near.state
      F = when-done A free_rows no_records (same.end ∙ done)

      pub peak-within : (up.state.peak ≤ rows) × (up.state.peak ≤ up.state.records)
      peak-within = (omega (arith, peak-near, F.reach_rows), omega (arith, peak-near, F.reach_records, same.records))

      module _ (table answers : ℕ → Pair) where
        abbrev pub down : Reading (ℕ → Pair) (ℕ → Pair)
        down = read_with up.state.journal up.state.records table answers

        -- 2E - P
        pub few_records : up.state.records + down.polygons ≤ 2 * sh.edges
        few_records = rw (← same.journal, ← same.records) (records-few A near.state F table answers)

        -- demand 2
        pub numbering : Numbering sh (λ e. (down.answers e).polygon) (λ e. natural_part (down.answers e).sequence) down.polygons
        numbering = rw (← same.journal, ← same.records) (gives-numbering A near.state F table answers)

        pub sequence-numbers : (e : ℕ) → e < sh.edges → (k : ℕ) × (k < sh.edges) × ((down.answers e).sequence ≡ pos k)
        sequence-numbers = rw (← same.journal, ← same.records) (sequence-natural A near.state F table answers)

        -- every number that is given on the way fits: rows lent, edges of the list, polygons up to the edges, sequence numbers below twice the edges
        pub all-fits : (H : Holding) → ((r : ℕ) → r < rows → H.Row r) → ((r : ℕ) (v : Pair) → r < rows → Fits sh.edges v → H.InRow r v) → ((e : ℕ) (v : Pair) → e < sh.edges → Fits sh.edges v → H.InAnswer e v)
            → AllHeld plain_tables H plain_journal up.state.journal up.state.records (record { table = table; answers = answers; polygons = 0 })
        all-fits = rw (← same.journal, ← same.records) (all_held A near.state F table answers)

    -- demand 3: so many rows are always enough, and fewer already; `polygon` gives the edges of an outline one number
    module _ (polygon : ℕ → ℕ) (shared : (e f : ℕ) → Follows sh e f → polygon f ≡ polygon e) (c : ℕ) (enough : Enough sh polygon c) where
      pub enough-done : c ≤ rows → up.state.end ≡ Ok tt
      enough-done lent = sym same.end ∙ enough_rows A polygon shared free_rows no_records c enough lent

      pub fewer-done : 1 + enough.log * (enough.C - 2) ≤ rows → up.state.end ≡ Ok tt
      fewer-done lent = sym same.end ∙ fewer-rows A polygon shared free_rows no_records c enough lent

    pub twelve-each-done : 12 * sh.edges ≤ rows → up.state.end ≡ Ok tt
    twelve-each-done lent = sym same.end ∙ twelve-each A free_rows no_records lent

  -- runs with n rows and with no fewer: the same where the peak of the second is within n, otherwise the first ends without a free row
  module _ (n rows : ℕ) (more : n ≤ rows) where
    cut-within : (up rows).state.peak ≤ n → near n ≡ near rows
    cut-within h = (sweep-cut (places_of sh) plain_table plain-alone plain_journal (2 * sh.edges) n rows more (drawn_edge sh) (start 0 free_rows no_records) sh.edges (omega arith)).within (omega (arith, h, peak-near rows))

    cut-beyond : n < (up rows).state.peak → (up n).state.end ≡ Err NoFreeRow
    cut-beyond h = sym (same n).end ∙ (sweep-cut (places_of sh) plain_table plain-alone plain_journal (2 * sh.edges) n rows more (drawn_edge sh) (start 0 free_rows no_records) sh.edges (omega arith)).beyond (omega (arith, h, peak-near rows))

  same-run : (n rows : ℕ) → near n ≡ near rows → SameRun (up n) (up rows)
  same-run n rows e =
      record {
        rows = sym (same n).rows ∙ ap (λ w. w.state.rows) e ∙ (same rows).rows;
        journal = sym (same n).journal ∙ ap (λ w. w.state.journal) e ∙ (same rows).journal;
        records = sym (same n).records ∙ ap (λ w. w.state.records) e ∙ (same rows).records;
        peak = sym (same n).peak ∙ ap (λ w. w.state.peak) e ∙ (same rows).peak;
        end = sym (same n).end ∙ ap (λ w. w.state.end) e ∙ (same rows).end;
        edge = sym (same n).edge ∙ ap (λ w. w.edge) e ∙ (same rows).edge;
      }

  -- the peak is exact: with that many rows or more the sweep is the same to the last record ..
  pub peak-suffices : (rows n : ℕ) → (up rows).state.end ≡ Ok tt → (up rows).state.peak ≤ n → SameRun (up n) (up rows)
  peak-suffices rows n done h = ⊎_elim more (λ l. same-run n rows (cut-within n rows l h)) (lt-or-le rows n)
    where
      more : rows < n → SameRun (up n) (up rows)
      more l = ⊎_elim
          (λ b. let f : (Err NoFreeRow) ≡ Ok tt = sym (cut-beyond rows n (omega arith) b) ∙ done in let z : ◌≡◌ {A = ℕ} 0 1 = cc in absurd (omega arith))
          (λ b. same-run n rows (sym (cut-within rows n (omega arith) b)))
          (lt-or-le rows (up n).state.peak)

  -- .. and with fewer it ends without a free row
  pub fewer_refused : (rows n : ℕ) → (up rows).state.end ≡ Ok tt → n < (up rows).state.peak → (up n).state.end ≡ Err NoFreeRow
  fewer_refused rows n done h = cut-beyond n rows (omega (arith, h, (peak-within rows done).0)) h

  -- demand 3 for the peak itself: rows that are enough are no fewer than the peak
  pub peak-at-most : (c rows : ℕ) → (up c).state.end ≡ Ok tt → c ≤ rows → (up rows).state.peak ≤ c
  peak-at-most c rows done lent = ⊎_elim (λ h. absurd (clash h)) (λ h. h) (lt-or-le c (up rows).state.peak)
    where
      clash : c < (up rows).state.peak → ⊥
      clash h =
          let b = cut-beyond c rows lent h in
          let z : ◌≡◌ {A = ℕ} 0 1 = cc in
          omega arith

  -- a checked list has a numbering, and by crates/sheet only one
  pub numbering-exists : (polygon : ℕ → ℕ) × (sequence : ℕ → ℕ) × (polygons : ℕ) × Numbering sh polygon sequence polygons
  numbering-exists = (_, _, _, numbering (12 * sh.edges) (twelve-each-done (12 * sh.edges) (omega arith)) no_pairs no_pairs)

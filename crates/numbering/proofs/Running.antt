-- A call that passed its checks runs on its slices as the steps run on plain tables: rows and records hold the same all the way up, and what is read down
-- is the numbering of the list whatever the look-up table holds before, of which there is one. So what the slices are left with is the outcome.
use Rattle.std.specs.Prelude.{Result, ⊤, Ok, Err}
use mathlib.Core.Path.{◌≡◌, refl, sym, ap, ◌∙◌}
use mathlib.Core.Logic.{◌⊎◌, ⊎_elim}
use mathlib.Core.List.{List, ◌++◌, append_assoc}
use Prim.Native.Nat.{ℕ, ◌+◌, ◌-◌, ◌*◌, ◌≤◌, ◌<◌}
use native.Mathlib.Omega.{arith}
use lib.IntN.{ℤ, pos}
use lib.ListN.{length, get_or, take, drop, replicate, length-append, length-replicate, replicate-append-replicate}
use lib.Seq.{length-take-le, get_or-take, get_or-drop, ext_get_or}
use Rattle.laws.specs.Listing.{listed, list_of}
use Rattle.laws.proofs.Listing.{listed_is, list-is}
use Rattle.sheet.specs.declared.Refusal.TheVariants.{NoRow}
use Rattle.sheet.specs.Edges.{Drawing, edges_in, drawing_of}
use Rattle.sheet.specs.Numbering.{Numbering}
use Rattle.sheet.specs.Answers.{checked, answered, followed_by_zeros}
use Rattle.sheet.proofs.OneNumbering.{same-polygon, same-sequence, same-polygons}
use Rattle.checks.proofs.Passed.{AllPassed, passed}
use Rattle.steps.specs.Rows.{Record, record_numbers}
use Rattle.steps.specs.SweepUp.{Sweep, start}
use Rattle.steps.specs.SweepDown.{natural_part, Pair, Reading}
use Rattle.steps.specs.Plain.{plain_tables, plain_journal}
use Rattle.steps.specs.Swept.{rows_in, plain_room, drawn_edge, free_rows, no_records, no_pairs, swept_to, read_down, numbers_per_record}
use Rattle.steps.proofs.Alike.{Match, Alike, AlikeSweep, start-alike, sweep-alike}
use Rattle.steps.proofs.AlikeDown.{MatchDown, AlikeReading, down-alike}
use Rattle.journal.specs.Layout.{record_slice, records_in}
use Rattle.sweep.specs.Slices.{room, list_edges}
use Rattle.sweep.specs.Lookup.{numbers_in, tables, reading}
use Rattle.hartley.proofs.Results.Results as results
use Rattle.numbering.specs.Outcome.{Lent, call_of, left_as, up, down, answer_by, leaves, outcome}
use Rattle.numbering.specs.OnSlices as slices
use Rattle.numbering.specs.OnSlices.{in_journal, whole_journal, after_sweep, sweeps_on}
use Rattle.numbering.proofs.Tops.{top_apart}
use Rattle.numbering.proofs.Matching.{Ranked, HoldsRows, HoldsRecords, slice_room, matched}
use Rattle.numbering.proofs.MatchingDown.{HoldsNumbers, HoldsAnswers, matched-down, fitting}
use Rattle.sheet.specs.Amounts.{journal_numbers_per_edge, most_edges}
use Rattle.steps.specs.declared.Halt.{Halt}
use Rattle.steps.specs.declared.Halt.TheVariants.{NoFreeRow}
use Rattle.sheet.specs.Answers.{accepted}

-- the numbers of the records that a slice holds
held-numbers : {m n : ℕ} {s : List ℤ} {j : ℕ → Record} → HoldsRecords m n s j → n ≤ m → take (numbers_per_record * n) s ≡ listed (λ k. record_numbers (j k)) n
held-numbers {m} {n} {s} {j} H l = listed_is 4 (λ k. record_numbers (j k)) s n part
  where
    four : (i : ℕ) → i < n → 4 ≤ length (drop (numbers_per_record * i) s)
    four i h = omega (arith, lib.ListN.length-drop (numbers_per_record * i) s, H.long)

    part : (i : ℕ) → i < n → take 4 (drop (numbers_per_record * i) s) ≡ record_numbers (j i)
    part i h =
        ext_get_or (pos 0) (take 4 (drop (numbers_per_record * i) s)) (record_numbers (j i)) (length-take-le 4 (drop (numbers_per_record * i) s) (four i h))
        (λ q u. let v : q < 4 = omega (arith, u, length-take-le 4 (drop (numbers_per_record * i) s) (four i h)) in get_or-take 4 (drop (numbers_per_record * i) s) q (pos 0) v ∙ get_or-drop (numbers_per_record * i) s q (pos 0) ∙ H.number i q h v)

-- zeros behind zeros
zeros-twice : (x : List ℤ) (n m : ℕ) → length x ≤ n → n ≤ m → followed_by_zeros (followed_by_zeros x n) m ≡ followed_by_zeros x m
zeros-twice x n m l h =
    let a : length (followed_by_zeros x n) ≡ n = length-append x (replicate (n - length x) (pos 0)) ∙ omega (arith, length-replicate (n - length x) (pos 0)) in
    let b : (n - length x) + (m - n) ≡ m - length x = omega arith in
    ap (λ k. followed_by_zeros x n ++ replicate (m - k) (pos 0)) a
    ∙ append_assoc x (replicate (n - length x) (pos 0)) (replicate (m - n) (pos 0))
    ∙ ap (λ z. x ++ z) (replicate-append-replicate (n - length x) (m - n) (pos 0) ∙ ap (λ k. replicate k (pos 0)) b)

module _ (l : Lent) (ok : checked (call_of l) ≡ Ok tt) where
  abbrev all : AllPassed (call_of l)
  all = passed (call_of l) ok

  abbrev sheet : Drawing
  sheet = drawing_of l.list

  abbrev edges : ℕ
  edges = edges_in l.list

  abbrev part : List ℤ
  part = (in_journal l).journal

  part-long : length part ≡ journal_numbers_per_edge * edges
  part-long = length-take-le (journal_numbers_per_edge * edges) l.journal all.journal

  abbrev rows : ℕ
  rows = rows_in l.rows

  abbrev records : ℕ
  records = records_in part

  same-records : records ≡ 2 * sheet.edges
  unfolding drawing_of
  same-records = omega (arith, part-long)

  few_records : records ≤ 8192
  few_records = omega (arith, part-long, all.few)

  pub few : (drawing_of l.list).edges ≤ most_edges
  unfolding drawing_of
  few = all.few

  -- the sweep up on the slices, and on plain tables
  abbrev M : Match (slice_room rows records) (plain_room sheet rows (2 * sheet.edges)) Ranked (λ p. p.film) (HoldsRows rows) (HoldsRecords records) 8192 rows
  M = matched l.list rows records (2 * sheet.edges) 8192 same-records few_records (omega arith)

  same_start : Alike M 0 0 (start 0 l.rows part) (start rows free_rows no_records)
  same_start =
      start-alike M
      (record { long = omega arith; inside = omega arith; row = λ r h. absurd (omega arith); free = λ r a b. refl })
      (record { long = omega arith; entry = λ i h. absurd (omega arith); number = λ i q h u. absurd (omega arith) })

  alike : AlikeSweep M (slices.swept_up (in_journal l)) (up l)
  unfolding slices.swept_up up room swept_to drawing_of
  alike =
      sweep-alike M (list_edges l.list) (drawn_edge sheet) edges
      (λ i h. record { name = refl; small = omega (arith, h, all.few); tail = record { inside = all.tails_in_range i h; on_film = all.films_in_range i h; is_place = refl }; head = record { inside = all.heads_in_range i h; on_film = all.films_in_range i h; is_place = refl }; one_film = refl; length = refl; apart = top_apart all i h })
      same_start

  -- the theory's run is this one
  run_is : up l ≡ results.up all.sheet few rows
  unfolding up drawing_of
  run_is = refl

  -- no other end: done, or no free row
  pub ends : ((up l).state.end ≡ Ok tt) ⊎ ((up l).state.end ≡ Err NoFreeRow)
  unfolding up drawing_of
  ends = results.up_ends all.sheet few rows

  -- done: the records read down on the slices, on plain tables that begin with what the slices hold, and on plain tables that begin empty
  module _ (done : (up l).state.end ≡ Ok tt) where
    abbrev swept : Sweep (List ℤ) (List ℤ)
    swept = slices.swept_up (in_journal l)

    done-too : (results.up all.sheet few rows).state.end ≡ Ok tt
    done-too = ap (λ w. w.state.end) (sym run_is) ∙ done

    abbrev held_pairs : ℕ → Pair
    held_pairs r = numbers_in swept.state.rows r

    abbrev held_answers : ℕ → Pair
    held_answers e = record { polygon = get_or l.polygons e 0; sequence = pos (get_or l.sequences e 0) }

    abbrev between : Reading (ℕ → Pair) (ℕ → Pair)
    between = results.down all.sheet few rows done-too held_pairs held_answers

    abbrev D : MatchDown plain_tables tables (HoldsNumbers rows) (HoldsAnswers edges) (fitting rows edges)
    D = matched-down rows edges all.few

    same-begin : AlikeReading D (record { table = held_pairs; answers = held_answers; polygons = 0 }) (reading swept.state.rows l.polygons l.sequences 0)
    unfolding natural_part
    same-begin =
        record {
          table = record { long = alike.state.rows.long; row = λ r h. refl };
          answers = record { long = (all.polygons, all.sequences); polygon = λ e h. refl; sequence = λ e h. refl };
          polygons = refl;
        }

    read_back : (k : ℕ) → k < (results.up all.sheet few rows).state.records → plain_journal.read (results.up all.sheet few rows).state.journal k ≡ record_slice.read swept.state.journal k
    unfolding plain_journal record_slice up drawing_of
    read_back k h = sym (alike.state.journal.entry k (omega (arith, h, alike.state.records)))

    same_read : AlikeReading D between (slices.read_down (in_journal l) swept)
    unfolding slices.read_down drawing_of up
    same_read =
        rw alike.state.records
        (down-alike D plain_journal record_slice (up l).state.journal swept.state.journal (up l).state.records read_back same-begin
        (results.all-fits all.sheet few rows done-too held_pairs held_answers (fitting rows edges) (λ r h. h) (λ r v h f. (h, f)) (λ e v h f. (h, f))))

    -- the two plain readings are numberings of the list, and so one
    pub numbers : Numbering (drawing_of l.list) (λ e. ((down l).answers e).polygon) (λ e. natural_part ((down l).answers e).sequence) (down l).polygons
    unfolding down up read_down drawing_of
    numbers = results.numbering all.sheet few rows done-too no_pairs no_pairs

    between-numbers : Numbering sheet (λ e. (between.answers e).polygon) (λ e. natural_part (between.answers e).sequence) between.polygons
    between-numbers = results.numbering all.sheet few rows done-too held_pairs held_answers

    pub records-and-polygons : (up l).state.records + (down l).polygons ≤ 2 * edges_in l.list
    unfolding down up read_down drawing_of
    records-and-polygons = results.few_records all.sheet few rows done-too no_pairs no_pairs

    same-polygon-list : (slices.read_down (in_journal l) swept).answers.polygons ≡ list_of (λ e. ((down l).answers e).polygon) edges
    unfolding drawing_of
    same-polygon-list =
        list-is 0 (λ e. ((down l).answers e).polygon) _ edges same_read.answers.long.0
        (λ e h. same_read.answers.polygon e h ∙ same-polygon all.sheet numbers between-numbers e h)

    same-sequence-list : (slices.read_down (in_journal l) swept).answers.sequences ≡ list_of (λ e. natural_part ((down l).answers e).sequence) edges
    unfolding drawing_of
    same-sequence-list =
        list-is 0 (λ e. natural_part ((down l).answers e).sequence) _ edges same_read.answers.long.1
        (λ e h. same_read.answers.sequence e h ∙ same-sequence all.sheet numbers between-numbers e h)

    same_count : (slices.read_down (in_journal l) swept).polygons ≡ (down l).polygons
    same_count = sym same_read.polygons ∙ same-polygons all.sheet numbers between-numbers

    same-journal : followed_by_zeros (followed_by_zeros (take (numbers_per_record * swept.state.records) swept.state.journal) (length part)) (length l.journal) ≡ followed_by_zeros (listed (λ k. record_numbers ((up l).state.journal k)) (up l).state.records) (length l.journal)
    same-journal =
        let front : take (numbers_per_record * swept.state.records) swept.state.journal ≡ listed (λ k. record_numbers ((up l).state.journal k)) (up l).state.records = held-numbers alike.state.journal alike.state.kept ∙ ap (listed (λ k. record_numbers ((up l).state.journal k))) alike.state.records in
        let four : length (take (numbers_per_record * swept.state.records) swept.state.journal) ≡ numbers_per_record * swept.state.records = length-take-le (numbers_per_record * swept.state.records) swept.state.journal (omega (arith, alike.state.journal.long, alike.state.kept)) in
        zeros-twice (take (numbers_per_record * swept.state.records) swept.state.journal) (length part) (length l.journal) (omega (arith, four, alike.state.kept, part-long)) (omega (arith, part-long, all.journal))
        ∙ ap (λ x. followed_by_zeros x (length l.journal)) front

    runs_done : sweeps_on l ≡ leaves l (accepted (down l).polygons (up l).state.peak (up l).state.records)
    unfolding slices.sweeps
    runs_done =
        ap (λ u. whole_journal (length l.journal) (after_sweep (in_journal l) swept u)) (alike.state.end ∙ done)
        ∙ (λ i. left_as (accepted (same_count i) (alike.state.peak i) (alike.state.records i)) (same-polygon-list i) (same-sequence-list i) (same-journal i) (replicate (length l.rows) (pos 0)))

  -- no free row: zeros
  runs-stopped : (up l).state.end ≡ Err NoFreeRow → sweeps_on l ≡ leaves l (Err (NoRow (up l).edge))
  unfolding slices.sweeps
  runs-stopped d =
      let n : length part + (length l.journal - length part) ≡ length l.journal = omega (arith, part-long, all.journal) in
      let long : length (replicate (length part) (pos 0)) ≡ length part = length-replicate (length part) (pos 0) in
      let z : followed_by_zeros (replicate (length part) (pos 0)) (length l.journal) ≡ replicate (length l.journal) (pos 0) = ap (λ k. replicate (length part) (pos 0) ++ replicate (length l.journal - k) (pos 0)) long ∙ replicate-append-replicate (length part) (length l.journal - length part) (pos 0) ∙ ap (λ k. replicate k (pos 0)) n in
      ap (λ u. whole_journal (length l.journal) (after_sweep (in_journal l) (slices.swept_up (in_journal l)) u)) (alike.state.end ∙ d)
      ∙ (λ i. left_as (Err (NoRow (alike.edge i))) l.polygons l.sequences (z i) (replicate (length l.rows) (pos 0)))

  -- what the outcome is, by how the sweep up ends
  pub outcome-by : {u : Result ⊤ Halt} → (up l).state.end ≡ u → outcome l ≡ leaves l (answered (Ok tt) (answer_by l u))
  unfolding outcome
  outcome-by d = λ i. leaves l (answered (ok i) (answer_by l (d i)))

  pub runs : sweeps_on l ≡ outcome l
  runs = ⊎_elim (λ d. runs_done d ∙ sym (outcome-by d)) (λ d. runs-stopped d ∙ sym (outcome-by d)) ends

-- Every number that the sweep down gives fits. When a record was written its owner's path had a first edge, so far before the reference point (`Held`); what
-- the record gives its owner is therefore that edge's answer moved by as much: the same polygon, and a sequence number that is 0 or more and below
-- twice the edges. The rows that records name are rows lent.
use mathlib.Core.Path.{◌≡◌, refl, ap, sym, ◌∙◌}
use mathlib.Core.List.{List, ◌∷◌}
use Prim.Native.Nat.{ℕ, zero, suc, ◌+◌, ◌*◌, ◌≤◌, ◌<◌}
use native.Mathlib.Omega.{arith}
use lib.IntN.{pos, ◌+ℤ◌, +ℤ_assoc}
use Rattle.steps.specs.Rows.{Chain, in_row, closing, Record}
use Rattle.steps.specs.SweepDown.{Pair, Reading, read_record, sweep_down}
use Rattle.steps.specs.Plain.{plain_tables, plain_journal}
use Rattle.steps.proofs.AlikeDown.{Holding, GiveHeld, RecordHeld, AllHeld}
use Rattle.hartley.proofs.Results.NearRun.{read_with}
use Rattle.hartley.proofs.Paths.Differences.{diff, after-back}
use Rattle.hartley.proofs.Paths.DownLaw as down
use Rattle.hartley.proofs.Paths.DownLaw.{Name, of_edge, of_row, name_at, same-name?, at, done, place, move, eval, shift}
use Rattle.hartley.proofs.Paths.JournalRead.{rec_of, recs, numbers_of, reading-law}
use Rattle.hartley.proofs.Paths.Paths.{pick_yes}
use Rattle.hartley.proofs.Step.StepsSeen.{Work}
use Rattle.hartley.proofs.Step.Given.{Setting, Held, name_in, NameFits, ChainFits}
use Rattle.hartley.proofs.Results.SweepEnded.{Finished}
use Rattle.hartley.proofs.Results.GivesNumbering.{index-small, rounds-few, answer-is}

-- numbers that fit a list of so many edges
pub record Fits (edges : ℕ) (v : Pair) : Type 0 where
  pub from_one : 1 ≤ v.polygon
  pub polygon_small : v.polygon ≤ edges
  pub at : ℕ
  pub at_small : at < 2 * edges
  pub sequence_is : v.sequence ≡ pos at

module _ (A : Setting) (s : Work) (F : Finished A s) where
  abbrev edges : ℕ
  edges = A.sheet.edges

  module _ (table answers : ℕ → Pair) where
    abbrev Read : Type 0
    Read = Reading (ℕ → Pair) (ℕ → Pair)

    abbrev final : Read
    final = read_with s.journal s.records table answers

    -- the reading from d on gives the answers
    abbrev Onwards : ℕ → Read → Type 0
    Onwards m d = (e : ℕ) → e < edges → (sweep_down plain_tables plain_journal s.journal m d).answers e ≡ final.answers e

    -- numbers that are an edge's answer moved forward
    fits_by : (e f : ℕ) → e < edges → f ≤ edges → (v : Pair) → final.answers e ≡ record { polygon = v.polygon; sequence = v.sequence +ℤ diff 0 f } → Fits edges v
    fits_by e f l m v q =
        let c = F.closed e l in
        let a = sym (answer-is A s F table answers e c.0 c.1 l c.2) ∙ q in
        let w = F.outs.within e c.0 c.1 c.2 in
        record {
          from_one = omega (arith, ap (λ v. v.polygon) a);
          polygon_small = omega (arith, ap (λ v. v.polygon) a, w.0, rounds-few A s F);
          at = c.1 + f;
          at_small = omega (arith, index-small A s F e c.0 c.1 c.2);
          sequence_is = after-back v.sequence f c.1 (sym (ap (λ v. v.sequence) a));
        }

    -- what one record gives
    module _ (d : Read) (m : ℕ) (on : Onwards (suc m) d) where
      abbrev entry : Record
      entry = s.journal m

      given_by : (c : Chain) (J : List down.Rec) (e f : ℕ) → place J (of_edge e) ≡ at (name_in entry c) (diff 0 f) → Pair
      given_by (in_row r) J e f q = record { polygon = (d.table r).polygon; sequence = (d.table r).sequence +ℤ entry.offset }
      given_by closing J e f q = record { polygon = d.polygons + 1; sequence = entry.offset }

      read_first : (c : Chain) (J : List down.Rec) (e f : ℕ) (q : place J (of_edge e) ≡ at (name_in entry c) (diff 0 f))
          → eval (numbers_of d) (d.polygons + 1) (place (rec_of entry c ∷ J) (of_edge e)) ≡ record { polygon = (given_by c J e f q).polygon; sequence = (given_by c J e f q).sequence +ℤ diff 0 f }
      unfolding place eval shift given_by
      read_first (in_row r) J e f q = ap (λ w. eval (numbers_of d) (d.polygons + 1) (move (rec_of entry (in_row r)) w)) q ∙ ap (eval (numbers_of d) (d.polygons + 1)) put-moves ∙ (λ i. record { polygon = (d.table r).polygon; sequence = sym (+ℤ_assoc (d.table r).sequence entry.offset (diff 0 f)) i })
        where
          o : Name
          o = name_at entry.level entry.name

          put-moves : move (down.put o r entry.offset) (at o (diff 0 f)) ≡ at (of_row r) (entry.offset +ℤ diff 0 f)
          put-moves = unfold move in pick_yes (same-name? o o) _ _ refl
      read_first closing J e f q = ap (λ w. eval (numbers_of d) (d.polygons + 1) (move (rec_of entry closing) w)) q ∙ ap (eval (numbers_of d) (d.polygons + 1)) close-moves ∙ (λ i. record { polygon = zero_more i; sequence = entry.offset +ℤ diff 0 f })
        where
          close-moves : move (down.close (of_row entry.name) entry.offset) (at (of_row entry.name) (diff 0 f)) ≡ done 0 (entry.offset +ℤ diff 0 f)
          close-moves = unfold move in pick_yes (same-name? (of_row entry.name) (of_row entry.name)) _ _ refl

          zero_more : d.polygons + 1 + 0 ≡ d.polygons + 1
          zero_more = omega arith

      given-fits : (h : Held A entry (recs s.journal m)) → Fits edges (given_by entry.chain (recs s.journal m) h.first h.before h.there)
      unfolding recs
      given-fits h = fits_by h.first h.before h.real h.short _
          (sym (on h.first h.real) ∙ reading-law s.journal (suc m) d (of_edge h.first) ∙ read_first entry.chain (recs s.journal m) h.first h.before h.there)

    -- all of it can be held by tables for such rows, edges and numbers
    module _ (H : Holding) (row_in : (r : ℕ) → r < A.rows → H.Row r) (row-holds : (r : ℕ) (v : Pair) → r < A.rows → Fits edges v → H.InRow r v) (answer-holds : (e : ℕ) (v : Pair) → e < edges → Fits edges v → H.InAnswer e v) where
      give-held : (level name : ℕ) (v : Pair) → NameFits A level name → Fits edges v → GiveHeld plain_tables H level name v
      give-held zero name v l f = answer-holds name v l f
      give-held (suc level) name v l f = row-holds name v l f

      record-held : (d : Read) (m : ℕ) (on : Onwards (suc m) d) (h : Held A (s.journal m) (recs s.journal m)) (c : Chain) → ChainFits A (s.journal m) c → (q : place (recs s.journal m) (of_edge h.first) ≡ at (name_in (s.journal m) c) (diff 0 h.before))
          → Fits edges (given_by d m on c (recs s.journal m) h.first h.before q) → RecordHeld plain_tables H d (s.journal m) c
      unfolding given_by plain_tables
      record-held d m on h (in_row r) l q f = (row_in r l.0, give-held (s.journal m).level (s.journal m).name _ l.1 f)
      record-held d m on h closing l q f = row-holds (s.journal m).name _ l f

      held-from : (m : ℕ) → m ≤ s.records → (d : Read) → Onwards m d → AllHeld plain_tables H plain_journal s.journal m d
      unfolding plain_journal sweep_down
      held-from zero l d on = tt
      held-from (suc m) l d on =
          let h = F.held m l in
          (record-held d m on h (s.journal m).chain h.fits h.there (given-fits d m on h), held-from m (omega arith) (read_record plain_tables d (s.journal m) (s.journal m).chain) on)

      pub all_held : AllHeld plain_tables H plain_journal s.journal s.records (record { table = table; answers = answers; polygons = 0 })
      all_held = held-from s.records (omega arith) _ (λ e l. refl)

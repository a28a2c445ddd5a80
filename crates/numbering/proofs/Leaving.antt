-- What the two sweeps leave is what the outcome says, for each way out; and the numbers answered fit 32 bits, since no list has more than 4,096 edges
-- and its journal no more than 8,192 records.
use Rattle.std.specs.Prelude.{Result, ⊤, Ok, Err}
use mathlib.Core.Path.{◌≡◌, refl, sym, ap, ◌∙◌}
use mathlib.Core.Bool.{Bool, true, false, cond}
use mathlib.Core.List.{List, ◌++◌}
use Prim.Native.Nat.{ℕ, ◌-◌, ◌*◌, ◌≤◌}
use native.Mathlib.Omega.{arith}
use lib.Dec.{eqb}
use lib.IntN.{ℤ, pos}
use lib.ListN.{length, take, drop, replicate, length-drop, length-append}
use lib.Seq.{length-take-le, take_at}
use Rattle.laws.proofs.Deciding.{not-both}
use Rattle.sheet.specs.declared.Refusal.{Refusal}
use Rattle.sheet.specs.declared.Refusal.TheVariants.{NoRow}
use Rattle.sheet.specs.Edges.{edges_in}
use Rattle.sheet.specs.Answers.{Call, checked, answered, number_of, zeros}
use Rattle.checks.proofs.AnswerSheet.{Row, row-1, row-2, row-3, row-4, row-5, row-16, row-6, row-7, row-8, row-9, row-17, no_row, row}
use Rattle.steps.specs.SweepUp.{Sweep, sweep_up, start}
use Rattle.steps.specs.SweepDown.{sweep_down}
use Rattle.steps.proofs.Bounded.{Within, sweep-within, edge-within, polygons-within}
use Rattle.rows.proofs.Searching.{slice-alone}
use Rattle.journal.specs.Layout.{record_slice}
use Rattle.sweep.specs.declared.Swept.{Swept}
use Rattle.sweep.specs.Slices.{room, lent_room, swept, is_done, list_edges}
use Rattle.sweep.specs.Lookup.{tables, reading}
use Rattle.numbering.specs.Outcome.{Lent, left_as, call_of, up, answer_by, leaves, outcome}
use Rattle.numbering.specs.OnSlices.{swept_up, read_down, after_sweep, sweeps, in_journal, whole_journal, sweeps_on}
use Rattle.sheet.specs.Amounts.{journal_numbers_per_edge, most_edges}
use Rattle.steps.specs.Swept.{numbers_per_record}
use Rattle.steps.specs.declared.Halt.{Halt}
use Rattle.sheet.specs.declared.Numbered.{Numbered}
use Rattle.sheet.specs.Answers.{accepted}

pub is-done-end : (u : Result ⊤ Halt) → is_done u ≡ true → u ≡ Ok tt
is-done-end (Ok _) h = refl
is-done-end (Err _) h = absurd (not-both h refl)

-- a list's edges are as many as are counted
pub counted : (l : Lent) {n : ℕ} {w : Sweep (List ℤ) (List ℤ)} → n ≡ edges_in l.list → w ≡ sweep_up (lent_room l.rows l.journal) (list_edges l.list) (start 0 l.rows l.journal) n → w ≡ swept_up l
unfolding swept_up
counted l e E = E ∙ ap (sweep_up (lent_room l.rows l.journal) (list_edges l.list) (start 0 l.rows l.journal)) e

-- the numbers of a sweep up fit
module _ (l : Lent) (few : edges_in l.list ≤ most_edges) (eight : length l.journal ≡ journal_numbers_per_edge * edges_in l.list) where
  within : Within (lent_room l.rows l.journal) (swept_up l).state
  unfolding swept_up room
  within = sweep-within (lent_room l.rows l.journal) slice-alone _ (edges_in l.list) l.rows l.journal

  pub records-fit : (swept_up l).state.records ≤ 8192
  unfolding room
  records-fit = omega (arith, within.kept, eight)

  pub peak-fits : (swept_up l).state.end ≡ Ok tt → (swept_up l).state.peak ≤ 8192
  peak-fits d = omega (arith, within.by_name, within.little d, records-fit)

  pub edge-fits : (swept_up l).edge ≤ most_edges
  unfolding swept_up
  edge-fits = omega (arith, edge-within (lent_room l.rows l.journal) (list_edges l.list) (start 0 l.rows l.journal) (edges_in l.list))

-- the state after the sweep up, as the code has it
module _ (l : Lent) {rows₁ journal₁ : List ℤ} {w : Swept} (E : swept rows₁ journal₁ w ≡ swept_up l) (same-journal : length journal₁ ≡ length l.journal) where
  -- not done: everything is given up
  gives_up : (u : Result ⊤ Halt) → is_done u ≡ false → left_as (Err (NoRow w.edge)) l.polygons l.sequences (replicate (length l.journal) (pos 0)) (replicate (length l.rows) (pos 0)) ≡ after_sweep l (swept rows₁ journal₁ w) u
  gives_up (Ok _) h = absurd (not-both refl h)
  gives_up (Err _) h = refl

  pub when-stopped : is_done w.progress.end ≡ false → {journal₂ rows₂ : List ℤ} → length rows₁ ≡ length l.rows → journal₂ ≡ take (numbers_per_record * 0) journal₁ ++ replicate (length journal₁ - numbers_per_record * 0) (pos 0) → rows₂ ≡ replicate (length rows₁) (pos 0) → left_as (Err (NoRow w.edge)) l.polygons l.sequences journal₂ rows₂ ≡ sweeps l
  unfolding sweeps
  when-stopped h {journal₂} {rows₂} same_rows j r =
      (λ i. left_as (Err (NoRow w.edge)) l.polygons l.sequences ((j ∙ none-taken) i) ((r ∙ ap (λ n. replicate n (pos 0)) same_rows) i))
      ∙ gives_up w.progress.end h
      ∙ λ i. after_sweep l (E i) (E i).state.end
    where
      none-taken : take (numbers_per_record * 0) journal₁ ++ replicate (length journal₁ - numbers_per_record * 0) (pos 0) ≡ replicate (length l.journal) (pos 0)
      none-taken = ap (λ n. take 0 journal₁ ++ replicate n (pos 0)) (let n : length journal₁ - 0 ≡ length l.journal = omega arith in n)

  -- done: the journal's records and zeros, the numbers read down
  module _ (d : w.progress.end ≡ Ok tt) (fits : numbers_per_record * w.progress.records ≤ length l.journal) {count : ℕ} {p₂ q₂ : List ℕ} {rows₂ : List ℤ} (D : reading rows₂ p₂ q₂ count ≡ sweep_down tables record_slice journal₁ w.progress.records (reading rows₁ l.polygons l.sequences 0)) where
    pub count_fits : count ≤ w.progress.records
    count_fits = omega (arith, ap (λ v. v.polygons) D, polygons-within tables record_slice journal₁ w.progress.records (reading rows₁ l.polygons l.sequences 0))

    read_is : reading rows₂ p₂ q₂ count ≡ read_down l (swept rows₁ journal₁ w)
    unfolding read_down
    read_is = D

    pub when-done : {journal₂ rows₃ : List ℤ} → length rows₂ ≡ length l.rows → journal₂ ≡ take (numbers_per_record * w.progress.records) journal₁ ++ replicate (length journal₁ - numbers_per_record * w.progress.records) (pos 0) → rows₃ ≡ replicate (length rows₂) (pos 0) → left_as (accepted count w.progress.peak w.progress.records) p₂ q₂ journal₂ rows₃ ≡ sweeps l
    unfolding sweeps
    when-done {journal₂} {rows₃} same_rows j r =
        (λ i. left_as (accepted count w.progress.peak w.progress.records) p₂ q₂ ((j ∙ then-zeros) i) ((r ∙ ap (λ n. replicate n (pos 0)) same_rows) i))
        ∙ (λ i. left_as (accepted (read_is i).polygons w.progress.peak w.progress.records) (read_is i).answers.polygons (read_is i).answers.sequences (take (numbers_per_record * w.progress.records) journal₁ ++ replicate (length l.journal - length (take (numbers_per_record * w.progress.records) journal₁)) (pos 0)) (replicate (length l.rows) (pos 0)))
        ∙ (λ i. after_sweep l (swept rows₁ journal₁ w) (sym d i))
        ∙ λ i. after_sweep l (E i) (E i).state.end
      where
        then-zeros : take (numbers_per_record * w.progress.records) journal₁ ++ replicate (length journal₁ - numbers_per_record * w.progress.records) (pos 0) ≡ take (numbers_per_record * w.progress.records) journal₁ ++ replicate (length l.journal - length (take (numbers_per_record * w.progress.records) journal₁)) (pos 0)
        then-zeros = ap (λ n. take (numbers_per_record * w.progress.records) journal₁ ++ replicate n (pos 0)) (let n : length journal₁ - numbers_per_record * w.progress.records ≡ length l.journal - length (take (numbers_per_record * w.progress.records) journal₁) = omega (arith, length-take-le (numbers_per_record * w.progress.records) journal₁ (omega arith)) in n)

-- the journal's first part as the sweeps leave it, and zeros behind
module _ (l : Lent) (long : journal_numbers_per_edge * edges_in l.list ≤ length l.journal) where
  pub part-long : length (in_journal l).journal ≡ journal_numbers_per_edge * edges_in l.list
  part-long = length-take-le (journal_numbers_per_edge * edges_in l.list) l.journal long

  pub behind : {a : Result Numbered Refusal} {p q : List ℕ} {part journal₂ rows₂ : List ℤ} → left_as a p q part rows₂ ≡ sweeps (in_journal l) → length part ≡ journal_numbers_per_edge * edges_in l.list → journal₂ ≡ take (numbers_per_record * (2 * edges_in l.list)) (part ++ drop (journal_numbers_per_edge * edges_in l.list) l.journal) ++ replicate (length (part ++ drop (journal_numbers_per_edge * edges_in l.list) l.journal) - numbers_per_record * (2 * edges_in l.list)) (pos 0) → left_as a p q journal₂ rows₂ ≡ sweeps_on l
  behind {a} {p} {q} {part} {journal₂} {rows₂} E same j =
      (λ i. left_as a p q ((j ∙ whole) i) rows₂) ∙ (λ i. whole_journal (length l.journal) (E i))
    where
      front : take (numbers_per_record * (2 * edges_in l.list)) (part ++ drop (journal_numbers_per_edge * edges_in l.list) l.journal) ≡ part
      front = take_at part (drop (journal_numbers_per_edge * edges_in l.list) l.journal) (numbers_per_record * (2 * edges_in l.list)) (omega arith)

      rest : length (part ++ drop (journal_numbers_per_edge * edges_in l.list) l.journal) - numbers_per_record * (2 * edges_in l.list) ≡ length l.journal - length part
      rest = omega (arith, length-append part (drop (journal_numbers_per_edge * edges_in l.list) l.journal), length-drop (journal_numbers_per_edge * edges_in l.list) l.journal)

      whole : take (numbers_per_record * (2 * edges_in l.list)) (part ++ drop (journal_numbers_per_edge * edges_in l.list) l.journal) ++ replicate (length (part ++ drop (journal_numbers_per_edge * edges_in l.list) l.journal) - numbers_per_record * (2 * edges_in l.list)) (pos 0) ≡ part ++ replicate (length l.journal - length part) (pos 0)
      whole = λ i. front i ++ replicate (rest i) (pos 0)

-- the checks give no 10, so what they refuse leaves everything as it was
abbrev is_ten : Result ⊤ Refusal → Bool
is_ten (Ok _) = false
is_ten (Err r) = eqb (number_of r) 10

no-ten : {c : Call} {x : Result ⊤ Refusal} → Row c x → is_ten x ≡ false
no-ten (row-1 a) = refl
no-ten (row-2 a b) = refl
no-ten (row-3 a b d) = refl
no-ten (row-4 a b d e) = refl
no-ten (row-5 a b d) = refl
no-ten (row-16 a b d e) = refl
no-ten (row-6 a b d e f) = refl
no-ten (row-7 a b d e f g) = refl
no-ten (row-8 a b d) = refl
no-ten (row-9 a b d e) = refl
no-ten (row-17 a b) = refl
no-ten (no_row a b) = refl

pub never-ten : (c : Call) {r : Refusal} → checked c ≡ Err r → eqb (number_of r) 10 ≡ false
never-ten c e = ap is_ten (sym e) ∙ no-ten (row c)

pub when-refused : (l : Lent) (r : Refusal) → checked (call_of l) ≡ Err r → left_as (Err r) l.polygons l.sequences l.journal l.rows ≡ outcome l
unfolding outcome
when-refused l r e =
    ap (λ t. left_as (Err r) l.polygons l.sequences (cond t (zeros l.journal) l.journal) (cond t (zeros l.rows) l.rows)) (sym (never-ten (call_of l) e))
    ∙ ap (λ x. leaves l (answered x (answer_by l (up l).state.end))) (sym e)

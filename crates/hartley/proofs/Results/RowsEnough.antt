-- Rows that are always enough. Where an edge of the list finds no row all rows are in use (SweepEnded); those of a level are fewer by two than the edges that pass
-- the edge's top, so at most C less two, and a level that is in use has an outline of 2 ^ level edges with room for it, so at most the whole part of log2 L levels
-- are. One row more than all these is never lacked, nor is C times the levels, which is more.
use Rattle.std.specs.Prelude.{Ok, Err}
use mathlib.Core.Path.{◌≡◌, refl, ap, sym, ◌∙◌}
use mathlib.Core.Logic.{⊎_elim}
use Prim.Native.Nat.{ℕ, suc, ◌+◌, ◌-◌, ◌*◌, ◌^◌, ◌≤◌, ◌<◌}
use native.Mathlib.Nat.{mul_comm, mul-add, mul-le-mul_left}
use native.Mathlib.Omega.{arith}
use lib.Dec.{eqb}
use borrow.Author.Tests.{eq-eqb, eqb-true}
use Rattle.laws.proofs.Deciding.{lt-or-le}
use Rattle.laws.proofs.Counting.{count-le}
use Rattle.sheet.specs.Joining.{Follows}
use Rattle.sheet.specs.Passing.{passing, outline_size, Enough}
use Rattle.sheet.proofs.Checked.{joins}
use Rattle.steps.specs.Rows.{Row, Record}
use Rattle.hartley.proofs.Results.NearRun.{near_run}
use Rattle.hartley.proofs.Paths.Plan.{height}
use Rattle.hartley.proofs.Seams.LongOutline as weight
use Rattle.hartley.proofs.Bounds.LengthsAndLevels.{room-many, pow-le, level-small}
use Rattle.hartley.proofs.Bounds.RowsOfALevel.{passes}
use Rattle.hartley.proofs.Step.Given.{Setting, plan, laws}
use Rattle.hartley.proofs.Results.ListSwept.{top_of}
use Rattle.hartley.proofs.Results.SweepEnded.{sweep-ends, when-refused}
use Rattle.steps.specs.declared.Halt.TheVariants.{NoFreeRow}

-- twelve rows an edge are enough whatever the outlines: no level is above 12, and no more edges pass a place than there are
pub twelve-each : (A : Setting) (t : ℕ → Row ℕ) (j : ℕ → Record) → 12 * A.sheet.edges ≤ A.rows → (near_run A.sheet A.rows A.records t j).state.end ≡ Ok tt
twelve-each A t j lent = ⊎_elim (λ d. d) (λ d. absurd (refused d)) (sweep-ends A t j)
  where
    refused : (near_run A.sheet A.rows A.records t j).state.end ≡ Err NoFreeRow → ⊥
    refused d =
        let w = when-refused A t j d in
        omega (arith, w.2.crowded 12 (λ l r. level-small (laws A) A.few l r), count-le (passes (plan A) (top_of (plan A) w.0)) A.sheet.edges, lent)

module _ (A : Setting) (polygon : ℕ → ℕ) (shared : (e f : ℕ) → Follows A.sheet e f → polygon f ≡ polygon e) where
  -- an outline with room for a level has one polygon number
  levels-few : (L log : ℕ) → ((k : ℕ) → outline_size A.sheet polygon k ≤ L) → L < 2 ^ suc log → (l : ℕ) → weight.Room (plan A) l → l ≤ log
  unfolding outline_size
  levels-few L log most under l r =
      let many = room-many (laws A) l r (λ e. eqb (polygon e) (polygon r.0)) (eq-eqb (polygon r.0) (polygon r.0) refl) (λ e h t. eq-eqb (polygon ((joins A.checked).next e)) (polygon r.0) (shared e _ ((joins A.checked).follows e h) ∙ eqb-true (polygon e) (polygon r.0) t)) in
      ⊎_elim (λ h. absurd (omega (arith, many, most (polygon r.0), pow-le (suc log) l h))) (λ h. omega arith) (lt-or-le log l)

  module _ (t : ℕ → Row ℕ) (j : ℕ → Record) (c : ℕ) (enough : Enough A.sheet polygon c) where
    -- what a run without a free row says of the rows
    pub record Refused : Type 0 where
      pub levels : 1 ≤ enough.log
      pub passing_some : 2 ≤ enough.C
      pub few_rows : A.rows ≤ enough.log * (enough.C - 2)

    refused : (near_run A.sheet A.rows A.records t j).state.end ≡ Err NoFreeRow → Refused
    unfolding passing
    refused d =
        let w = when-refused A t j d in
        let few = levels-few enough.L enough.log enough.longest.bound enough.whole_part.under in
        let crowd = w.2.crowded enough.log few in
        let pass = enough.most_passing.bound (height (plan A) (top_of (plan A) w.0)) in
        record { levels = crowd.0; passing_some = omega (arith, crowd.1, pass); few_rows = omega (arith, crowd.2, mul-le-mul_left enough.log (less pass)) }
      where
        less : {m n : ℕ} → m ≤ n → m - 2 ≤ n - 2
        less l = omega (arith, l)

    ends-done : (Refused → ⊥) → (near_run A.sheet A.rows A.records t j).state.end ≡ Ok tt
    ends-done never = ⊎_elim (λ d. d) (λ d. absurd (never (refused d))) (sweep-ends A t j)

    -- demand 3, sharper
    pub fewer-rows : 1 + enough.log * (enough.C - 2) ≤ A.rows → (near_run A.sheet A.rows A.records t j).state.end ≡ Ok tt
    fewer-rows lent = ends-done (λ r. omega (arith, lent, r.few_rows))

    -- demand 3
    pub enough_rows : c ≤ A.rows → (near_run A.sheet A.rows A.records t j).state.end ≡ Ok tt
    enough_rows lent = ends-done (λ r. omega (arith, lent, r.few_rows, r.levels, all_of r))
      where
        -- C times the levels are the smaller number and twice the levels more
        all_of : Refused → c ≡ enough.log * (enough.C - 2) + enough.log * 2
        all_of r =
            let two : enough.C - 2 + 2 ≡ enough.C = omega (arith, r.passing_some) in
            enough.rows_are ∙ mul_comm enough.C enough.log ∙ ap (λ k. enough.log * k) (sym two) ∙ mul-add enough.log (enough.C - 2) 2

-- The end of the sweep up: it is done, or no row was free. Where it is done every edge stands in a closed outline at an index, and the records and the outlines are
-- together at most twice the edges.
use Rattle.std.specs.Prelude.{Ok, Err}
use mathlib.Core.Path.{◌≡◌, refl, ap, sym, subst}
use mathlib.Core.List.{[]}
use mathlib.Core.Logic.{◌⊎◌, inl, inr, ⊎_elim}
use Prim.Native.Nat.{ℕ, suc, ◌+◌, ◌-◌, ◌*◌, ◌≤◌, ◌<◌}
use native.Mathlib.Omega.{arith}
use Rattle.laws.proofs.Deciding.{lt-or-le}
use Rattle.steps.specs.Rows.{Row, Record}
use Rattle.steps.specs.SweepUp.{start, sweep_up}
use Rattle.steps.specs.Swept.{drawn_edge}
use Rattle.steps.proofs.Stopping.{stops_at}
use Rattle.hartley.proofs.Results.NearRun.{near_to, near_run}
use Rattle.hartley.proofs.Paths.Plan.{Plan, Lawful}
use Rattle.hartley.proofs.Paths.JournalRead.{recs, records-recs}
use Rattle.hartley.proofs.Paths.Paths.{edge, out, Paths, size, Chain}
use Rattle.hartley.proofs.Paths.Outlines.{Outs}
use Rattle.hartley.proofs.Paths.JournalLinked.{Naming, Linked}
use Rattle.hartley.proofs.Paths.RecordsCounted.{closes, listed}
use Rattle.hartley.proofs.Invariant.TableTied.{State}
use Rattle.hartley.proofs.Invariant.BeforeTheFirst as init
use Rattle.hartley.proofs.Invariant.BeforeTheFirst.{unborn, begin}
use Rattle.hartley.proofs.Invariant.NoRowLeft.{closed_all}
use Rattle.hartley.proofs.Bounds.LengthsAndLevels.{records-small}
use Rattle.hartley.proofs.Step.StepsSeen.{Work, journal_of}
use Rattle.hartley.proofs.Step.Given.{Setting, plan, laws, room_in, Held}
use Rattle.hartley.proofs.Results.ListSwept.{time, Past, SweptTo, past, stopped, Lacking, no-records, sweep-result, lacking-at}
use Rattle.steps.specs.declared.Halt.TheVariants.{NoFreeRow}

module _ (A : Setting) where
  abbrev sh : Plan
  sh = plan A

  abbrev N : Lawful sh
  N = laws A

  pub record Finished (s : Work) : Type 0 where
    pub names : Naming
    pub paths : Paths
    pub chain : Chain sh paths
    pub moment : ℕ
    pub outs : Outs sh moment paths
    pub linked : Linked sh (journal_of s) names paths
    pub closed : (e : ℕ) → e < A.sheet.edges → (k : ℕ) × (i : ℕ) × (paths.spot e ≡ out k i)
    pub count_is : closes (journal_of s) ≡ paths.rounds.count
    pub few : s.records + closes (journal_of s) ≤ 2 * A.sheet.edges
    pub reach_rows : s.reach ≤ A.rows
    pub reach_records : s.reach ≤ s.records
    pub held : (k : ℕ) → k < s.records → Held A (s.journal k) (recs s.journal k)

  module _ (i : ℕ) (l : i < A.sheet.edges) (last : suc i ≡ A.sheet.edges) (s : Work) (Q : Past A i l s) where
    abbrev G : Paths
    G = Q.paths

    all-gone : (a : ℕ) → size G (edge a) ≡ 0
    all-gone a = ⊎_elim (λ m. live m) (λ m. omega arith) (lt-or-le 0 (size G (edge a)))
      where
        live : 0 < size G (edge a) → size G (edge a) ≡ 0
        live m =
            let f = Q.inv.state.frame.chain.first (edge a) m in
            let b = Q.inv.state.frame.of_edge _ a 0 f in
            Q.gone a (omega (arith, b.0, Q.inv.state.frame.chain.real _ _ _ f))

    at-end : Finished s
    at-end = record {
      names = Q.names;
      paths = G;
      chain = Q.inv.state.frame.chain;
      moment = suc i;
      outs = Q.inv.state.frame.outs;
      linked = Q.inv.state.linked;
      closed = closed_all N (time N i l) Q.inv.state all-gone Q.clean;
      count_is = Q.inv.state.shuts;
      few = omega (arith, records-small Q.inv.state A.sheet.edges (omega (arith, Q.listed_is)), records-recs s.journal s.records);
      reach_rows = Q.inv.reach_rows;
      reach_records = Q.inv.reach_records;
      held = Q.inv.held;
    }

  -- the list is empty
  module _ (t : ℕ → Row ℕ) (j : ℕ → Record) where
    empty : A.sheet.edges ≡ 0 → Finished (start 0 t j)
    empty z = record {
      names = unborn;
      paths = init.start A.sheet.edges;
      chain = I.frame.chain;
      moment = 1;
      outs = I.frame.outs;
      linked = I.linked;
      closed = λ e l. absurd (omega arith);
      count_is = I.shuts;
      few = omega (arith, records-small I 0 (omega (arith, ap listed (no-records A t j), unlisted)), records-recs j 0);
      reach_rows = omega arith;
      reach_records = omega arith;
      held = λ k l. absurd (omega arith);
    }
      where
        I : State sh 0 1 t (journal_of (start 0 t j)) unborn (init.start A.sheet.edges)
        I = rw (no-records A t j) (begin sh N 0 t)

        unlisted : listed [] ≡ 0
        unlisted = unfold listed in refl

    abbrev over : Work
    over = (near_run A.sheet A.rows A.records t j).state

    pub data Ending (s : Work) : Type 0 where
      finished : s.end ≡ Ok tt → Finished s → Ending s
      refused : s.end ≡ Err NoFreeRow → Ending s

    pub ending : Ending over
    unfolding sweep_up
    ending = ⊎_elim (λ l. some (A.sheet.edges - 1) (omega arith) (omega arith)) (λ l. let z : A.sheet.edges ≡ 0 = omega arith in subst (λ k. Ending (near_to A.sheet A.rows A.records t j k).state) (sym z) (none z)) (lt-or-le 0 A.sheet.edges)
      where
        some : (i : ℕ) → i < A.sheet.edges → suc i ≡ A.sheet.edges → Ending over
        some i l e = subst (λ k. Ending (near_to A.sheet A.rows A.records t j k).state) e (by (sweep-result A t j i l))
          where
            by : {s : Work} → SweptTo A i l s → Ending s
            by (past Q) = finished Q.inv.is_done (at-end i l e _ Q)
            by (stopped d) = refused d

        none : A.sheet.edges ≡ 0 → Ending (near_to A.sheet A.rows A.records t j 0).state
        none z = finished refl (empty z)

    -- it ends done or without a free row
    pub sweep-ends : (over.end ≡ Ok tt) ⊎ (over.end ≡ Err NoFreeRow)
    sweep-ends = by ending
      where
        by : {s : Work} → Ending s → (s.end ≡ Ok tt) ⊎ (s.end ≡ Err NoFreeRow)
        by (finished e F) = inl e
        by (refused e) = inr e

    pub when-done : over.end ≡ Ok tt → Finished over
    when-done d = by ending d
      where
        by : {s : Work} → Ending s → s.end ≡ Ok tt → Finished s
        by (finished e F) d = F
        by (refused e) d = let z : ◌≡◌ {A = ℕ} 0 1 = cc in absurd (omega arith)

    -- where no row was free, at which edge
    pub when-refused : over.end ≡ Err NoFreeRow → (k : ℕ) × (h : k < A.sheet.edges) × Lacking A k h (near_to A.sheet A.rows A.records t j k).state
    when-refused d =
        let S = stops_at (room_in A) (drawn_edge A.sheet) (start 0 t j) refl A.sheet.edges d in
        (_, S.is_edge, lacking-at A t j _ S.is_edge S.before S.lacking)

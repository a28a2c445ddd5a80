-- Lists that pass all that is asked before 18 are refused nothing else, and 18 exactly from the number of edges and twice the number of polygons on. Such
-- lists pass 11 to 14, 24 and 25, and what is promised settles the answer (OneAnswer.antt); the last edge in turn is of the last polygon.
use Rattle.std.specs.Prelude.{Ok, Err}
use mathlib.Core.Path.{◌≡◌, refl, sym, ap, ◌∙◌}
use mathlib.Core.Bool.{true, false}
use mathlib.Core.List.{List}
use mathlib.Core.Logic.{⊎_elim}
use Prim.Native.Nat.{ℕ, suc, ◌+◌, ◌-◌, ◌*◌, ◌≤◌, ◌<◌}
use native.Mathlib.Omega.{arith}
use borrow.Author.Tests.{eq-eqb, ne_eqb, lt-ltb, le-ltb}
use lib.Dec.{ltb}
use lib.IntN.{ℤ}
use lib.ListN.{length, get_or}
use Rattle.laws.specs.Counting.{first}
use Rattle.laws.proofs.Deciding.{lt-or-le}
use Rattle.laws.proofs.First.{first-le, first-none}
use Rattle.sheet.specs.Edges.{edges_in}
use Rattle.sheet.specs.TurnList.{number_lists, turned, TurnList}
use Rattle.sheet.proofs.ExactlyAccepted.{accepts-exactly}
use Rattle.checks.specs.Stages.{and_then, list_checked, edges_alone_checked}
use Rattle.checks.proofs.Answering.{alone-fit}
use Rattle.turns.proofs.OneTurnList.{every-edge}
use Rattle.cutter.specs.declared.machines.Machine.{Machine}
use Rattle.cutter.specs.declared.blade.Instruction.{Instruction}
use Rattle.cutter.specs.declared.blade.Instruction.TheVariants.{Lift}
use Rattle.cutter.specs.declared.CutRefusal.TheVariants.{PastLast}
use Rattle.cutter.specs.Instructed.{Step}
use Rattle.cutter.specs.Places.{place_for}
use Rattle.cutter.specs.Programme.{programme}
use Rattle.cutter.specs.Outlines.{outlines_of, head_not_tail}
use Rattle.cutter.specs.Instructed.{kth, Instructs}
use Rattle.cutter.specs.Runs.{Runs}
use Rattle.cutter.specs.Position.{up_to_cut, past_last}
use Rattle.cutter.proofs.RightTurns.{right-runs, run_long}
use Rattle.cutter.proofs.TurnsTried.{on-run}
use Rattle.cutter.proofs.Instructing.{on-joined}
use Rattle.cutter.proofs.OneAnswer.{one_answer}
use Rattle.cutter.proofs.KthInstruction.{when-past, when-lift, when-found}

module _ (list : List ℤ) (polygons sequences turns : List ℕ) {c : ℕ}
    (passed : and_then (list_checked list) (edges_alone_checked list) ≡ Ok tt)
    (polygons_long : length polygons ≡ edges_in list) (sequences_long : length sequences ≡ edges_in list)
    (accepted : turned polygons sequences (length turns) ≡ Ok c)
    (T : TurnList (number_lists polygons sequences) turns) where
  pub runs : Runs (number_lists polygons sequences) turns
  runs = right-runs polygons sequences turns (sequences_long ∙ sym polygons_long) (omega (arith, polygons_long, (alone-fit list passed).few)) c accepted T

  turns-long : length turns ≡ edges_in list
  turns-long = run_long polygons sequences turns runs ∙ polygons_long

  -- the last edge in turn is of the last polygon, and without an edge there is none
  polygon-of : ℕ → ℕ
  polygon-of i = get_or polygons (get_or turns i 0) 0

  last-polygon : (i : ℕ) → suc i ≡ length turns → polygon-of i ≡ c
  unfolding number_lists polygon-of
  last-polygon i q =
      let G = ((accepts-exactly polygons sequences (length turns) c).0 accepted).numbering in
      let l : i < length polygons = omega (arith, q, turns-long, polygons_long) in
      let here = G.from_one (get_or turns i 0) (T.places i l) in
      let e = G.no_gap c (omega (arith, here)) (omega arith) in
      let w = every-edge T e.0 e.1 in
      let there = ap (λ (x : ℕ). get_or polygons x 0) w.2 ∙ e.2 in
      ⊎_elim
      (λ h. ⊎_elim (λ b. omega (arith, here, b, there)) (λ b. omega (arith, b, there)) (T.in_order w.0 i h l))
      (λ h. let s : w.0 ≡ i = omega (arith, h, w.1, q, turns-long, polygons_long) in sym (ap polygon-of s) ∙ there)
      (lt-or-le w.0 i)

  no-polygon : length turns ≡ 0 → c ≡ 0
  unfolding number_lists
  no-polygon q = ⊎_elim
      (λ h. let e = ((accepts-exactly polygons sequences (length turns) c).0 accepted).numbering.no_gap c h (omega arith) in absurd (omega (arith, e.1, q, turns-long, polygons_long)))
      (λ h. omega (arith, h))
      (lt-or-le 0 c)

  module _ (k : ℕ) where
    past-told : length turns + 2 * c ≤ k → past_last polygons turns k ≡ true
    unfolding past_last up_to_cut polygon-of
    past-told h = ⊎_elim
        (λ l.
        let p = last-polygon (length turns - 1) (omega (arith, l)) in
        rw (ne_eqb (length turns) 0 (λ q. absurd (omega (arith, q, l)))) (lt-ltb (up_to_cut polygons turns (length turns - 1)) k (omega (arith, h, p, l))))
        (λ l. rw (eq-eqb (length turns) 0 (omega (arith, l))) refl)
        (lt-or-le 0 (length turns))

    not-past-told : k < length turns + 2 * c → past_last polygons turns k ≡ false
    unfolding past_last up_to_cut polygon-of
    not-past-told h = ⊎_elim
        (λ l.
        let p = last-polygon (length turns - 1) (omega (arith, l)) in
        rw (ne_eqb (length turns) 0 (λ q. absurd (omega (arith, q, l)))) (le-ltb (up_to_cut polygons turns (length turns - 1)) k (omega (arith, h, p, l))))
        (λ l. absurd (omega (arith, h, l, no-polygon (omega (arith, l)))))
        (lt-or-le 0 (length turns))

    module _ (m : Machine) (joined : (i : ℕ) → i < length turns → head_not_tail list sequences turns i ≡ false) {r : Step} (I : Instructs m list polygons sequences turns k r) where
      step_is : r ≡ kth (programme (place_for m) (outlines_of list sequences turns)) k
      step_is =
          let checked = on-run (edges_in list) polygons sequences turns polygons_long sequences_long turns-long (alone-fit list passed).few runs in
          one_answer m list polygons sequences turns k I (on-joined m list polygons sequences turns k passed checked refl (first-none _ (length turns) joined) refl)

      pub past : length turns + 2 * c ≤ k → r ≡ Err PastLast
      past h = step_is ∙ sym (when-past m list polygons sequences turns runs k (past-told h))

      pub not-past : k < length turns + 2 * c → (i : Instruction) × (r ≡ Ok i)
      not-past h = ⊎_elim
          (λ l. (_, step_is ∙ sym (when-found m list polygons sequences turns runs k _ (l, refl))))
          (λ l. (Lift, step_is ∙ sym (when-lift m list polygons sequences turns runs k (not-past-told h) (omega (arith, l, first-le (λ i. ltb k (up_to_cut polygons turns i)) (length turns))))))
          (lt-or-le (first (λ i. ltb k (up_to_cut polygons turns i)) (length turns)) (length turns))

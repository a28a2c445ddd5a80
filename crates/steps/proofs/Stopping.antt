-- Where a sweep up stops: it ends without a free row at edge e exactly when the edges before e are treated and e's own treatment ends so.
use Rattle.std.specs.Prelude.{Result, ⊤, Ok, Err}
use mathlib.Core.Path.{◌≡◌, refl, sym, ap, ◌∙◌}
use mathlib.Core.Logic.{⊎_elim}
use Prim.Native.Nat.{ℕ, zero, suc, ◌≤◌, ◌<◌}
use native.Mathlib.Omega.{arith}
use Rattle.laws.proofs.Deciding.{lt-or-le}
use Rattle.steps.specs.Rows.{LevelEdge, Room}
use Rattle.steps.specs.SweepUp.{State, Sweep, sweep_up, treat, levels, after_done}
use Rattle.steps.specs.declared.Halt.{Halt}
use Rattle.steps.specs.declared.Halt.TheVariants.{NoFreeRow, Overrun}

module _ {P T J : Type 0} (room : Room P T J) (list : ℕ → LevelEdge P) (s : State T J) where
  abbrev to : ℕ → Sweep T J
  to n = sweep_up room list s n

  abbrev treated : ℕ → State T J
  treated n = treat room levels 0 (to n).state (list n)

  pub record Stops (n e : ℕ) : Type 0 where
    pub is_edge : e < n
    pub before : (to e).state.end ≡ Ok tt
    pub lacking : (treated e).end ≡ Err NoFreeRow

  one_more : (n : ℕ) → to (suc n) ≡ after_done (to n).state.end (to n) (record { state = treated n; edge = n })
  unfolding sweep_up
  one_more n = refl

  pub when-done : (n : ℕ) → (to n).state.end ≡ Ok tt → to (suc n) ≡ record { state = treated n; edge = n }
  when-done n d = one_more n ∙ ap (λ u. after_done u (to n) (record { state = treated n; edge = n })) d

  when-stopped : (n : ℕ) → (to n).state.end ≡ Err NoFreeRow → to (suc n) ≡ to n
  when-stopped n d = one_more n ∙ ap (λ u. after_done u (to n) (record { state = treated n; edge = n })) d

  when-overrun : (n : ℕ) → (to n).state.end ≡ Err Overrun → to (suc n) ≡ to n
  when-overrun n d = one_more n ∙ ap (λ u. after_done u (to n) (record { state = treated n; edge = n })) d

  module _ (begins : s.end ≡ Ok tt) where
    pub stops_at : (n : ℕ) → (to n).state.end ≡ Err NoFreeRow → Stops n (to n).edge
    unfolding sweep_up
    stops_at zero h = let e : (Ok tt) ≡ Err NoFreeRow = sym begins ∙ h in let z : ◌≡◌ {A = ℕ} 0 1 = cc in absurd (omega arith)
    stops_at (suc n) h = by (λ d. stops_at n d) (to n).state.end refl
      where
        by : ((to n).state.end ≡ Err NoFreeRow → Stops n (to n).edge) → (u : Result ⊤ Halt) → (to n).state.end ≡ u → Stops (suc n) (to (suc n)).edge
        by so_far (Ok _) d =
            let e = when-done n d in
            rw (ap (λ w. w.edge) e) (record { is_edge = omega arith; before = d; lacking = sym (ap (λ w. w.state.end) e) ∙ h })
        by so_far (Err NoFreeRow) d = let S = so_far d in rw (ap (λ w. w.edge) (when-stopped n d)) (record { is_edge = omega (arith, S.is_edge); before = S.before; lacking = S.lacking })
        by so_far (Err Overrun) d = let e : (Err Overrun) ≡ Err NoFreeRow = sym d ∙ sym (ap (λ w. w.state.end) (when-overrun n d)) ∙ h in let z : ◌≡◌ {A = ℕ} 0 1 = cc in absurd (omega arith)

  pub stopped : (n e : ℕ) → Stops n e → ((to n).state.end ≡ Err NoFreeRow) × ((to n).edge ≡ e)
  stopped zero e S = absurd (omega (arith, S.is_edge))
  stopped (suc n) e S = ⊎_elim (λ l. later (stopped n e (record { is_edge = l; before = S.before; lacking = S.lacking }))) here (lt-or-le e n)
    where
      later : ((to n).state.end ≡ Err NoFreeRow) × ((to n).edge ≡ e) → ((to (suc n)).state.end ≡ Err NoFreeRow) × ((to (suc n)).edge ≡ e)
      later h = let q = when-stopped n h.0 in (ap (λ w. w.state.end) q ∙ h.0, ap (λ w. w.edge) q ∙ h.1)

      here : n ≤ e → ((to (suc n)).state.end ≡ Err NoFreeRow) × ((to (suc n)).edge ≡ e)
      here l =
          let e-is : e ≡ n = omega (arith, S.is_edge) in
          let q = when-done n (sym (ap (λ k. (to k).state.end) e-is) ∙ S.before) in
          (ap (λ w. w.state.end) q ∙ sym (ap (λ k. (treated k).end) e-is) ∙ S.lacking, ap (λ w. w.edge) q ∙ sym e-is)

-- The turn list of a good numbering runs. Every edge stands at a position, so none comes between the edges at two neighbouring positions, and none before
-- the first. In a good numbering every smaller sequence number of a polygon and every smaller polygon number is there. So the numbers leave nothing out
-- from one position to the next, nor before the first: an edge that has what is left out would come between.
use mathlib.Core.Path.{◌≡◌, sym, ◌∙◌}
use mathlib.Core.List.{List}
use mathlib.Core.Logic.{⊎_elim, inl, inr}
use Prim.Native.Nat.{ℕ, suc, ◌≤◌, ◌<◌}
use native.Mathlib.Omega.{arith}
use lib.ListN.{get_or}
use Rattle.laws.proofs.Deciding.{lt-or-le}
use Rattle.sheet.specs.TurnList.{NumberLists, Before, TurnList, GoodNumbering}
use Rattle.turns.proofs.OneTurnList.{not-each-before, every-edge}
use Rattle.cutter.specs.Runs.{Onward, Runs}

at_most : (a b : ℕ) → (a < b → ⊥) → b ≤ a
at_most a b h = ⊎_elim (λ l. absurd (h l)) (λ l. l) (lt-or-le a b)

module _ {v : NumberLists} {turns : List ℕ} (T : TurnList v turns) where
  abbrev turn : ℕ → ℕ
  turn i = get_or turns i 0

  -- what comes before stands before
  stands-earlier : (i j : ℕ) → i < v.edges → j < v.edges → Before v (turn i) (turn j) → i < j
  stands-earlier i j l m b = ⊎_elim (λ h. h) (λ h. absurd (⊎_elim later (λ g. same (omega arith)) (lt-or-le j i))) (lt-or-le i j)
    where
      later : j < i → ⊥
      later g = not-each-before v _ _ b (T.in_order j i g l)

      same : i ≡ j → ⊥
      same q = let s = rw q at b in not-each-before v _ _ s s

  none_first : (e : ℕ) → e < v.edges → 0 < v.edges → Before v e (turn 0) → ⊥
  none_first e l m b =
      let w = every-edge T e l in
      omega (arith, stands-earlier w.0 0 w.1 m (rw w.2 b))

  none_between : (e i : ℕ) → e < v.edges → suc i < v.edges → Before v (turn i) e → Before v e (turn (suc i)) → ⊥
  none_between e i l m a b =
      let w = every-edge T e l in
      omega (arith, stands-earlier i w.0 (omega arith) w.1 (rw w.2 a), stands-earlier w.0 (suc i) w.1 m (rw w.2 b))

  module _ {c : ℕ} (G : GoodNumbering v c) where
    begins : 0 < v.edges → (v.polygon (turn 0) ≡ 1) × (v.sequence (turn 0) ≡ 0)
    begins l = (omega (arith, G.from_one (turn 0) t, at_most _ _ one-left-out), omega (arith, at_most _ _ zero-left-out))
      where
        t : turn 0 < v.edges
        t = T.places 0 l

        one-left-out : 1 < v.polygon (turn 0) → ⊥
        one-left-out g =
            let w = G.no_gap 1 (omega arith) (omega (arith, g, G.from_one (turn 0) t)) in
            none_first w.0 w.1 l (inl (omega (arith, g, w.2)))

        zero-left-out : 0 < v.sequence (turn 0) → ⊥
        zero-left-out g =
            let w = G.from_zero (turn 0) 0 t g in
            none_first w.0 w.1 l (inr (w.2, omega (arith, g, w.3)))

    onward : (i : ℕ) → suc i < v.edges → Onward v (turn i) (turn (suc i))
    onward i l = ⊎_elim
        (λ h. inr (omega (arith, h, at_most _ _ polygon-left-out), omega (arith, at_most _ _ (zero-left-out h))))
        (λ h. inl (sym h.0, omega (arith, h, at_most _ _ (sequence-left-out h.0))))
        (T.in_order i (suc i) (omega arith) l)
      where
        t : turn (suc i) < v.edges
        t = T.places (suc i) l

        polygon-left-out : suc (v.polygon (turn i)) < v.polygon (turn (suc i)) → ⊥
        polygon-left-out g =
            let w = G.no_gap (suc (v.polygon (turn i))) (omega arith) (omega (arith, g, G.from_one (turn (suc i)) t)) in
            none_between w.0 i w.1 l (inl (omega (arith, w.2))) (inl (omega (arith, g, w.2)))

        zero-left-out : v.polygon (turn i) < v.polygon (turn (suc i)) → 0 < v.sequence (turn (suc i)) → ⊥
        zero-left-out h g =
            let w = G.from_zero (turn (suc i)) 0 t g in
            none_between w.0 i w.1 l (inl (omega (arith, h, w.2))) (inr (w.2, omega (arith, g, w.3)))

        sequence-left-out : v.polygon (turn i) ≡ v.polygon (turn (suc i)) → suc (v.sequence (turn i)) < v.sequence (turn (suc i)) → ⊥
        sequence-left-out q g =
            let w = G.from_zero (turn (suc i)) (suc (v.sequence (turn i))) t g in
            none_between w.0 i w.1 l (inr (q ∙ sym w.2, omega (arith, w.3))) (inr (w.2, omega (arith, g, w.3)))

    pub turn-list-runs : Runs v turns
    turn-list-runs = record { size = T.size; to_end = record { places = T.places; begins = begins; onward = onward } }

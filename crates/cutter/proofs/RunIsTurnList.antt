-- A list that runs is the turn list of a good numbering. Each edge comes before the next one, so the list is a turn list and every edge stands in it. Going
-- back from where an edge stands one meets every smaller number of its polygon and every smaller polygon. Two edges with the same two numbers stand at
-- one position, since of two positions the edge at the earlier comes before the edge at the later.
use mathlib.Core.Path.{◌≡◌, sym, ap, ◌∙◌}
use mathlib.Core.List.{List}
use mathlib.Core.Logic.{⊎_elim, inl, inr}
use Prim.Native.Nat.{ℕ, ◌-◌, ◌≤◌, ◌<◌}
use native.Mathlib.Omega.{arith}
use lib.ListN.{get_or}
use Rattle.laws.specs.Counting.{largest}
use Rattle.laws.proofs.Deciding.{lt-or-le}
use Rattle.laws.proofs.Largest.{largest-bound, largest-met}
use Rattle.sheet.specs.TurnList.{NumberLists, Before, TurnList, GoodNumbering}
use Rattle.turns.proofs.Neighbours.{neighbours-turn-list}
use Rattle.turns.proofs.OneTurnList.{every-edge}
use Rattle.cutter.specs.Runs.{Onward, Runs}
use Rattle.cutter.proofs.AlongRun.{sequence-within, polygon-within, back, polygon-there}

onward-before : (v : NumberLists) (e f : ℕ) → Onward v e f → Before v e f
onward-before v e f (inl h) = inr (sym h.0, omega arith)
onward-before v e f (inr h) = inl (omega arith)

module _ {v : NumberLists} {turns : List ℕ} (R : Runs v turns) where
  pub run-turn-list : TurnList v turns
  run-turn-list = neighbours-turn-list v turns R.size R.to_end.places (λ i l. onward-before v _ _ (R.to_end.onward i l))

  abbrev turn : ℕ → ℕ
  turn i = get_or turns i 0

  -- where an edge stands
  at : (e : ℕ) → e < v.edges → (i : ℕ) × (i < v.edges) × (turn i ≡ e)
  at = every-edge run-turn-list

  above_zero : (e : ℕ) → e < v.edges → 1 ≤ v.polygon e
  above_zero e l = let w = at e l in omega (arith, polygon-within R.to_end w.0 w.1, ap v.polygon w.2)

  smaller-polygon : (k e : ℕ) → e < v.edges → 1 ≤ k → k ≤ v.polygon e → (f : ℕ) × (f < v.edges) × (v.polygon f ≡ k)
  smaller-polygon k e l o m =
      let w = at e l in
      let p = polygon-there R.to_end k w.0 w.1 o (omega (arith, m, ap v.polygon w.2)) in
      (turn p.0, R.to_end.places p.0 (omega (arith, p.1, w.1)), p.2)

  smaller-sequence : (e i : ℕ) → e < v.edges → i < v.sequence e → (f : ℕ) × (f < v.edges) × (v.polygon f ≡ v.polygon e) × (v.sequence f ≡ i)
  smaller-sequence e i l h =
      let w = at e l in
      let p = ap v.polygon w.2 in
      let s = ap v.sequence w.2 in
      let k = v.sequence e - i in
      let b = back R.to_end k w.0 (w.0 - k) w.1 (omega (arith, s, sequence-within R.to_end w.0 w.1)) (omega (arith, s)) in
      (turn (w.0 - k), R.to_end.places (w.0 - k) (omega (arith, w.1)), b.0 ∙ p, omega (arith, b.1, s, h))

  -- two positions do not have the same two numbers
  apart : (i j : ℕ) → i < j → j < v.edges → v.polygon (turn i) ≡ v.polygon (turn j) → v.sequence (turn i) ≡ v.sequence (turn j) → ⊥
  apart i j l m p s = ⊎_elim (λ h. omega (arith, h, p)) (λ h. omega (arith, h, s)) (run-turn-list.in_order i j l m)

  one-position : (i j : ℕ) → i < v.edges → j < v.edges → v.polygon (turn i) ≡ v.polygon (turn j) → v.sequence (turn i) ≡ v.sequence (turn j) → i ≡ j
  one-position i j l m p s = ⊎_elim
      (λ h. absurd (apart i j h m p s))
      (λ h. ⊎_elim (λ g. absurd (apart j i g l (sym p) (sym s))) (λ g. omega arith) (lt-or-le j i))
      (lt-or-le i j)

  one-edge : (e f : ℕ) → e < v.edges → f < v.edges → v.polygon e ≡ v.polygon f → v.sequence e ≡ v.sequence f → e ≡ f
  one-edge e f l m p s =
      let a = at e l in
      let b = at f m in
      let q = one-position a.0 b.0 a.1 b.1 (rw (a.2, b.2) p) (rw (a.2, b.2) s) in
      sym a.2 ∙ ap turn q ∙ b.2

  -- there are as many polygons as the largest number says
  every-polygon : (k : ℕ) → 1 ≤ k → k ≤ largest v.polygon v.edges → (e : ℕ) × (e < v.edges) × (v.polygon e ≡ k)
  unfolding largest
  every-polygon k o m = ⊎_elim
      (λ h. let w = largest-met v.polygon v.edges h in smaller-polygon k w.0 w.1 o (omega (arith, m, w.2)))
      (λ h. let z : v.edges ≡ 0 = omega arith in absurd (omega (arith, o, m, ap (largest v.polygon) z)))
      (lt-or-le 0 v.edges)

  pub run-good : GoodNumbering v (largest v.polygon v.edges)
  run-good = record {
    from_one = λ e l. (above_zero e l, largest-bound v.polygon v.edges e l);
    no_gap = every-polygon;
    no_repeat = one-edge;
    from_zero = smaller-sequence;
  }

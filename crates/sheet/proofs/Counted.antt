-- A sequence number is below the number of its polygon's edges: it and the numbers below it stand at different edges of the polygon.
use mathlib.Core.Path.{◌≡◌, refl, sym, ◌∙◌}
use mathlib.Core.Bool.{true}
use mathlib.Core.Logic.{⊎_elim}
use Prim.Native.Nat.{ℕ, suc, ◌≤◌, ◌<◌}
use native.Mathlib.Omega.{arith}
use lib.Dec.{eqb}
use borrow.Author.Tests.{eq-eqb}
use Rattle.laws.specs.Counting.{count}
use Rattle.laws.proofs.Deciding.{lt-or-le}
use Rattle.laws.proofs.Counting.{count-all}
use Rattle.laws.proofs.Pigeonhole.{Holes, pigeon}
use Rattle.sheet.specs.TurnList.{NumberLists}

module _ (v : NumberLists) (e : ℕ) where
  -- an edge of e's polygon has a number
  abbrev Stands : ℕ → ℕ → Type 0
  Stands i f = (v.polygon f ≡ v.polygon e) × (v.sequence f ≡ i)

  pub sequence-counted : e < v.edges → ((i : ℕ) → i < v.sequence e → (f : ℕ) × (f < v.edges) × (v.polygon f ≡ v.polygon e) × (v.sequence f ≡ i)) → v.sequence e < count (λ f. eqb (v.polygon f) (v.polygon e)) v.edges
  sequence-counted l smaller = omega (arith, fits, count-all (λ i. true) (suc (v.sequence e)) (λ i h. refl))
    where
      stands : Holes Stands (λ i. true) (λ f. eqb (v.polygon f) (v.polygon e)) (suc (v.sequence e)) v.edges
      stands i h t = ⊎_elim
          (λ g. let s = smaller i g in (s.0, s.1, eq-eqb _ _ s.2, (s.2, s.3)))
          (λ g. (e, l, eq-eqb (v.polygon e) (v.polygon e) refl, (refl, omega arith)))
          (lt-or-le i (v.sequence e))

      fits : count (λ i. true) (suc (v.sequence e)) ≤ count (λ f. eqb (v.polygon f) (v.polygon e)) v.edges
      fits = pigeon Stands (λ i j f a b. sym a.1 ∙ b.1) (λ i. true) (λ f. eqb (v.polygon f) (v.polygon e)) (suc (v.sequence e)) v.edges stands

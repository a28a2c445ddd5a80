-- One list at most is the turn list of a numbering, and every edge stands in it once.
-- No edge comes before itself, so the places of a turn list hold different edges, as many as there are: every edge stands somewhere. Say that two turn
-- lists agree below k. The edge that one has at k stands in the other at k or later, so it does not come before the other's edge at k; nor the other way
-- round, so the two are one edge.
use mathlib.Core.Path.{◌≡◌, sym, ap, ◌∙◌}
use mathlib.Core.List.{List}
use mathlib.Core.Logic.{⊎_elim}
use Prim.Native.Nat.{ℕ, zero, suc, ◌≤◌, ◌<◌}
use native.Mathlib.Omega.{arith}
use lib.Dec.{eqb}
use lib.ListN.{get_or}
use lib.Seq.{ext_get_or}
use borrow.Author.Tests.{eq-eqb, eqb-true}
use Rattle.laws.specs.Counting.{bit, count}
use Rattle.laws.proofs.Deciding.{lt-or-le}
use Rattle.laws.proofs.First.{below-some}
use Rattle.laws.proofs.Once.{count-once}
use Rattle.laws.proofs.Pigeonhole.{reached}
use Rattle.sheet.specs.declared.TurnRefusal.{TurnRefusal}
use Rattle.std.specs.Prelude.{Result, Ok, Err}
use Rattle.sheet.specs.TurnList.{NumberLists, Before, TurnList, TurnsAfter}

pub not-each-before : (v : NumberLists) (e f : ℕ) → Before v e f → Before v f e → ⊥
not-each-before v e f a b = ⊎_elim
    (λ p. ⊎_elim (λ q. omega (arith, p, q)) (λ q. omega (arith, p, q)) b)
    (λ p. ⊎_elim (λ q. omega (arith, p, q)) (λ q. omega (arith, p, q)) b)
    a

module _ {v : NumberLists} {turns : List ℕ} (t : TurnList v turns) where
  -- in order, and so not the same edge
  later-differs : (i j : ℕ) → i < j → j < v.edges → get_or turns i 0 ≡ get_or turns j 0 → ⊥
  later-differs i j l jl q = let b = rw q at (t.in_order i j l jl) in not-each-before v _ _ b b

  pub places-differ : (i j : ℕ) → i < v.edges → j < v.edges → get_or turns i 0 ≡ get_or turns j 0 → i ≡ j
  places-differ i j il jl q = ⊎_elim
      (λ h. absurd (later-differs i j h jl q))
      (λ h. ⊎_elim (λ g. absurd (later-differs j i g il (sym q))) (λ g. omega arith) (lt-or-le j i))
      (lt-or-le i j)

  pub every-edge : (e : ℕ) → e < v.edges → (i : ℕ) × (i < v.edges) × (get_or turns i 0 ≡ e)
  every-edge = reached (λ i. get_or turns i 0) v.edges t.places places-differ

  pub edge_once : (e : ℕ) → e < v.edges → count (λ i. eqb (get_or turns i 0) e) v.edges ≡ 1
  edge_once e l =
      let w = every-edge e l in
      count-once _ v.edges (λ i j il jl p q. places-differ i j il jl (eqb-true _ _ p ∙ sym (eqb-true _ _ q)))
      ∙ ap bit (below-some _ v.edges w.0 w.1 (eq-eqb _ _ w.2))

-- the two lists have the same edges below k
abbrev Agree : List ℕ → List ℕ → ℕ → Type 0
Agree s t k = (i : ℕ) → i < k → get_or s i 0 ≡ get_or t i 0

module _ {v : NumberLists} where
  -- what t has at k stands in s at k or later
  not_earlier : (s : List ℕ) {t : List ℕ} → TurnList v t → (k : ℕ) → k < v.edges → Agree s t k → (i : ℕ) → i < v.edges → get_or s i 0 ≡ get_or t k 0 → k ≤ i
  not_earlier s T k l agree i il q = ⊎_elim (λ h. let z = places-differ T i k il l (sym (agree i h) ∙ q) in absurd (omega arith)) (λ h. h) (lt-or-le i k)

  module _ {s t : List ℕ} (S : TurnList v s) (T : TurnList v t) where
    agree-next : (k : ℕ) → k < v.edges → Agree s t k → get_or s k 0 ≡ get_or t k 0
    agree-next k l agree =
        let a = every-edge S (get_or t k 0) (T.places k l) in
        let b = every-edge T (get_or s k 0) (S.places k l) in
        let ka = not_earlier s T k l agree a.0 a.1 a.2 in
        let kb = not_earlier t S k l (λ i h. sym (agree i h)) b.0 b.1 b.2 in
        ⊎_elim
        (λ h. ⊎_elim
        (λ g. absurd (not-each-before v _ _ (rw a.2 at (S.in_order k a.0 h a.1)) (rw b.2 at (T.in_order k b.0 g b.1))))
        (λ g. let q : b.0 ≡ k = omega arith in sym b.2 ∙ ap (λ (i : ℕ). get_or t i 0) q)
        (lt-or-le k b.0))
        (λ h. let q : a.0 ≡ k = omega arith in sym (ap (λ (i : ℕ). get_or s i 0) q) ∙ a.2)
        (lt-or-le k a.0)

    agree-below : (k : ℕ) → k ≤ v.edges → Agree s t k
    agree-below zero l i h = absurd (omega arith)
    agree-below (suc k) l i h = ⊎_elim
        (λ g. agree-below k (omega arith) i g)
        (λ g. let q : i ≡ k = omega arith in rw q (agree-next k (omega arith) (agree-below k (omega arith))))
        (lt-or-le i k)

    pub one-turn-list : s ≡ t
    one-turn-list = ext_get_or 0 s t (S.size ∙ sym T.size) (λ i l. agree-below v.edges (omega arith) i (omega (arith, S.size)))

-- what a call leaves in the turn list is settled by its answer
pub one-outcome : (polygons sequences : List ℕ) (r : Result ℕ TurnRefusal) (before s t : List ℕ) →
    TurnsAfter polygons sequences r before s →
    TurnsAfter polygons sequences r before t →
    s ≡ t
one-outcome polygons sequences (Err x) before s t a b = a ∙ sym b
one-outcome polygons sequences (Ok n) before s t a b = one-turn-list a b

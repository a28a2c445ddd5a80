-- A numbering read polygon by polygon. The sequence numbers of a polygon are those below the number of its edges, each once: from an edge the joins lead
-- back through all smaller numbers, and as many edges with different numbers below n leave none out. So its edges in the order of their numbers lie end
-- to end, and the last one ends where the first begins.
use mathlib.Core.Path.{◌≡◌, refl, ap, sym, ◌∙◌}
use mathlib.Core.Bool.{Bool, true, false, ◌&&◌}
use mathlib.Core.List.{List}
use mathlib.Core.Logic.{⊎_elim}
use Prim.Native.Nat.{ℕ, zero, suc, ◌+◌, ◌-◌, ◌<◌}
use native.Mathlib.Omega.{arith}
use lib.Dec.{eqb}
use lib.ListN.{get_or}
use borrow.Author.Tests.{eq-eqb, eqb-true}
use Rattle.laws.specs.Counting.{some_below}
use Rattle.laws.proofs.Deciding.{lt-or-le, true-or-false, not-both, both_true}
use Rattle.laws.proofs.Counting.{without, without-there, count-without}
use Rattle.laws.proofs.First.{some-below-true, none_below}
use Rattle.laws.proofs.Pigeonhole.{pigeon, reached}
use Rattle.sheet.specs.Edges.{Drawing}
use Rattle.sheet.specs.Joining.{Follows}
use Rattle.sheet.specs.Numbering.{Numbering}
use Rattle.sheet.specs.Passing.{outline_size}
use Rattle.sheet.specs.TurnList.{TurnList}
use Rattle.sheet.proofs.Checked.{Checked, Joins, joins}
use Rattle.sheet.proofs.Leads.{step_back, before-follows}
use Rattle.sheet.proofs.Counted.{sequence-counted}
use Rattle.hartley.proofs.Bounds.LengthsAndLevels.{count-every}

module _ {sh : Drawing} (K : Checked sh) {polygon sequence : ℕ → ℕ} {polygons : ℕ} (A : Numbering sh polygon sequence polygons) where
  abbrev J : Joins sh
  J = joins K

  -- every smaller sequence number is there too
  back_to : (d e : ℕ) → e < sh.edges → (k : ℕ) → sequence e ≡ d + k → (x : ℕ) × (x < sh.edges) × (polygon x ≡ polygon e) × (sequence x ≡ k)
  back_to zero e l k q = (e, l, refl, omega arith)
  back_to (suc d) e l k q =
      let s = step_back K A e (d + k) l (omega arith) in
      let v = back_to d (J.prev e) (J.before e l).0 k s.1 in
      (v.0, v.1, v.2 ∙ s.0, v.3)

  pub sequence-below : (e : ℕ) → e < sh.edges → sequence e < outline_size sh polygon (polygon e)
  unfolding outline_size
  sequence-below e l = sequence-counted (record { polygon = polygon; sequence = sequence; edges = sh.edges }) e l (λ k h. back_to (sequence e - k) e l k (omega arith))

  -- and every one below the number of the polygon's edges
  pub sequence-met : (k i : ℕ) → i < outline_size sh polygon k → (e : ℕ) × (e < sh.edges) × (polygon e ≡ k) × (sequence e ≡ i)
  unfolding outline_size
  sequence-met k i l = ⊎_elim hit (λ h. absurd (missed h)) (true-or-false (some_below test sh.edges))
    where
      test : ℕ → Bool
      test x = eqb (polygon x) k && eqb (sequence x) i

      hit : some_below test sh.edges ≡ true → (e : ℕ) × (e < sh.edges) × (polygon e ≡ k) × (sequence e ≡ i)
      hit h = let v = some-below-true test sh.edges h in let b = both_true (eqb (polygon v.0) k) _ v.2 in (v.0, v.1, eqb-true _ _ b.0, eqb-true _ _ b.1)

      n : ℕ
      n = outline_size sh polygon k

      other : some_below test sh.edges ≡ false → (x : ℕ) → x < sh.edges → polygon x ≡ k → sequence x ≡ i → ⊥
      other h x m p q = not-both (rw (eq-eqb _ _ p, eq-eqb _ _ q) refl) (none_below test sh.edges h x m)

      R : ℕ → ℕ → Type 0
      R x s = (x < sh.edges) × (polygon x ≡ k) × (sequence x ≡ s)

      missed : some_below test sh.edges ≡ false → ⊥
      missed h =
          let p = pigeon R (λ x y s a b. A.pairs x y a.0 b.0 (a.1 ∙ sym b.1) (a.2 ∙ sym b.2)) (λ x. eqb (polygon x) k) (without (λ s. true) i) sh.edges n
          (λ x m t. let q = eqb-true (polygon x) k t in (sequence x, rw q at (sequence-below x m), without-there (λ s. true) i (sequence x) (other h x m q), (m, q, refl))) in
          omega (arith, p, count-without (λ s. true) i n l refl, count-every n)

  -- end to end
  pub next-in-order : (e f : ℕ) → e < sh.edges → f < sh.edges → polygon f ≡ polygon e → sequence f ≡ suc (sequence e) → Follows sh e f
  next-in-order e f l m p q =
      let s = step_back K A f (sequence e) m q in
      let b = J.before f m in
      rw (A.pairs (J.prev f) e b.0 l (s.0 ∙ p) s.1) at (before-follows K A f m)

  -- and round to the first
  pub last-to-first : (e f : ℕ) → e < sh.edges → f < sh.edges → polygon f ≡ polygon e → suc (sequence e) ≡ outline_size sh polygon (polygon e) → sequence f ≡ 0 → Follows sh e f
  last-to-first e f l m p q z =
      let a = J.follows e l in
      let c = A.shared _ _ a in
      ⊎_elim
      (λ h. absurd (omega (arith, h, q, ap (outline_size sh polygon) c, sequence-below (J.next e) a.next_is_edge)))
      (λ h. rw (A.pairs (J.next e) f a.next_is_edge m (c ∙ sym p) (h ∙ sym z)) at a)
      (A.counts _ _ a)

-- the edges in a turn list: neighbours of one polygon follow each other
module _ {sh : Drawing} (K : Checked sh) {polygon sequence : ℕ → ℕ} {polygons : ℕ} (A : Numbering sh polygon sequence polygons) (turns : List ℕ) (L : TurnList (record { polygon = polygon; sequence = sequence; edges = sh.edges }) turns) where
  abbrev turn : ℕ → ℕ
  turn i = get_or turns i 0

  -- a later one of the same polygon has a larger sequence number
  later : (i j : ℕ) → i < j → j < sh.edges → polygon (turn i) ≡ polygon (turn j) → sequence (turn i) < sequence (turn j)
  later i j l m q = ⊎_elim (λ h. absurd (omega arith)) (λ h. h.1) (L.in_order i j l m)

  different : (i j : ℕ) → i < sh.edges → j < sh.edges → turn i ≡ turn j → i ≡ j
  different i j l m q = ⊎_elim
      (λ h. absurd (omega (arith, later i j h m (ap polygon q), ap sequence q)))
      (λ h. ⊎_elim (λ k. absurd (omega (arith, later j i k l (ap polygon (sym q)), ap sequence q))) (λ k. omega arith) (lt-or-le j i))
      (lt-or-le i j)

  pub turns-follow : (i : ℕ) → suc i < sh.edges → polygon (turn i) ≡ polygon (turn (suc i)) → Follows sh (turn i) (turn (suc i))
  turns-follow i l q = next-in-order K A (turn i) (turn (suc i)) (L.places i (omega arith)) (L.places (suc i) l) (sym q) next
    where
      rises : sequence (turn i) < sequence (turn (suc i))
      rises = later i (suc i) (omega arith) l q

      -- the edge with the next number stands between them
      between : suc (sequence (turn i)) < sequence (turn (suc i)) → ⊥
      between h =
          let v = back_to K A (sequence (turn (suc i)) - suc (sequence (turn i))) (turn (suc i)) (L.places (suc i) l) (suc (sequence (turn i))) (omega arith) in
          let w = reached turn sh.edges L.places different v.0 v.1 in
          let p : polygon (turn w.0) ≡ polygon (turn (suc i)) = ap polygon w.2 ∙ v.2 in
          let n : sequence (turn w.0) ≡ suc (sequence (turn i)) = ap sequence w.2 ∙ v.3 in
          ⊎_elim
          (λ a. ⊎_elim (λ c. omega (arith, h, n, later (suc i) w.0 c w.1 (sym p))) (λ c. let e : w.0 ≡ suc i = omega (arith, a, c) in omega (arith, h, n, ap (λ k. sequence (turn k)) e)) (lt-or-le (suc i) w.0))
          (λ a. ⊎_elim (λ c. omega (arith, n, later w.0 i c (omega arith) (p ∙ sym q))) (λ c. let e : w.0 ≡ i = omega (arith, a, c) in omega (arith, n, ap (λ k. sequence (turn k)) e)) (lt-or-le w.0 i))
          (lt-or-le i w.0)

      next : sequence (turn (suc i)) ≡ suc (sequence (turn i))
      next = omega (arith, rises, between)

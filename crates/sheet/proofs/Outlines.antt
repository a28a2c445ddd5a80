-- A polygon number stands for exactly the edges of one outline: in a numbering two edges have one polygon number just where joins lead from one to
-- the other. Onwards from an edge the sequence numbers rise until 0 comes, which is the lead: there are not more edges than
-- the list has, so it does come. From the lead every edge of the polygon is reached.
use mathlib.Core.Path.{◌≡◌, refl, sym, ◌∙◌}
use mathlib.Core.Bool.{true}
use mathlib.Core.Logic.{⊎_elim}
use Prim.Native.Nat.{ℕ, zero, suc, ◌+◌, ◌-◌, ◌≤◌, ◌<◌}
use native.Mathlib.Omega.{arith}
use Rattle.laws.proofs.Counting.{count-all}
use Rattle.laws.proofs.Pigeonhole.{pigeon}
use Rattle.sheet.specs.Edges.{Drawing}
use Rattle.sheet.specs.Joining.{Follows, InOutline, itself, onwards}
use Rattle.sheet.specs.Numbering.{Numbering}
use Rattle.sheet.proofs.Checked.{Checked, joins}
use Rattle.sheet.proofs.Leads.{step_back, lead, lead_is, lead-outline}

outline-trans : {sh : Drawing} {e f g : ℕ} → InOutline sh e f → InOutline sh f g → InOutline sh e g
outline-trans o itself = o
outline-trans o (onwards p a) = onwards (outline-trans o p) a

module _ {sh : Drawing} (K : Checked sh) {polygon sequence : ℕ → ℕ} {polygons : ℕ} (A : Numbering sh polygon sequence polygons) where
  pub outline-shares : (e f : ℕ) → InOutline sh e f → polygon f ≡ polygon e
  outline-shares e f itself = refl
  outline-shares e f (onwards o a) = A.shared _ _ a ∙ outline-shares e _ o

  -- every smaller sequence number is there too
  back_to : (d e : ℕ) → e < sh.edges → (k : ℕ) → sequence e ≡ d + k → (x : ℕ) × (x < sh.edges) × (polygon x ≡ polygon e) × (sequence x ≡ k)
  back_to zero e l k q = (e, l, refl, omega arith)
  back_to (suc d) e l k q =
      let s = step_back K A e (d + k) l (omega arith) in
      let v = back_to d ((joins K).prev e) ((joins K).before e l).0 k s.1 in
      (v.0, v.1, v.2 ∙ s.0, v.3)

  pub sequence-small : (e : ℕ) → e < sh.edges → sequence e < sh.edges
  sequence-small e l =
      let p = pigeon (λ k x. (polygon x ≡ polygon e) × (sequence x ≡ k)) (λ i j x a b. sym a.1 ∙ b.1) (λ k. true) (λ x. true) (suc (sequence e)) sh.edges (λ k h t. let v = back_to (sequence e - k) e l k (omega arith) in (v.0, v.1, refl, (v.2, v.3))) in
      omega (arith, p, count-all (λ k. true) (suc (sequence e)) (λ k h. refl), count-all (λ x. true) sh.edges (λ x h. refl))

  -- onwards to the edge with 0
  to-lead : (d e f : ℕ) → e < sh.edges → f < sh.edges → polygon f ≡ polygon e → sequence f ≡ 0 → sh.edges ≤ d + sequence e → InOutline sh e f
  to-lead zero e f l fl p z m = absurd (omega (arith, sequence-small e l))
  to-lead (suc d) e f l fl p z m =
      ⊎_elim (λ h. outline-trans one (to-lead d n f a.next_is_edge fl (p ∙ sym (A.shared _ _ a)) z (omega arith))) (λ h. rw (A.pairs f n fl a.next_is_edge (p ∙ sym (A.shared _ _ a)) (z ∙ sym h)) one) (A.counts _ _ a)
    where
      n : ℕ
      n = (joins K).next e

      a : Follows sh e n
      a = (joins K).follows e l

      one : InOutline sh e n
      one = onwards itself a

  pub shares-outline : (e f : ℕ) → e < sh.edges → f < sh.edges → polygon f ≡ polygon e → InOutline sh e f
  shares-outline e f l fl p =
      let d = lead K A (sequence f) f fl refl in
      let w = lead_is K A (sequence f) f fl refl in
      outline-trans (to-lead sh.edges e d l w.0 (w.1 ∙ p) w.2 (omega arith)) (lead-outline K A (sequence f) f fl refl)

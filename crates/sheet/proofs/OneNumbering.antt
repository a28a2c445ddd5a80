-- Two numberings of one checked list are equal: sequence numbers, polygon numbers, the number of polygons.
-- The lead of an outline leaves its highest place downwards, and one edge does that, so both numberings have 0 at the same edges, and then the
-- same sequence numbers everywhere. The polygons stand in the order of their later top edges in both, without a gap, so no polygon number is smaller in
-- one than in the other.
use mathlib.Core.Path.{◌≡◌, refl, ap, sym, ◌∙◌}
use mathlib.Core.Logic.{⊎_elim}
use Prim.Native.Nat.{ℕ, zero, suc, ◌≤◌, ◌<◌}
use native.Mathlib.Omega.{arith}
use Rattle.laws.proofs.Deciding.{lt-or-le, eq-or-ne}
use Rattle.sheet.specs.Edges.{Drawing}
use Rattle.sheet.specs.Kinds.{leaving}
use Rattle.sheet.specs.Joining.{Follows}
use Rattle.sheet.specs.Numbering.{Numbering}
use Rattle.sheet.proofs.Checked.{Checked, joins}
use Rattle.sheet.proofs.Leads.{step_back, before-follows, lead, lead_is, lead-keeps, lead-from-below, later-top}

module _ {sh : Drawing} (K : Checked sh) {polygon sequence polygon' sequence' : ℕ → ℕ} {polygons polygons' : ℕ} (A : Numbering sh polygon sequence polygons) (B : Numbering sh polygon' sequence' polygons') where
  film-kept : (e f : ℕ) → Follows sh e f → sh.film (sh.tail f) ≡ sh.film (sh.tail e)
  film-kept e f a = ap sh.film a.meet ∙ sym (K.one_film e a.is_edge)

  -- an edge with number 0 in one has it in the other
  zero-too : (e : ℕ) → e < sh.edges → sequence e ≡ 0 → sequence' e ≡ 0
  zero-too e l z =
      let d = lead K B (sequence' e) e l refl in
      let b = lead_is K B (sequence' e) e l refl in
      let p : polygon d ≡ polygon e = lead-keeps K B polygon A.shared (sequence' e) e l refl in
      let f : sh.film (sh.tail d) ≡ sh.film (sh.tail e) = lead-keeps K B (λ c. sh.film (sh.tail c)) film-kept (sequence' e) e l refl in
      let t : sh.tail d ≡ sh.tail e = K.flat _ _ f (omega (arith, A.top e d l b.0 z p, B.top d e b.0 l b.2 (sym b.1))) in
      let q : d ≡ e = K.sound.single leaving d e b.0 l t (lead-from-below K B d b.0 b.2 ∙ sym (lead-from-below K A e l z)) in
      ap sequence' (sym q) ∙ b.2

module _ {sh : Drawing} (K : Checked sh) {polygon sequence polygon' sequence' : ℕ → ℕ} {polygons polygons' : ℕ} (A : Numbering sh polygon sequence polygons) (B : Numbering sh polygon' sequence' polygons') where
  sequence-steps : (k e : ℕ) → e < sh.edges → sequence e ≡ k → sequence' e ≡ k
  sequence-steps zero e l q = zero-too K A B e l q
  sequence-steps (suc k) e l q =
      let f = before-follows K A e l in
      let h = sequence-steps k ((joins K).prev e) f.is_edge (step_back K A e k l q).1 in
      ⊎_elim (λ u. u ∙ ap suc h) (λ u. absurd (omega (arith, q, zero-too K B A e l u))) (B.counts _ _ f)

  pub same-sequence : (e : ℕ) → e < sh.edges → sequence' e ≡ sequence e
  same-sequence e l = sequence-steps (sequence e) e l refl

  -- a lead's polygon number is no smaller in the other
  at_least : (k e : ℕ) → e < sh.edges → sequence e ≡ 0 → polygon e ≡ k → k ≤ polygon' e
  at_least zero e l z q = omega arith
  at_least (suc k) e l z q = ⊎_elim (λ h. omega (arith, B.from_one e l)) (later (λ f h y p. at_least k f h y p)) (eq-or-ne k 0)
    where
      -- the later top edge of polygon k stands later, and its number is at least k in both
      later : ((f : ℕ) → f < sh.edges → sequence f ≡ 0 → polygon f ≡ k → k ≤ polygon' f) → (k ≡ 0 → ⊥) → suc k ≤ polygon' e
      later ih h =
          let v = A.no_gap k (omega arith) (omega (arith, A.from_one e l)) in
          let f = lead K A (sequence v.0) v.0 v.1 refl in
          let w = lead_is K A (sequence v.0) v.0 v.1 refl in
          let fk : polygon f ≡ k = w.1 ∙ v.2 in
          let y = zero-too K A B f w.0 w.2 in
          let x = zero-too K A B e l z in
          let m = later-top K A f e w.0 l w.2 z (omega arith) in
          let i = ih f w.0 w.2 fk in
          let ne : polygon' e ≡ polygon' f → ⊥ = λ u. omega (arith, ap polygon (B.pairs e f l w.0 u (x ∙ sym y)), fk, q) in
          let nl : polygon' e < polygon' f → ⊥ = λ u. omega (arith, m, later-top K B e f l w.0 x y u) in
          omega (arith, i, ne, nl)

module _ {sh : Drawing} (K : Checked sh) {polygon sequence polygon' sequence' : ℕ → ℕ} {polygons polygons' : ℕ} (A : Numbering sh polygon sequence polygons) (B : Numbering sh polygon' sequence' polygons') where
  pub same-polygon : (e : ℕ) → e < sh.edges → polygon' e ≡ polygon e
  same-polygon e l =
      let d = lead K A (sequence e) e l refl in
      let b = lead_is K A (sequence e) e l refl in
      let p : polygon' d ≡ polygon' e = lead-keeps K A polygon' B.shared (sequence e) e l refl in
      let y : sequence' d ≡ 0 = same-sequence K A B d b.0 ∙ b.2 in
      let u = at_least K A B (polygon d) d b.0 b.2 refl in
      let v = at_least K B A (polygon' d) d b.0 y refl in
      sym p ∙ omega (arith, u, v, b.1)

  no_more : polygons ≤ polygons'
  no_more = ⊎_elim (λ h. absurd (over h)) (λ h. h) (lt-or-le polygons' polygons)
    where
      over : polygons' < polygons → ⊥
      over h =
          let v = A.no_gap polygons (omega arith) (omega arith) in
          omega (arith, h, v.2, same-polygon v.0 v.1, B.from_one v.0 v.1)

pub same-polygons : {sh : Drawing} (K : Checked sh) {polygon sequence polygon' sequence' : ℕ → ℕ} {polygons polygons' : ℕ} → Numbering sh polygon sequence polygons → Numbering sh polygon' sequence' polygons' → polygons' ≡ polygons
same-polygons K A B = omega (arith, no_more K A B, no_more K B A)

-- What one numbering of a checked list has: from any edge, as many steps back as its sequence number says lead to the edge of its polygon that
-- has 0, its lead; and the lead leaves the polygon's highest place downwards. Polygons stand in the order of their later top edges, and so the one with
-- the higher top comes first.
use mathlib.Core.Bool.{cond}
use mathlib.Core.Path.{◌≡◌, refl, ap, sym, ◌∙◌}
use mathlib.Core.Logic.{⊎_elim}
use Prim.Native.Nat.{ℕ, zero, suc, max, ◌≤◌, ◌<◌}
use native.Mathlib.Omega.{arith}
use borrow.Author.Tests.{lt-ltb}
use Rattle.laws.proofs.Deciding.{lt-or-le, eq-or-ne}
use Rattle.sheet.specs.Edges.{Drawing, top_height}
use Rattle.sheet.specs.Kinds.{below, leaving, comes, above}
use Rattle.sheet.specs.Joining.{Follows, InOutline, itself, onwards}
use Rattle.sheet.specs.Numbering.{Numbering}
use Rattle.sheet.proofs.Checked.{Checked, tops-rise, Joins, joins}

module _ {sh : Drawing} (K : Checked sh) {polygon sequence : ℕ → ℕ} {polygons : ℕ} (A : Numbering sh polygon sequence polygons) where
  abbrev J : Joins sh
  J = joins K

  pub before-follows : (e : ℕ) → e < sh.edges → Follows sh (J.prev e) e
  before-follows e l = let b = J.before e l in rw b.1 at (J.follows (J.prev e) b.0)

  pub step_back : (e k : ℕ) → e < sh.edges → sequence e ≡ suc k → (polygon (J.prev e) ≡ polygon e) × (sequence (J.prev e) ≡ k)
  step_back e k l q =
      let f = before-follows e l in
      (sym (A.shared _ _ f), ⊎_elim (λ h. omega arith) (λ h. absurd (omega arith)) (A.counts _ _ f))

  -- the edge with number 0, k steps back
  pub lead : (k e : ℕ) → e < sh.edges → sequence e ≡ k → ℕ
  lead zero e l q = e
  lead (suc k) e l q = lead k (J.prev e) (J.before e l).0 (step_back e k l q).1

  pub lead_is : (k e : ℕ) (l : e < sh.edges) (q : sequence e ≡ k) → (lead k e l q < sh.edges) × (polygon (lead k e l q) ≡ polygon e) × (sequence (lead k e l q) ≡ 0)
  unfolding lead
  lead_is zero e l q = (l, refl, q)
  lead_is (suc k) e l q =
      let b = step_back e k l q in
      let w = lead_is k (J.prev e) (J.before e l).0 b.1 in
      (w.0, w.1 ∙ b.0, w.2)

  pub lead-outline : (k e : ℕ) (l : e < sh.edges) (q : sequence e ≡ k) → InOutline sh (lead k e l q) e
  unfolding lead
  lead-outline zero e l q = itself
  lead-outline (suc k) e l q = onwards (lead-outline k (J.prev e) (J.before e l).0 (step_back e k l q).1) (before-follows e l)

  -- what joins keep is kept by going back to it
  pub lead-keeps : (P : ℕ → ℕ) → ((e f : ℕ) → Follows sh e f → P f ≡ P e) → (k e : ℕ) (l : e < sh.edges) (q : sequence e ≡ k) → P (lead k e l q) ≡ P e
  unfolding lead
  lead-keeps P h zero e l q = refl
  lead-keeps P h (suc k) e l q = lead-keeps P h k (J.prev e) (J.before e l).0 (step_back e k l q).1 ∙ sym (h _ _ (before-follows e l))

  -- the edge with number 0 goes down: the next one's tail, its head, is no higher
  falls : (e : ℕ) → e < sh.edges → sequence e ≡ 0 → sh.height (sh.head e) < sh.height (sh.tail e)
  falls e l z =
      let f = J.follows e l in
      let t = A.top e (J.next e) l f.next_is_edge z (A.shared _ _ f) in
      ⊎_elim (λ h. absurd (K.proper e l (K.flat _ _ (K.one_film e l) (omega (arith, t, ap sh.height f.meet))))) (λ h. omega (arith, h, t, ap sh.height f.meet)) (eq-or-ne (sh.height (sh.tail e)) (sh.height (sh.head e)))

  pub lead-from-below : (e : ℕ) → e < sh.edges → sequence e ≡ 0 → comes sh leaving e ≡ below
  unfolding comes
  lead-from-below e l z = ap (λ t. cond t below above) (lt-ltb _ _ (falls e l z))

  -- the later of an outline's two top edges, where its lead is known
  abbrev pub later_top : ℕ → ℕ
  later_top e = max (J.prev e) e

  top-edges-differ : (d e c f : ℕ) → polygon d ≡ polygon e → polygon c ≡ polygon f → polygon e < polygon f → max d e ≡ max c f → ⊥
  top-edges-differ d e c f p q l m = ⊎_elim
      (λ h. ⊎_elim (λ k. let x : e ≡ f = omega arith in omega (arith, ap polygon x)) (λ k. let x : e ≡ c = omega arith in omega (arith, ap polygon x)) (lt-or-le c f))
      (λ h. ⊎_elim (λ k. let x : d ≡ f = omega arith in omega (arith, ap polygon x)) (λ k. let x : d ≡ c = omega arith in omega (arith, ap polygon x)) (lt-or-le c f))
      (lt-or-le d e)

  -- a smaller polygon number has the later top edge
  pub later-top : (e f : ℕ) → e < sh.edges → f < sh.edges → sequence e ≡ 0 → sequence f ≡ 0 → polygon e < polygon f → later_top f < later_top e
  later-top e f l m z y p =
      let a = before-follows e l in
      let b = before-follows f m in
      let no : later_top e < later_top f → ⊥ = λ h. omega (arith, p, A.later_top_first _ _ _ _ b a y z h) in
      omega (arith, no, top-edges-differ _ e _ f (sym (A.shared _ _ a)) (sym (A.shared _ _ b)) p)

  -- the later top edge has its top at the lead's tail
  later-top-height : (e : ℕ) → e < sh.edges → sequence e ≡ 0 → (later_top e < sh.edges) × (top_height sh (later_top e) ≡ sh.height (sh.tail e))
  later-top-height e l z =
      let a = before-follows e l in
      let f = falls e l z in
      let t = A.top e (J.prev e) l a.is_edge z (sym (A.shared _ _ a)) in
      let j = ap sh.height a.meet in
      ⊎_elim
      (λ h. let m : later_top e ≡ e = omega arith in (omega arith, rw m (omega (arith, f))))
      (λ h. let m : later_top e ≡ J.prev e = omega arith in (omega (arith, m, a.is_edge), rw m (omega (arith, t, j))))
      (lt-or-le (J.prev e) e)

  -- 01 Points 6.2: the outline with the higher top has the smaller number
  pub higher-first : (e f : ℕ) → e < sh.edges → f < sh.edges → sequence e ≡ 0 → sequence f ≡ 0 → sh.height (sh.tail f) < sh.height (sh.tail e) → polygon e < polygon f
  higher-first e f l m z y h =
      let u = later-top-height e l z in
      let v = later-top-height f m y in
      let n : later_top e ≤ later_top f → ⊥ = λ k. omega (arith, h, u.1, v.1, tops-rise sh K.order (later_top e) (later_top f) k v.0) in
      A.later_top_first _ _ _ _ (before-follows e l) (before-follows f m) z y (omega (arith, n))

-- A numbering depends only on the numbers that the edges of the list have.
use mathlib.Core.Path.{◌≡◌, sym, ap, ◌∙◌}
use mathlib.Core.Logic.{inl, inr, ⊎_elim}
use Prim.Native.Nat.{ℕ, suc, ◌<◌}
use native.Mathlib.Omega.{arith}
use Rattle.sheet.specs.Edges.{Drawing}
use Rattle.sheet.specs.Numbering.{Numbering}

module _ {sh : Drawing} {polygon sequence polygon' sequence' : ℕ → ℕ} {polygons : ℕ} (p : (e : ℕ) → e < sh.edges → polygon' e ≡ polygon e) (q : (e : ℕ) → e < sh.edges → sequence' e ≡ sequence e) (A : Numbering sh polygon sequence polygons) where
  pub numbering-same : Numbering sh polygon' sequence' polygons
  numbering-same = record {
    from_one = λ e l. let a = A.from_one e l in (omega (arith, p e l, a.0), omega (arith, p e l, a.1));
    no_gap = λ k a b. let v = A.no_gap k a b in (v.0, v.1, p v.0 v.1 ∙ v.2);
    shared = λ e f a. p f a.next_is_edge ∙ A.shared e f a ∙ sym (p e a.is_edge);
    top = λ e f l m z s. A.top e f l m (sym (q e l) ∙ z) (sym (p f m) ∙ s ∙ p e l);
    counts = λ e f a. ⊎_elim (λ h. inl (q f a.next_is_edge ∙ h ∙ ap suc (sym (q e a.is_edge)))) (λ h. inr (q f a.next_is_edge ∙ h)) (A.counts e f a);
    pairs = λ e f l m s z. A.pairs e f l m (sym (p e l) ∙ s ∙ p f m) (sym (q e l) ∙ z ∙ q f m);
    later_top_first = λ d e c f a b z y h. let l = a.next_is_edge in let m = b.next_is_edge in omega (arith, p e l, p f m, A.later_top_first d e c f a b (sym (q e l) ∙ z) (sym (q f m) ∙ y) h);
  }

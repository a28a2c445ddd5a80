-- A path whose last edge is joined to its first is taken out as the newest closed outline: its indices are kept, the outlines closed before are one further back,
-- and the other paths stay.
use mathlib.Core.Path.{◌≡◌, refl, ap, sym, ◌∙◌}
use mathlib.Core.Logic.{◌⊎◌, inl, inr, ⊎_elim}
use Prim.Native.Nat.{ℕ, zero, suc, ◌≤◌, ◌<◌}
use native.Mathlib.Decide.{ℕ_discrete}
use native.Mathlib.Omega.{arith}
use Rattle.steps.specs.declared.Side.TheVariants.{Rising, Falling}
use Rattle.hartley.proofs.Paths.Plan.{Plan}
use Rattle.hartley.proofs.Paths.DownLaw.{pick}
use Rattle.hartley.proofs.Paths.Paths.{Owner, same?, Spot, on, out, off, Paths, size, Chain, pick_yes, pick_no}

unfoldable pub shut : Owner → Spot → Spot
shut a (on x i) = pick (same? x a) (out 0 i) (on x i)
shut a (out k i) = out (suc k) i
shut a (off e) = off e

abbrev pub push : ℕ → (ℕ → ℕ) → ℕ → ℕ
push n f zero = n
push n f (suc k) = f k

unfoldable pub closed : Paths → Owner → Paths
closed G a = record {
  spot = λ e. shut a (G.spot e);
  length = λ s y. pick (same? y a) 0 (G.length s y);
  end = G.end;
  rounds = record { count = suc G.rounds.count; edges_in = push (size G a) G.rounds.edges_in; lead = push (G.end Falling a) G.rounds.lead; rear = push (G.end Rising a) G.rounds.rear };
}

pub data Was (a : Owner) (s : Spot) : Spot → Type 0 where
  here : (i : ℕ) → s ≡ on a i → Was a s (out 0 i)
  older : (k i : ℕ) → s ≡ out k i → Was a s (out (suc k) i)
  none : (e : ℕ) → s ≡ off e → Was a s (off e)
  apart : (y : Owner) (i : ℕ) → (y ≡ a → ⊥) → s ≡ on y i → Was a s (on y i)

was : (a : Owner) (s : Spot) → Was a s (shut a s)
unfolding shut pick
was a (out k i) = older k i refl
was a (off e) = none e refl
was a (on x i) = go (same? x a)
  where
    go : (d : Dec (x ≡ a)) → Was a (on x i) (pick d (out 0 i) (on x i))
    go (yes p) = here i (ap (λ y. on y i) p)
    go (no p) = apart x i p refl

module _ {sh : Plan} {G : Paths} (C : Chain sh G) (a : Owner) (link : 0 < size G a → sh.next (G.end Rising a) ≡ G.end Falling a) where
  abbrev G' : Paths
  G' = closed G a

  pub size-other : (y : Owner) → (y ≡ a → ⊥) → size G' y ≡ size G y
  unfolding size closed
  size-other y p = simp pick_no

  pub size-gone : (y : Owner) → y ≡ a → size G' y ≡ 0
  unfolding size closed
  size-gone y p = simp pick_yes

  pub to-here : (e i : ℕ) → G.spot e ≡ on a i → G'.spot e ≡ out 0 i
  unfolding closed shut
  to-here e i h = ap (shut a) h ∙ pick_yes (same? a a) _ _ refl

  pub to-older : (e k i : ℕ) → G.spot e ≡ out k i → G'.spot e ≡ out (suc k) i
  unfolding closed shut
  to-older e k i h = ap (shut a) h

  pub to-apart : (e : ℕ) (y : Owner) (i : ℕ) → (y ≡ a → ⊥) → G.spot e ≡ on y i → G'.spot e ≡ on y i
  unfolding closed shut
  to-apart e y i p h = ap (shut a) h ∙ pick_no (same? y a) _ _ p

  pub origin : (e : ℕ) → Was a (G.spot e) (G'.spot e)
  unfolding closed
  origin e = was a (G.spot e)

  -- a spot that is `on` was so, of another owner
  pub origin_on : (s t : Spot) → Was a s t → (y : Owner) (i : ℕ) → t ≡ on y i → (y ≡ a → ⊥) × (s ≡ on y i)
  origin_on s t (here i p) y j e = let z : ◌≡◌ {A = ℕ} 0 1 = cc in absurd (omega arith)
  origin_on s t (older k i p) y j e = let z : ◌≡◌ {A = ℕ} 0 1 = cc in absurd (omega arith)
  origin_on s t (none k p) y j e = let z : ◌≡◌ {A = ℕ} 0 1 = cc in absurd (omega arith)
  origin_on s t (apart x i q p) y j e = ((λ h. q (cc)), cc)

  close-within : (e : ℕ) (y : Owner) (i : ℕ) → G'.spot e ≡ on y i → i < size G' y
  close-within e y i h = let o = origin_on _ _ (origin e) y i h in omega (arith, size-other y o.0, C.within e y i o.1)

  pub live : (y : Owner) → Dec (y ≡ a) → 0 < size G' y → (y ≡ a → ⊥)
  live y (yes p) h = absurd (omega (arith, size-gone y p))
  live y (no p) h = p

  fst-is : (y : Owner) → G'.end Falling y ≡ G.end Falling y
  unfolding closed
  fst-is y = refl

  lst-is : (y : Owner) → G'.end Rising y ≡ G.end Rising y
  unfolding closed
  lst-is y = refl

  close-first : (y : Owner) → 0 < size G' y → G'.spot (G'.end Falling y) ≡ on y 0
  close-first y h = let n = live y (same? y a) h in rw (fst-is y) (to-apart _ y 0 n (C.first y (omega (arith, size-other y n))))

  close-last : (y : Owner) (i : ℕ) → suc i ≡ size G' y → G'.spot (G'.end Rising y) ≡ on y i
  close-last y i h = let n = live y (same? y a) (omega arith) in rw (lst-is y) (to-apart _ y i n (C.last y i (omega (arith, size-other y n))))

  close-follow : (e : ℕ) (y : Owner) (i : ℕ) → G'.spot e ≡ on y i → suc i < size G' y → G'.spot (sh.next e) ≡ on y (suc i)
  close-follow e y i h l = let o = origin_on _ _ (origin e) y i h in to-apart _ y (suc i) o.0 (C.follow e y i o.1 (omega (arith, size-other y o.0)))

  same-was : (s s' t t' : Spot) → Was a s t → Was a s' t' → t ≡ t' → s ≡ s'
  same-was s s' t t' (here i p) (none m p') e = cc
  same-was s s' t t' (here i p) (here i' p') e = cc
  same-was s s' t t' (here i p) (older k' i' p') e = cc
  same-was s s' t t' (here i p) (apart y' i' q' p') e = cc
  same-was s s' t t' (older k i p) (none m p') e = cc
  same-was s s' t t' (older k i p) (here i' p') e = cc
  same-was s s' t t' (older k i p) (older k' i' p') e = cc
  same-was s s' t t' (older k i p) (apart y' i' q' p') e = cc
  same-was s s' t t' (apart y i q p) (none m p') e = cc
  same-was s s' t t' (apart y i q p) (here i' p') e = cc
  same-was s s' t t' (apart y i q p) (older k' i' p') e = cc
  same-was s s' t t' (apart y i q p) (apart y' i' q' p') e = cc
  same-was s s' t t' (none m p) (here i' p') e = cc
  same-was s s' t t' (none m p) (older k' i' p') e = cc
  same-was s s' t t' (none m p) (none m' p') e = cc
  same-was s s' t t' (none m p) (apart y' i' q' p') e = cc

  close-real : (e : ℕ) (y : Owner) (i : ℕ) → G'.spot e ≡ on y i → e < sh.list.edges
  close-real e y i h = C.real e y i (origin_on _ _ (origin e) y i h).1

  close-void : (e k : ℕ) → G'.spot e ≡ off k → sh.list.edges ≤ e
  close-void e k h = go (G.spot e) (G'.spot e) refl (origin e) h
    where
      go : (s t : Spot) → G.spot e ≡ s → Was a s t → t ≡ off k → sh.list.edges ≤ e
      go s t r (here j p) q = let z : ◌≡◌ {A = ℕ} 0 1 = cc in absurd (omega arith)
      go s t r (older m j p) q = let z : ◌≡◌ {A = ℕ} 0 1 = cc in absurd (omega arith)
      go s t r (apart y j n p) q = let z : ◌≡◌ {A = ℕ} 0 1 = cc in absurd (omega arith)
      go s t r (none m p) q = C.void e m (r ∙ p)

  close-once : (e e' : ℕ) → G'.spot e ≡ G'.spot e' → e ≡ e'
  close-once e e' h = C.once e e' (same-was _ _ _ _ (origin e) (origin e') h)

  close-around : (e k i : ℕ) → G'.spot e ≡ out k i → (G'.spot (sh.next e) ≡ out k (suc i)) ⊎ (G'.spot (sh.next e) ≡ out k 0)
  close-around e k i h = go (G.spot e) (G'.spot e) refl (origin e) h
    where
      turn : (j : ℕ) → G.spot e ≡ on a j → Dec (suc j ≡ size G a) → (G'.spot (sh.next e) ≡ out 0 (suc j)) ⊎ (G'.spot (sh.next e) ≡ out 0 0)
      turn j s (yes q) =
          let en : sh.next e ≡ G.end Falling a = ap sh.next (C.once e (G.end Rising a) (s ∙ sym (C.last a j q))) ∙ link (omega arith) in
          inr (rw en (to-here _ 0 (C.first a (omega arith))))
      turn j s (no q) = inl (to-here _ (suc j) (C.follow e a j s (omega (arith, C.within e a j s))))

      go : (s t : Spot) → G.spot e ≡ s → Was a s t → t ≡ out k i → (G'.spot (sh.next e) ≡ out k (suc i)) ⊎ (G'.spot (sh.next e) ≡ out k 0)
      go s t r (here j p) q = ⊎_elim (λ u. inl (cc)) (λ u. inr (cc)) (turn j (r ∙ p) (ℕ_discrete (suc j) (size G a)))
      go s t r (older m j p) q = ⊎_elim (λ u. inl (to-older _ m (suc j) u ∙ (cc))) (λ u. inr (to-older _ m 0 u ∙ (cc))) (C.around e m j (r ∙ p))
      go s t r (apart y j n p) q = let z : ◌≡◌ {A = ℕ} 0 1 = cc in absurd (omega arith)
      go s t r (none m p) q = let z : ◌≡◌ {A = ℕ} 0 1 = cc in absurd (omega arith)

  pub close-chain : Chain sh (closed G a)
  close-chain = record { within = close-within; first = close-first; last = close-last; follow = close-follow; once = close-once; real = close-real; void = close-void; around = close-around }

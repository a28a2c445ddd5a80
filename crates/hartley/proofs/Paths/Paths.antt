-- The paths that owners hold. Each edge of the list has one spot, an owner with an index or a closed outline with one, so it is in one path and no more; a path's
-- indices follow the joins. Two paths, the last edge of one joined to the first of the other, merge under one of the two owners: the front keeps its indices,
-- the back's are moved on by the front's length, and everything else stays.
use mathlib.Core.Path.{◌≡◌, refl, ap, sym, ◌∙◌}
use mathlib.Core.Logic.{◌⊎◌, inl, inr, ⊎_elim}
use Prim.Native.Nat.{ℕ, suc, ◌+◌, ◌-◌, ◌≤◌, ◌<◌}
use native.Mathlib.Decide.{ℕ_discrete}
use native.Mathlib.Omega.{arith}
use Rattle.steps.specs.declared.Side.{Side}
use Rattle.steps.specs.declared.Side.TheVariants.{Rising, Falling}
use Rattle.hartley.proofs.Paths.Plan.{Plan}
use Rattle.hartley.proofs.Paths.DownLaw.{pick}

-- who holds an edge of the list: itself before it is treated, or a row, known by the number of its opening, which no other row ever has
pub data Owner : Type 0 where
  edge : ℕ → Owner
  row : ℕ → Owner
  deriving Discrete as Owner-discrete

unfoldable pub same? : (x y : Owner) → Dec (x ≡ y)
same? = Owner-discrete ℕ_discrete

-- where an edge of the list stands: at an index of an owner's path, or of a closed outline; `off` for what is no edge
pub data Spot : Type 0 where
  on : Owner → ℕ → Spot
  out : ℕ → ℕ → Spot
  off : ℕ → Spot

pub pick_yes : {P A : Type 0} (d : Dec P) (a b : A) → P → pick d a b ≡ a
unfolding pick
pick_yes (yes p) a b h = refl
pick_yes (no p) a b h = absurd (p h)

pub pick_no : {P A : Type 0} (d : Dec P) (a b : A) → (P → ⊥) → pick d a b ≡ b
unfolding pick
pick_no (yes p) a b h = absurd (h p)
pick_no (no p) a b h = refl

-- the outlines closed, the newest first: of each its length, the edge with index 0 and the last one
pub record Rounds : Type 0 where
  pub count : ℕ
  pub edges_in : ℕ → ℕ
  pub lead : ℕ → ℕ
  pub rear : ℕ → ℕ

-- the spots, and of each owner's path, on each side, how many edges its branch has and which edge stands at its end
pub record Paths : Type 0 where
  pub spot : ℕ → Spot
  pub length : Side → Owner → ℕ
  pub end : Side → Owner → ℕ
  pub rounds : Rounds

-- one of two, for the falling side and for the rising
abbrev pub by_side : {A : Type 0} → A → A → Side → A
by_side f g Falling = f
by_side f g Rising = g

unfoldable pub size : Paths → Owner → ℕ
size G x = G.length Falling x + G.length Rising x

-- the spots of an owner are numbered in the order of the joins
pub record Chain (sh : Plan) (G : Paths) : Type 0 where
  pub within : (e : ℕ) (x : Owner) (i : ℕ) → G.spot e ≡ on x i → i < size G x
  pub first : (x : Owner) → 0 < size G x → G.spot (G.end Falling x) ≡ on x 0
  pub last : (x : Owner) (i : ℕ) → suc i ≡ size G x → G.spot (G.end Rising x) ≡ on x i
  pub follow : (e : ℕ) (x : Owner) (i : ℕ) → G.spot e ≡ on x i → suc i < size G x → G.spot (sh.next e) ≡ on x (suc i)
  pub once : (e e' : ℕ) → G.spot e ≡ G.spot e' → e ≡ e'
  pub real : (e : ℕ) (x : Owner) (i : ℕ) → G.spot e ≡ on x i → e < sh.list.edges
  pub void : (e k : ℕ) → G.spot e ≡ off k → sh.list.edges ≤ e
  pub around : (e k i : ℕ) → G.spot e ≡ out k i → (G.spot (sh.next e) ≡ out k (suc i)) ⊎ (G.spot (sh.next e) ≡ out k 0)

module _ {sh : Plan} {G : Paths} (C : Chain sh G) where
  pub first-real : (x : Owner) → 0 < size G x → G.end Falling x < sh.list.edges
  first-real x h = C.real _ x 0 (C.first x h)

  pub last-real : (x : Owner) → 0 < size G x → G.end Rising x < sh.list.edges
  last-real x h = C.real _ x (size G x - 1) (C.last x (size G x - 1) (omega arith))

-- the paths of `a` (n edges) and `b`, one behind the other, become the path of `z`
unfoldable pub relocate : ℕ → Owner → Owner → Owner → Spot → Spot
relocate n a b z (on x i) = pick (same? x a) (on z i) (pick (same? x b) (on z (n + i)) (on x i))
relocate n a b z (out k i) = out k i
relocate n a b z (off e) = off e

unfoldable pub merge : Paths → Owner → Owner → Owner → ℕ → ℕ → Paths
merge G a b z f g = record {
  spot = λ e. relocate (size G a) a b z (G.spot e);
  length = λ s y. pick (same? y z) (by_side f g s) (pick (same? y a) 0 (pick (same? y b) 0 (G.length s y)));
  end = λ s y. pick (same? y z) (by_side (pick (ℕ_discrete (size G a) 0) (G.end Falling b) (G.end Falling a)) (pick (ℕ_discrete (size G b) 0) (G.end Rising a) (G.end Rising b)) s) (G.end s y);
  rounds = G.rounds;
}

pub data From (n : ℕ) (a b z : Owner) (s : Spot) (y : Owner) (j : ℕ) : Type 0 where
  front : y ≡ z → s ≡ on a j → From n a b z s y j
  back : y ≡ z → (i : ℕ) → s ≡ on b i → j ≡ n + i → From n a b z s y j
  other : (y ≡ a → ⊥) → (y ≡ b → ⊥) → s ≡ on y j → From n a b z s y j

module _ (n : ℕ) (a b z : Owner) where
  pub relocate-front : (i : ℕ) → relocate n a b z (on a i) ≡ on z i
  unfolding relocate
  relocate-front i = pick_yes (same? a a) _ _ refl

  pub relocate-back : (i : ℕ) → (b ≡ a → ⊥) → relocate n a b z (on b i) ≡ on z (n + i)
  unfolding relocate
  relocate-back i h = pick_no (same? b a) _ _ h ∙ pick_yes (same? b b) _ _ refl

  pub relocate-other : (x : Owner) (i : ℕ) → (x ≡ a → ⊥) → (x ≡ b → ⊥) → relocate n a b z (on x i) ≡ on x i
  unfolding relocate
  relocate-other x i h k = pick_no (same? x a) _ _ h ∙ pick_no (same? x b) _ _ k

  from : (s : Spot) (y : Owner) (j : ℕ) → relocate n a b z s ≡ on y j → From n a b z s y j
  unfolding relocate pick
  from (on x i) y j e = go (same? x a) (same? x b) e
    where
      go : (d : Dec (x ≡ a)) (d' : Dec (x ≡ b)) → pick d (on z i) (pick d' (on z (n + i)) (on x i)) ≡ on y j → From n a b z (on x i) y j
      go (yes p) d' e = front (cc) (cc)
      go (no p) (yes q) e = back (cc) i (cc) (cc)
      go (no p) (no q) e = other (λ h. p (cc)) (λ h. q (cc)) e
  from (out k i) y j e = let z : ◌≡◌ {A = ℕ} 0 1 = cc in absurd (omega arith)
  from (off k) y j e = let z : ◌≡◌ {A = ℕ} 0 1 = cc in absurd (omega arith)

  pub from_out : (s : Spot) (k i : ℕ) → relocate n a b z s ≡ out k i → s ≡ out k i
  unfolding relocate pick
  from_out (on x j) k i e = go (same? x a) (same? x b) e
    where
      go : (d : Dec (x ≡ a)) (d' : Dec (x ≡ b)) → pick d (on z j) (pick d' (on z (n + j)) (on x j)) ≡ out k i → on x j ≡ out k i
      go (yes p) d' e = cc
      go (no p) (yes q) e = cc
      go (no p) (no q) e = e
  from_out (out m j) k i e = e
  from_out (off m) k i e = e

  from-off : (s : Spot) (k : ℕ) → relocate n a b z s ≡ off k → s ≡ off k
  unfolding relocate pick
  from-off (on x j) k e = go (same? x a) (same? x b) e
    where
      go : (d : Dec (x ≡ a)) (d' : Dec (x ≡ b)) → pick d (on z j) (pick d' (on z (n + j)) (on x j)) ≡ off k → on x j ≡ off k
      go (yes p) d' e = cc
      go (no p) (yes q) e = cc
      go (no p) (no q) e = e
  from-off (out m j) k e = e
  from-off (off m) k e = e

  is-on : (x : Owner) (i : ℕ) → (y : Owner) × (j : ℕ) × (relocate n a b z (on x i) ≡ on y j)
  unfolding relocate pick
  is-on x i = go (same? x a) (same? x b)
    where
      go : (d : Dec (x ≡ a)) (d' : Dec (x ≡ b)) → (y : Owner) × (j : ℕ) × (pick d (on z i) (pick d' (on z (n + i)) (on x i)) ≡ on y j)
      go (yes p) d' = (z, i, refl)
      go (no p) (yes q) = (z, n + i, refl)
      go (no p) (no q) = (x, i, refl)

module _ (G : Paths) (a b z : Owner) (f g : ℕ) where
  pub falling-at : (merge G a b z f g).length Falling z ≡ f
  unfolding merge
  falling-at = pick_yes (same? z z) _ _ refl

  pub rising-at : (merge G a b z f g).length Rising z ≡ g
  unfolding merge
  rising-at = pick_yes (same? z z) _ _ refl

  pub length-other : (s : Side) (y : Owner) → (y ≡ a → ⊥) → (y ≡ b → ⊥) → (y ≡ z → ⊥) → (merge G a b z f g).length s y ≡ G.length s y
  unfolding merge
  length-other s y p q r = simp pick_no

pub on-eq : {x y : Owner} {i j : ℕ} → x ≡ y → i ≡ j → on x i ≡ on y j
on-eq p q = cc

-- of an owner after a merge
pub data Kind (G G' : Paths) (a b z y : Owner) : Type 0 where
  is-z : y ≡ z → Kind G G' a b z y
  gone : size G' y ≡ 0 → Kind G G' a b z y
  same : (y ≡ a → ⊥) → (y ≡ b → ⊥) → (y ≡ z → ⊥) → size G' y ≡ size G y → Kind G G' a b z y

module _ {sh : Plan} {G : Paths} (C : Chain sh G) (a b z : Owner) (f g : ℕ) (ba : b ≡ a → ⊥) (zab : (z ≡ a) ⊎ (z ≡ b))
    (sz : f + g ≡ size G a + size G b) (link : 0 < size G a → 0 < size G b → sh.next (G.end Rising a) ≡ G.end Falling b) where
  -- the paths after it
  abbrev pub G' : Paths
  G' = merge G a b z f g

  pub size-at : (y : Owner) → y ≡ z → size G' y ≡ size G a + size G b
  unfolding size merge
  size-at y p = simp pick_yes (unfold size in sz)

  not-z : (y : Owner) → (y ≡ a → ⊥) → (y ≡ b → ⊥) → y ≡ z → ⊥
  not-z y p q e = ⊎_elim (λ h. p (e ∙ h)) (λ h. q (e ∙ h)) zab

  pub size-other : (y : Owner) → (y ≡ a → ⊥) → (y ≡ b → ⊥) → size G' y ≡ size G y
  unfolding size merge
  size-other y p q = let r : y ≡ z → ⊥ = not-z y p q in simp pick_no

  pub kind : (y : Owner) → Kind G G' a b z y
  unfolding size merge
  kind y = go (same? y z) (same? y a) (same? y b)
    where
      go : (d : Dec (y ≡ z)) (d₁ : Dec (y ≡ a)) (d₂ : Dec (y ≡ b)) → Kind G (merge G a b z f g) a b z y
      go (yes p) d₁ d₂ = is-z p
      go (no p) (yes q) d₂ = gone (simp (pick_no, pick_yes))
      go (no p) (no q) (yes r) = gone (simp (pick_no, pick_yes))
      go (no p) (no q) (no r) = same q r p (simp pick_no)

  pub origin : (e : ℕ) (y : Owner) (j : ℕ) → G'.spot e ≡ on y j → From (size G a) a b z (G.spot e) y j
  unfolding merge
  origin e y j h = from (size G a) a b z (G.spot e) y j h

  pub to_front : (e i : ℕ) → G.spot e ≡ on a i → G'.spot e ≡ on z i
  unfolding merge
  to_front e i h = ap (relocate (size G a) a b z) h ∙ relocate-front (size G a) a b z i

  pub to_back : (e i : ℕ) → G.spot e ≡ on b i → G'.spot e ≡ on z (size G a + i)
  unfolding merge
  to_back e i h = ap (relocate (size G a) a b z) h ∙ relocate-back (size G a) a b z i ba

  pub to-other : (e : ℕ) (y : Owner) (i : ℕ) → (y ≡ a → ⊥) → (y ≡ b → ⊥) → G.spot e ≡ on y i → G'.spot e ≡ on y i
  unfolding merge
  to-other e y i p q h = ap (relocate (size G a) a b z) h ∙ relocate-other (size G a) a b z y i p q

  merge-within : (e : ℕ) (y : Owner) (j : ℕ) → G'.spot e ≡ on y j → j < size G' y
  merge-within e y j h = go (origin e y j h)
    where
      go : From (size G a) a b z (G.spot e) y j → j < size G' y
      go (front p s) = omega (arith, size-at y p, C.within e a j s)
      go (back p i s q) = omega (arith, size-at y p, C.within e b i s)
      go (other p q s) = omega (arith, size-other y p q, C.within e y j s)

  pub first-at : (y : Owner) → y ≡ z → G'.end Falling y ≡ pick (ℕ_discrete (size G a) 0) (G.end Falling b) (G.end Falling a)
  unfolding merge
  first-at y p = simp pick_yes

  pub last-at : (y : Owner) → y ≡ z → G'.end Rising y ≡ pick (ℕ_discrete (size G b) 0) (G.end Rising a) (G.end Rising b)
  unfolding merge
  last-at y p = simp pick_yes

  pub end-other : (s : Side) (y : Owner) → (y ≡ z → ⊥) → G'.end s y ≡ G.end s y
  unfolding merge
  end-other s y p = simp pick_no

  merge-first : (y : Owner) → 0 < size G' y → G'.spot (G'.end Falling y) ≡ on y 0
  unfolding pick
  merge-first y h = go (kind y)
    where
      go₁ : (y ≡ z) → (d : Dec (size G a ≡ 0)) → G'.spot (pick d (G.end Falling b) (G.end Falling a)) ≡ on y 0
      go₁ p (yes q) = to_back _ 0 (C.first b (omega (arith, size-at y p))) ∙ on-eq (sym p) (omega arith)
      go₁ p (no q) = to_front _ 0 (C.first a (omega arith)) ∙ on-eq (sym p) refl

      go : Kind G G' a b z y → G'.spot (G'.end Falling y) ≡ on y 0
      go (is-z p) = rw (first-at y p) (go₁ p (ℕ_discrete (size G a) 0))
      go (gone p) = absurd (omega arith)
      go (same p q r s) = rw (end-other Falling y r) (to-other _ y 0 p q (C.first y (omega arith)))

  merge-last : (y : Owner) (i : ℕ) → suc i ≡ size G' y → G'.spot (G'.end Rising y) ≡ on y i
  unfolding pick
  merge-last y i h = go (kind y)
    where
      go₁ : (y ≡ z) → (d : Dec (size G b ≡ 0)) → G'.spot (pick d (G.end Rising a) (G.end Rising b)) ≡ on y i
      go₁ p (yes q) = to_front _ i (C.last a i (omega (arith, size-at y p))) ∙ on-eq (sym p) refl
      go₁ p (no q) = to_back _ (size G b - 1) (C.last b (size G b - 1) (omega arith)) ∙ on-eq (sym p) (omega (arith, size-at y p))

      go : Kind G G' a b z y → G'.spot (G'.end Rising y) ≡ on y i
      go (is-z p) = rw (last-at y p) (go₁ p (ℕ_discrete (size G b) 0))
      go (gone p) = absurd (omega arith)
      go (same p q r s) = rw (end-other Rising y r) (to-other _ y i p q (C.last y i (omega arith)))

  merge-follow : (e : ℕ) (y : Owner) (j : ℕ) → G'.spot e ≡ on y j → suc j < size G' y → G'.spot (sh.next e) ≡ on y (suc j)
  merge-follow e y j h l = go (origin e y j h)
    where
      seam : y ≡ z → G.spot e ≡ on a j → Dec (suc j ≡ size G a) → G'.spot (sh.next e) ≡ on y (suc j)
      seam p s (yes q) =
          let lt : 0 < size G b = omega (arith, size-at y p) in
          let en : sh.next e ≡ G.end Falling b = ap sh.next (C.once e (G.end Rising a) (s ∙ sym (C.last a j q))) ∙ link (omega arith) lt in
          rw en (to_back _ 0 (C.first b lt) ∙ on-eq (sym p) (omega arith))
      seam p s (no q) = to_front _ (suc j) (C.follow e a j s (omega (arith, C.within e a j s))) ∙ on-eq (sym p) refl

      go : From (size G a) a b z (G.spot e) y j → G'.spot (sh.next e) ≡ on y (suc j)
      go (front p s) = seam p s (ℕ_discrete (suc j) (size G a))
      go (back p i s q) = to_back _ (suc i) (C.follow e b i s (omega (arith, size-at y p))) ∙ on-eq (sym p) (omega arith)
      go (other p q s) = to-other _ y (suc j) p q (C.follow e y j s (omega (arith, size-other y p q)))

  merge-around : (e k i : ℕ) → G'.spot e ≡ out k i → (G'.spot (sh.next e) ≡ out k (suc i)) ⊎ (G'.spot (sh.next e) ≡ out k 0)
  unfolding merge relocate
  merge-around e k i h =
      ⊎_elim (λ p. inl (ap (relocate (size G a) a b z) p)) (λ p. inr (ap (relocate (size G a) a b z) p)) (C.around e k i (from_out (size G a) a b z (G.spot e) k i h))

  same_from_lem : (s s' : Spot) (y : Owner) (j : ℕ) → ((x : Owner) (i : ℕ) → s ≡ on x i → i < size G x) → ((x : Owner) (i : ℕ) → s' ≡ on x i → i < size G x)
      → From (size G a) a b z s y j → From (size G a) a b z s' y j → s ≡ s'
  same_from_lem s s' y j w w' (front p q) (front p' q') = cc
  same_from_lem s s' y j w w' (front p q) (back p' i q' r') = absurd (omega (arith, w a j q))
  same_from_lem s s' y j w w' (front p q) (other p' r q') = absurd (not-z y p' r p)
  same_from_lem s s' y j w w' (back p i q r) (front p' q') = absurd (omega (arith, w' a j q'))
  same_from_lem s s' y j w w' (back p i q r) (back p' i' q' r') = let e : i ≡ i' = omega arith in cc
  same_from_lem s s' y j w w' (back p i q r) (other p' u q') = absurd (not-z y p' u p)
  same_from_lem s s' y j w w' (other p u q) (front p' q') = absurd (not-z y p u p')
  same_from_lem s s' y j w w' (other p u q) (back p' i q' r') = absurd (not-z y p u p')
  same_from_lem s s' y j w w' (other p u q) (other p' u' q') = cc

  merge-once : (e e' : ℕ) → G'.spot e ≡ G'.spot e' → e ≡ e'
  unfolding merge relocate
  merge-once e e' h = go (G.spot e) refl
    where
      go : (s : Spot) → G.spot e ≡ s → e ≡ e'
      go (out k i) p = C.once e e' (p ∙ sym (from_out (size G a) a b z (G.spot e') k i (sym h ∙ ap (relocate (size G a) a b z) p)))
      go (off k) p = C.once e e' (p ∙ sym (from-off (size G a) a b z (G.spot e') k (sym h ∙ ap (relocate (size G a) a b z) p)))
      go (on x i) p =
          let o = is-on (size G a) a b z x i in
          let m : G'.spot e ≡ on o.0 o.1 = ap (relocate (size G a) a b z) p ∙ o.2 in
          C.once e e' (same_from_lem (G.spot e) (G.spot e') o.0 o.1 (C.within e) (C.within e') (origin e _ _ m) (origin e' _ _ (sym h ∙ m)))

  merge-real : (e : ℕ) (y : Owner) (j : ℕ) → G'.spot e ≡ on y j → e < sh.list.edges
  merge-real e y j h = go (origin e y j h)
    where
      go : From (size G a) a b z (G.spot e) y j → e < sh.list.edges
      go (front p s) = C.real e a j s
      go (back p i s q) = C.real e b i s
      go (other p q s) = C.real e y j s

  merge-void : (e k : ℕ) → G'.spot e ≡ off k → sh.list.edges ≤ e
  unfolding merge
  merge-void e k h = C.void e k (from-off (size G a) a b z (G.spot e) k h)

  pub merge-chain : Chain sh (merge G a b z f g)
  merge-chain = record { within = merge-within; first = merge-first; last = merge-last; follow = merge-follow; once = merge-once; real = merge-real; void = merge-void; around = merge-around }

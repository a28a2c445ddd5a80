-- The outline of a path of level j that does not close is long. Following the joins from the path's first edge passes the path itself, with its 2 ^ j edges, and
-- then what lies beyond: a branch that is finished has half as many as a path of its level, and behind it the next level down goes on. So it does not come back before
-- 2 ^ (j + 1) steps.
use mathlib.Core.Path.{◌≡◌, refl, ap, sym, ◌∙◌}
use mathlib.Core.Bool.{Bool, true, false}
use mathlib.Core.Logic.{◌⊎◌, inl, inr, ⊎_elim}
use Prim.Native.Nat.{ℕ, zero, suc, ◌+◌, ◌-◌, ◌^◌, ◌≤◌, ◌<◌}
use native.Mathlib.Nat.{suc-add, zero-add}
use native.Mathlib.Decide.{dec_lt}
use native.Mathlib.Omega.{arith}
use Rattle.steps.specs.declared.Side.{Side}
use Rattle.steps.specs.declared.Side.TheVariants.{Rising, Falling}
use Rattle.hartley.proofs.Paths.Plan.{Plan, Lawful}
use Rattle.hartley.proofs.Paths.Paths.{Owner, Spot, on, Paths, size, Chain}
use Rattle.hartley.proofs.Seams.Seams.{Marks, Meet, Seam, Seams, meet-false}

unfoldable pub iter : (ℕ → ℕ) → ℕ → ℕ → ℕ
iter f zero e = e
iter f (suc n) e = f (iter f n e)

pub iter-add : (f : ℕ → ℕ) (a b e : ℕ) → iter f (a + b) e ≡ iter f a (iter f b e)
unfolding iter
iter-add f zero b e = rw (zero-add b)
iter-add f (suc a) b e = rw (suc-add a b) (ap f (iter-add f a b e))

-- some outline does not come back in fewer than 2 ^ l steps
abbrev pub Room : Plan → ℕ → Type 0
Room sh l = (e : ℕ) × (e < sh.list.edges) × ((i : ℕ) → 0 < i → i < 2 ^ l → iter sh.next i e ≡ e → ⊥)

-- each branch that is there has the edges of a path one level down
pub record Heavy (G : Paths) (M : Marks) : Type 0 where
  pub branch : (s : Side) (x : Owner) (k : ℕ) → 0 < size G x → M.own_level x ≡ suc k → M.finished s x ≡ true → 2 ^ k ≤ G.length s x
  pub some : (x : Owner) (k : ℕ) → 0 < size G x → M.own_level x ≡ suc k → 2 ^ k ≤ size G x

module _ {sh : Plan} (N : Lawful sh) {G : Paths} {M : Marks} (C : Chain sh G) (S : Seams sh G M) (W : Heavy G M) where
  -- along a path
  walk : (y : Owner) (i : ℕ) → i < size G y → G.spot (iter sh.next i (G.end Falling y)) ≡ on y i
  unfolding iter
  walk y zero h = C.first y h
  walk y (suc i) h = C.follow _ y i (walk y i (omega arith)) h

  -- past its end, with the one that follows
  past : (y : Owner) (i : ℕ) (s : Seam sh Rising G M y) → 0 < size G y → iter sh.next (i + size G y) (G.end Falling y) ≡ iter sh.next i (G.end Falling s.heir)
  unfolding iter
  past y i s l = iter-add sh.next i (size G y) (G.end Falling y) ∙ ap (iter sh.next i) (go (size G y) refl)
    where
      go : (n : ℕ) → size G y ≡ n → iter sh.next n (G.end Falling y) ≡ G.end Falling s.heir
      go zero q = absurd (omega arith)
      go (suc n) q = ap sh.next (C.once _ _ (walk y n (omega arith) ∙ sym (C.last y n (sym q)))) ∙ s.joined

  abbrev On : Owner → ℕ → Type 0
  On y e = (o : Owner) × (k : ℕ) × (G.spot e ≡ on o k) × ((o ≡ y) ⊎ (M.own_level o < M.own_level y))

  weight : (l : ℕ) (y : Owner) → M.own_level y ≡ l → 0 < size G y → M.finished Falling y ≡ true → (i : ℕ) → i < 2 ^ l → On y (iter sh.next i (G.end Falling y))
  weight zero y le live f i h = (y, i, walk y i (omega arith), inl refl)
  weight (suc l) y le live f i h = go (dec_lt i (size G y)) (λ y' p q r j t. weight l y' p q r j t)
    where
      go : Dec (i < size G y) → ((y' : Owner) → M.own_level y' ≡ l → 0 < size G y' → M.finished Falling y' ≡ true → (j : ℕ) → j < 2 ^ l → On y' (iter sh.next j (G.end Falling y'))) → On y (iter sh.next i (G.end Falling y))
      go (yes p) ih = (y, i, walk y i p, inl refl)
      go (no p) ih = branch (M.finished Rising y) refl
        where
          branch : (b : Bool) → M.finished Rising y ≡ b → On y (iter sh.next i (G.end Falling y))
          branch true e = absurd (unfold size in omega (arith, W.branch Falling y l live le f, W.branch Rising y l live le e))
          branch false e =
              let s = S Rising y live in
              let m = meet-false (M.finished Falling s.heir) _ _ (rw e at s.meet) in
              let t : i ≡ (i - size G y) + size G y = omega arith in
              let o = ih s.heir (omega arith) s.alive m.0 (i - size G y) (omega (arith, W.some y l live le)) in
              (o.0, o.1, ap (λ n. G.spot (iter sh.next n (G.end Falling y))) t ∙ ap G.spot (past y (i - size G y) s live) ∙ o.2, inr (⊎_elim (λ q. omega (arith, ap M.own_level q)) (λ q. omega arith) o.3))

  -- the outline of a finished path that does not close comes back to its first edge after 2 ^ (l + 1) steps at the earliest
  pub long : (l : ℕ) (x : Owner) → M.own_level x ≡ l → 0 < size G x → 2 ^ l ≤ size G x → M.finished Rising x ≡ true → (s : Seam sh Rising G M x) → (s.heir ≡ x → ⊥)
      → (i : ℕ) → 0 < i → i < 2 ^ suc l → iter sh.next i (G.end Falling x) ≡ G.end Falling x → ⊥
  long l x le live big f s apart i pos h back = go (dec_lt i (size G x))
    where
      ly : 0 < size G s.heir
      ly = s.alive

      start : G.spot (iter sh.next i (G.end Falling x)) ≡ on x 0
      start = ap G.spot back ∙ C.first x live

      behind : (b : Bool) → M.finished Falling s.heir ≡ b → Meet true b (M.own_level x) (M.own_level s.heir) → (j : ℕ) → j < 2 ^ l → (o : Owner) × (k : ℕ) × (G.spot (iter sh.next j (G.end Falling s.heir)) ≡ on o k) × (o ≡ x → ⊥)
      behind true e m j t =
          let w = weight l s.heir (omega arith) ly e j t in
          (w.0, w.1, w.2, λ q. ⊎_elim (λ u. apart (sym u ∙ q)) (λ u. omega (arith, ap M.own_level q)) w.3)
      behind false e m j t = (s.heir, j, walk s.heir j (omega (arith, W.some s.heir l ly (omega arith))), apart)

      go : Dec (i < size G x) → ⊥
      go (yes p) = let q : ◌≡◌ {A = Spot} (on x i) (on x 0) = sym (walk x i p) ∙ start in let z : i ≡ 0 = cc in omega arith
      go (no p) =
          let t : i ≡ (i - size G x) + size G x = omega arith in
          let w = behind (M.finished Falling s.heir) refl (rw f at s.meet) (i - size G x) (omega arith) in
          let q : ◌≡◌ {A = Spot} (on w.0 w.1) (on x 0) = sym w.2 ∙ ap G.spot (sym (past x (i - size G x) s live)) ∙ ap (λ n. G.spot (iter sh.next n (G.end Falling x))) (sym t) ∙ start in
          w.3 (cc)

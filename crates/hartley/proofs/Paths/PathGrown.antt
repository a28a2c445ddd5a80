-- A path put to one side of another: the edges of x come after those of z on the rising side, before them on the falling side, and all are z's then.
-- Said once for both sides; below this file nothing asks which path stands in front.
use mathlib.Core.Path.{◌≡◌, refl, sym, ◌∙◌}
use mathlib.Core.Logic.{inl, inr}
use Prim.Native.Nat.{ℕ, ◌+◌, ◌<◌}
use native.Mathlib.Decide.{ℕ_discrete}
use native.Mathlib.Omega.{arith}
use Rattle.steps.specs.declared.Side.{Side}
use Rattle.steps.specs.declared.Side.TheVariants.{Rising, Falling}
use Rattle.steps.specs.Rows.{other_side}
use Rattle.hartley.proofs.Paths.Plan.{Plan, Joined}
use Rattle.hartley.proofs.Paths.Paths.{Owner, on, out, Paths, size, Chain, pick_yes, pick_no, merge, merge-chain, falling-at, rising-at, length-other, size-at, size-other, first-at, last-at, end-other, Kind, kind, is-z, gone, same, From, front, back, other, origin, to_front, to_back, to-other}
use Rattle.hartley.proofs.Paths.Outlines.{Outs, merge-outs, out-to}

unfoldable pub grow : Side → Paths → Owner → Owner → Paths
grow Rising G x z = merge G z x z (G.length Falling z) (G.length Rising z + size G x)
grow Falling G x z = merge G x z z (G.length Falling z + size G x) (G.length Rising z)

-- where an edge of the new path was, or that it is another's
pub data Was (G : Paths) (x z : Owner) (e : ℕ) (y : Owner) (j : ℕ) : Type 0 where
  of-this : y ≡ z → (i : ℕ) → G.spot e ≡ on z i → Was G x z e y j
  of-child : y ≡ z → (i : ℕ) → G.spot e ≡ on x i → Was G x z e y j
  of_other : (y ≡ z → ⊥) → (y ≡ x → ⊥) → G.spot e ≡ on y j → Was G x z e y j

module _ {sh : Plan} {G : Paths} (C : Chain sh G) (x z : Owner) (n : x ≡ z → ⊥) (live : 0 < size G x) where
  abbrev pub Links : Side → Type 0
  Links s = 0 < size G z → Joined sh s (G.end s z) (G.end (other_side s) x)

  m : z ≡ x → ⊥
  m h = n (sym h)

  sum-rising : G.length Falling z + (G.length Rising z + size G x) ≡ size G z + size G x
  unfolding size
  sum-rising = omega arith

  sum-falling : (G.length Falling z + size G x) + G.length Rising z ≡ size G x + size G z
  unfolding size
  sum-falling = omega arith

  pub grow-chain : (s : Side) → Links s → Chain sh (grow s G x z)
  unfolding grow
  grow-chain Rising l = merge-chain C z x z _ _ n (inl refl) sum-rising (λ a b. l a)
  grow-chain Falling l = merge-chain C x z z _ _ m (inr refl) sum-falling (λ a b. l b)

  pub grow-outs : (s : Side) {k : ℕ} → Outs sh k G → Outs sh k (grow s G x z)
  unfolding grow
  grow-outs Rising O = merge-outs G z x z _ _ O
  grow-outs Falling O = merge-outs G x z z _ _ O

  pub grow-rounds : (s : Side) → (grow s G x z).rounds ≡ G.rounds
  unfolding grow merge
  grow-rounds Rising = refl
  grow-rounds Falling = refl

  pub grow-out : (s : Side) (e k i : ℕ) → G.spot e ≡ out k i → (grow s G x z).spot e ≡ out k i
  unfolding grow
  grow-out Rising e k i q = out-to G z x z _ _ e k i q
  grow-out Falling e k i q = out-to G x z z _ _ e k i q

  -- its lengths
  pub grow-length : (s : Side) → (grow s G x z).length s z ≡ G.length s z + size G x
  unfolding grow
  grow-length Rising = rising-at G z x z _ _
  grow-length Falling = falling-at G x z z _ _

  pub grow-behind : (s : Side) → (grow s G x z).length (other_side s) z ≡ G.length (other_side s) z
  unfolding grow
  grow-behind Rising = falling-at G z x z _ _
  grow-behind Falling = rising-at G x z z _ _

  pub grow-size : (s : Side) → Links s → size (grow s G x z) z ≡ size G z + size G x
  unfolding grow
  grow-size Rising l = size-at C z x z _ _ n (inl refl) sum-rising (λ a b. l a) z refl
  grow-size Falling l = size-at C x z z _ _ m (inr refl) sum-falling (λ a b. l b) z refl ∙ omega arith

  -- its ends
  pub grow-end : (s : Side) → Links s → (grow s G x z).end s z ≡ G.end s x
  unfolding grow
  grow-end Rising l = last-at C z x z _ _ n (inl refl) sum-rising (λ a b. l a) z refl ∙ pick_no (ℕ_discrete (size G x) 0) _ _ (λ h. omega arith)
  grow-end Falling l = first-at C x z z _ _ m (inr refl) sum-falling (λ a b. l b) z refl ∙ pick_no (ℕ_discrete (size G x) 0) _ _ (λ h. omega arith)

  pub grow-far : (s : Side) → Links s → 0 < size G z → (grow s G x z).end (other_side s) z ≡ G.end (other_side s) z
  unfolding grow
  grow-far Rising l h = first-at C z x z _ _ n (inl refl) sum-rising (λ a b. l a) z refl ∙ pick_no (ℕ_discrete (size G z) 0) _ _ (λ q. omega arith)
  grow-far Falling l h = last-at C x z z _ _ m (inr refl) sum-falling (λ a b. l b) z refl ∙ pick_no (ℕ_discrete (size G z) 0) _ _ (λ q. omega arith)

  pub grow-fresh : (s : Side) → Links s → size G z ≡ 0 → (grow s G x z).end (other_side s) z ≡ G.end (other_side s) x
  unfolding grow
  grow-fresh Rising l h = first-at C z x z _ _ n (inl refl) sum-rising (λ a b. l a) z refl ∙ pick_yes (ℕ_discrete (size G z) 0) _ _ h
  grow-fresh Falling l h = last-at C x z z _ _ m (inr refl) sum-falling (λ a b. l b) z refl ∙ pick_yes (ℕ_discrete (size G z) 0) _ _ h

  -- the others
  pub grow-rest : (s : Side) → Links s → (y : Owner) → (y ≡ z → ⊥) → (y ≡ x → ⊥) → ((t : Side) → (grow s G x z).length t y ≡ G.length t y) × ((t : Side) → (grow s G x z).end t y ≡ G.end t y) × (size (grow s G x z) y ≡ size G y)
  unfolding grow
  grow-rest Rising l y d e = ((λ t. length-other G z x z _ _ t y d e d), (λ t. end-other C z x z _ _ n (inl refl) sum-rising (λ a b. l a) t y d), size-other C z x z _ _ n (inl refl) sum-rising (λ a b. l a) y d e)
  grow-rest Falling l y d e = ((λ t. length-other G x z z _ _ t y e d d), (λ t. end-other C x z z _ _ m (inr refl) sum-falling (λ a b. l b) t y d), size-other C x z z _ _ m (inr refl) sum-falling (λ a b. l b) y e d)

  pub grow-gone : (s : Side) → Links s → size (grow s G x z) x ≡ 0
  unfolding grow
  grow-gone Rising l = by (kind C z x z _ _ n (inl refl) sum-rising (λ a b. l a) x)
    where
      by : Kind G (merge G z x z (G.length Falling z) (G.length Rising z + size G x)) z x z x → size (merge G z x z (G.length Falling z) (G.length Rising z + size G x)) x ≡ 0
      by (is-z q) = absurd (n q)
      by (gone q) = q
      by (same a b c q) = absurd (b refl)
  grow-gone Falling l = by (kind C x z z _ _ m (inr refl) sum-falling (λ a b. l b) x)
    where
      by : Kind G (merge G x z z (G.length Falling z + size G x) (G.length Rising z)) x z z x → size (merge G x z z (G.length Falling z + size G x) (G.length Rising z)) x ≡ 0
      by (is-z q) = absurd (n q)
      by (gone q) = q
      by (same a b c q) = absurd (a refl)

  -- the spots
  pub grow-was : (s : Side) → Links s → (e : ℕ) (y : Owner) (j : ℕ) → (grow s G x z).spot e ≡ on y j → Was G x z e y j
  unfolding grow
  grow-was Rising l e y j q = by (origin C z x z _ _ n (inl refl) sum-rising (λ a b. l a) e y j q)
    where
      by : From (size G z) z x z (G.spot e) y j → Was G x z e y j
      by (front p s) = of-this p j s
      by (back p i s w) = of-child p i s
      by (other u v s) = of_other u v s
  grow-was Falling l e y j q = by (origin C x z z _ _ m (inr refl) sum-falling (λ a b. l b) e y j q)
    where
      by : From (size G x) x z z (G.spot e) y j → Was G x z e y j
      by (front p s) = of-child p j s
      by (back p i s w) = of-this p i s
      by (other u v s) = of_other v u s

  -- where the edges of z and of x stand in it
  abbrev pub this_index : Side → ℕ → ℕ
  this_index Rising i = i
  this_index Falling i = size G x + i

  abbrev pub child_index : Side → ℕ → ℕ
  child_index Rising i = size G z + i
  child_index Falling i = i

  pub grow-this : (s : Side) → Links s → (e i : ℕ) → G.spot e ≡ on z i → (grow s G x z).spot e ≡ on z (this_index s i)
  unfolding grow
  grow-this Rising l e i q = to_front C z x z _ _ n (inl refl) sum-rising (λ a b. l a) e i q
  grow-this Falling l e i q = to_back C x z z _ _ m (inr refl) sum-falling (λ a b. l b) e i q

  pub grow-child : (s : Side) → Links s → (e i : ℕ) → G.spot e ≡ on x i → (grow s G x z).spot e ≡ on z (child_index s i)
  unfolding grow
  grow-child Rising l e i q = to_back C z x z _ _ n (inl refl) sum-rising (λ a b. l a) e i q
  grow-child Falling l e i q = to_front C x z z _ _ m (inr refl) sum-falling (λ a b. l b) e i q

  pub grow-other : (s : Side) → Links s → (e : ℕ) (y : Owner) (i : ℕ) → (y ≡ z → ⊥) → (y ≡ x → ⊥) → G.spot e ≡ on y i → (grow s G x z).spot e ≡ on y i
  unfolding grow
  grow-other Rising l e y i d f q = to-other C z x z _ _ n (inl refl) sum-rising (λ a b. l a) e y i d f q
  grow-other Falling l e y i d f q = to-other C x z z _ _ m (inr refl) sum-falling (λ a b. l b) e y i f d q

-- Steps from owner to owner, each a level down, that end at an edge: two owners of one level that come to the same edge are one, since each step has one origin.
use mathlib.Core.Path.{◌≡◌, ap}
use Prim.Native.Nat.{ℕ, suc, ◌≤◌}
use native.Mathlib.Omega.{arith}
use Rattle.hartley.proofs.Paths.Paths.{Owner}

-- B x y: beyond the end of x lies y, Tip x e: that end is the edge e
pub data Reach (own_level : Owner → ℕ) (B : Owner → Owner → Type 0) (Tip : Owner → ℕ → Type 0) : Owner → ℕ → Type 0 where
  here : {x : Owner} {e : ℕ} → Tip x e → Reach own_level B Tip x e
  further : {x y : Owner} {e : ℕ} → B x y → own_level x ≡ suc (own_level y) → Reach own_level B Tip y e → Reach own_level B Tip x e

module _ (own_level : Owner → ℕ) (B : Owner → Owner → Type 0) (Tip : Owner → ℕ → Type 0) (one-B : (x x' y : Owner) → B x y → B x' y → x ≡ x')
    (one-Tip : (x x' : Owner) (e : ℕ) → Tip x e → Tip x' e → x ≡ x') where
  reach-end : {x : Owner} {e : ℕ} → Reach own_level B Tip x e → (o : Owner) × Tip o e × (own_level o ≤ own_level x)
  reach-end (here {x = x} t) = (x, t, omega arith)
  reach-end (further b l r) = let w = reach-end r in (w.0, w.1, omega arith)

  pub reach-one : {x x' : Owner} {e : ℕ} → Reach own_level B Tip x e → Reach own_level B Tip x' e → own_level x ≡ own_level x' → x ≡ x'
  reach-one (here t) (here t') l = one-Tip _ _ _ t t'
  reach-one (here t) (further b k r) l = let w = reach-end r in let e = ap own_level (one-Tip _ _ _ t w.1) in absurd (omega arith)
  reach-one (further b k r) (here t) l = let w = reach-end r in let e = ap own_level (one-Tip _ _ _ t w.1) in absurd (omega arith)
  reach-one (further {y = y} b k r) (further {y = y'} b' k' r') l = let p : y ≡ y' = reach-one r r' (omega arith) in one-B _ _ _ b (rw (← p) at b')

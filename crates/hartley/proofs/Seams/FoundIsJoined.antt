-- A row that step 1 finds is the one that the joins lead to. The heir of the branch found starts at the same place as the edge in hand, and both are finished
-- there. If they are rows, both starts are tops of edges that climb, and a place is the top of one such edge; if they are edges of the list, both climb from the place,
-- and one edge does. From the same seams: where only rows with an unfinished end are left, none is.
use mathlib.Core.Path.{◌≡◌, refl, ap, sym, ◌∙◌}
use mathlib.Core.Bool.{true, false}
use Prim.Native.Nat.{ℕ, zero, suc, ◌≤◌, ◌<◌}
use native.Mathlib.Omega.{arith}
use Rattle.steps.specs.declared.Side.{Side}
use Rattle.steps.specs.Rows.{other_side}
use Rattle.hartley.proofs.Paths.Plan.{Plan, Lawful, height, tip, Climbs, Joined, joined-tip}
use Rattle.hartley.proofs.Paths.Paths.{Owner, edge, row, on, Paths, size, Chain}
use Rattle.hartley.proofs.Seams.Seams.{Marks, Seams, meet-false, end-real}

-- what holds while edges with their top at p are treated
pub record At (sh : Plan) (p : ℕ) (G : Paths) (M : Marks) : Type 0 where
  pub edge_level : (e : ℕ) → M.own_level (edge e) ≡ 0
  pub row_level : (b : ℕ) → 0 < size G (row b) → 1 ≤ M.own_level (row b)
  -- rows' edges are not above p, those not treated reach up to it at least
  pub low : (e b i : ℕ) → G.spot e ≡ on (row b) i → (s : Side) → height sh (tip sh s e) ≤ height sh p
  pub high : (e : ℕ) → 0 < size G (edge e) → (s : Side) → height sh (tip sh (other_side s) e) < height sh p → height sh p ≤ height sh (tip sh s e)
  pub alone : (e : ℕ) → 0 < size G (edge e) → (s : Side) → G.end s (edge e) ≡ e
  -- a row with both ends finished has one at p, and a finished end is the top of an edge that climbs
  pub ready : (b : ℕ) → 0 < size G (row b) → ((s : Side) → M.finished s (row b) ≡ true) → (s : Side) × (tip sh s (G.end s (row b)) ≡ p)
  pub climbs : (s : Side) (b : ℕ) → 0 < size G (row b) → M.finished s (row b) ≡ true → Climbs sh s (G.end s (row b))

module _ {sh : Plan} (N : Lawful sh) {p : ℕ} {G : Paths} {M : Marks} (C : Chain sh G) (S : Seams sh G M) (A : At sh p G M) where
  -- an edge that is an owner climbs on the side up to p
  abbrev pub UpTo : Side → Owner → Type 0
  UpTo s x = (e : ℕ) → x ≡ edge e → Climbs sh s e × (tip sh s e ≡ p)

  -- two finished ends of one level at one place, on the side where x starts
  same_start : (s : Side) (x y : Owner) → 0 < size G x → 0 < size G y → M.finished (other_side s) x ≡ true → M.finished (other_side s) y ≡ true → M.own_level x ≡ M.own_level y
      → tip sh (other_side s) (G.end (other_side s) x) ≡ tip sh (other_side s) (G.end (other_side s) y) → UpTo s x → G.end (other_side s) y ≡ G.end (other_side s) x
  same_start s (row r) (row r') l l' f f' e t u = N.one_top (other_side s) _ _ (end-real C (other_side s) (row r') l') (end-real C (other_side s) (row r) l) (A.climbs (other_side s) r' l' f') (A.climbs (other_side s) r l f) (sym t)
  same_start s (row r) (edge e') l l' f f' e t u = absurd (omega (arith, A.row_level r l, A.edge_level e'))
  same_start s (edge a) (row r') l l' f f' e t u = absurd (omega (arith, A.row_level r' l', A.edge_level a))
  same_start s (edge a) (edge b) l l' f f' e t u =
      let fa = A.alone a l (other_side s) in
      let fb = A.alone b l' (other_side s) in
      let v = u a refl in
      let ta : tip sh (other_side s) a ≡ tip sh (other_side s) b = ap (tip sh (other_side s)) (sym fa) ∙ t ∙ ap (tip sh (other_side s)) fb in
      let w : Climbs sh s b = omega (arith, v.0, ap (height sh) v.1, ap (height sh) ta, A.high b l' s (omega (arith, v.0, ap (height sh) v.1, ap (height sh) ta))) in
      fb ∙ sym (N.one_bottom s a b (rw fa at (end-real C (other_side s) (edge a) l)) (rw fb at (end-real C (other_side s) (edge b) l')) v.0 w ta) ∙ sym fa

  -- step 1: a branch that is found ends where the edge in hand begins
  pub found-joins : (s : Side) (x : Owner) (b : ℕ) → 0 < size G x → 0 < size G (row b) → M.finished (other_side s) x ≡ true → M.finished s (row b) ≡ false → M.own_level (row b) ≡ suc (M.own_level x)
      → tip sh s (G.end s (row b)) ≡ tip sh (other_side s) (G.end (other_side s) x) → UpTo s x → Joined sh s (G.end s (row b)) (G.end (other_side s) x)
  found-joins s x b l l' f g e t u =
      let w = S s (row b) l' in
      let m = meet-false (M.finished (other_side s) w.heir) _ _ (rw g at w.meet) in
      let j = joined-tip N s _ _ (end-real C s (row b) l') (end-real C (other_side s) w.heir w.alive) w.joined in
      rw (same_start s x w.heir l w.alive f m.0 (omega arith) (sym t ∙ sym j) u) at w.joined

  -- at the end: no edge is left and each row has an unfinished end
  pub none_left : ((e : ℕ) → size G (edge e) ≡ 0) → ((b : ℕ) → 0 < size G (row b) → (s : Side) × (M.finished s (row b) ≡ false)) → (l : ℕ) (x : Owner) → M.own_level x ≡ l → 0 < size G x → ⊥
  none_left E U zero (edge e) q h = omega (arith, E e)
  none_left E U (suc l) (edge e) q h = omega (arith, E e)
  none_left E U zero (row r) q h = omega (arith, A.row_level r h)
  none_left E U (suc l) (row r) q h =
      let u = U r h in
      let w = S u.0 (row r) h in
      let m = meet-false (M.finished (other_side u.0) w.heir) _ _ (rw u.1 at w.meet) in
      none_left E U l w.heir (omega arith) w.alive

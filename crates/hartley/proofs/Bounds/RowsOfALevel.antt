-- From a live row's unfinished end, or its end at p, the seams lead down a level at each step to an edge of the list that passes the sweep's height (`reaches`). On
-- the rows of one level this is one to one (`rel-one`), so there are no more of them than edges that pass.
use mathlib.Core.Path.{◌≡◌, refl, ap, sym, ◌∙◌}
use mathlib.Core.Bool.{Bool, true, false}
use mathlib.Core.Logic.{◌⊎◌, inl, inr, ⊎_elim}
use Prim.Native.Nat.{ℕ, zero, suc, ◌≤◌, ◌<◌}
use native.Mathlib.Decide.{ℕ_discrete}
use native.Mathlib.Omega.{arith}
use borrow.Author.Tests.{lt-ltb, le-leb}
use Rattle.sheet.specs.Edges.{top_height, bottom_height}
use Rattle.sheet.specs.Passing as sheet
use Rattle.steps.specs.declared.Side.{Side}
use Rattle.steps.specs.declared.Side.TheVariants.{Rising, Falling}
use Rattle.steps.specs.Rows.{other_side}
use Rattle.hartley.proofs.Paths.Plan.{Plan, Lawful, height, tip, Climbs, Joined, joined-tip, level-never}
use Rattle.hartley.proofs.Paths.Paths.{Owner, edge, row, Paths, size, Chain}
use Rattle.hartley.proofs.Seams.Seams.{Marks, Seams, meet-false, end-real, end-spot, one_end, one-heir}
use Rattle.hartley.proofs.Seams.FoundIsJoined.{At}
use Rattle.hartley.proofs.Seams.OneOrigin.{Reach, here, further, reach-one}
use Rattle.hartley.proofs.Invariant.Invariant.{side-cases}

-- an edge of the list passes a place's height
abbrev pub passes : Plan → ℕ → ℕ → Bool
passes sh p e = sheet.passes sh.list (height sh p) e

pub passes-to : (sh : Plan) (s : Side) (p e : ℕ) → height sh (tip sh (other_side s) e) < height sh p → height sh p ≤ height sh (tip sh s e) → passes sh p e ≡ true
passes-to sh Rising p e a b = rw (lt-ltb (bottom_height sh.list e) (height sh p) (omega arith), le-leb (height sh p) (top_height sh.list e) (omega arith))
passes-to sh Falling p e a b = rw (lt-ltb (bottom_height sh.list e) (height sh p) (omega arith), le-leb (height sh p) (top_height sh.list e) (omega arith))

-- from an unfinished end, level by level down, to an edge that passes
module _ {sh : Plan} (N : Lawful sh) {p : ℕ} {G : Paths} {M : Marks} (C : Chain sh G) (S : Seams sh G M) (A : At sh p G M) where
  abbrev pub Beyond : Side → Owner → Owner → Type 0
  Beyond s x y = (0 < size G x) × (0 < size G y) × Joined sh s (G.end s x) (G.end (other_side s) y)

  abbrev pub Tip : Side → Owner → ℕ → Type 0
  Tip s x e = (0 < size G x) × (G.end s x ≡ e)

  abbrev pub To : Side → Owner → ℕ → Type 0
  To s x e = Reach M.own_level (Beyond s) (Tip s) x e

  abbrev Found : Side → Owner → Type 0
  Found s x = (e : ℕ) × To s x e × (height sh (tip sh (other_side s) e) < height sh p) × (height sh p ≤ height sh (tip sh s e)) × (e < sh.list.edges)

  -- an edge of the list starts below p; a row's end is unfinished, or at p
  abbrev Open : Side → Owner → Type 0
  Open s (edge e) = height sh (tip sh (other_side s) e) < height sh p
  Open s (row b) = (M.finished s (row b) ≡ false) ⊎ (tip sh s (G.end s (row b)) ≡ p)

  low : (s t : Side) (b : ℕ) → 0 < size G (row b) → height sh (tip sh t (G.end s (row b))) ≤ height sh p
  low s t b l = let w = end-spot C s (row b) l in A.low _ b w.0 w.1 t

  -- both ends are finished: one is at p, and it is not the one below
  at_p : (s : Side) (b : ℕ) → 0 < size G (row b) → M.finished s (row b) ≡ true → M.finished (other_side s) (row b) ≡ true → height sh (tip sh (other_side s) (G.end (other_side s) (row b))) < height sh p → tip sh s (G.end s (row b)) ≡ p
  at_p s b l f g h = by s (A.ready b l (side-cases (λ t. M.finished t (row b) ≡ true) s f g)) h
    where
      by : (s : Side) → (t : Side) × (tip sh t (G.end t (row b)) ≡ p) → height sh (tip sh (other_side s) (G.end (other_side s) (row b))) < height sh p → tip sh s (G.end s (row b)) ≡ p
      by Rising (Rising, q) h = q
      by Falling (Falling, q) h = q
      by Rising (Falling, q) h = absurd (omega (arith, ap (height sh) q))
      by Falling (Rising, q) h = absurd (omega (arith, ap (height sh) q))

  opens : (s : Side) (y : Owner) → 0 < size G y → M.finished (other_side s) y ≡ true → height sh (tip sh (other_side s) (G.end (other_side s) y)) < height sh p → Open s y
  opens s (edge e) l f h = rw (A.alone e l (other_side s)) at h
  opens s (row b) l f h = by (M.finished s (row b)) refl
    where
      by : (c : Bool) → M.finished s (row b) ≡ c → (M.finished s (row b) ≡ false) ⊎ (tip sh s (G.end s (row b)) ≡ p)
      by false e = inl e
      by true e = inr (at_p s b l e f h)

  of_edge : (s : Side) (e : ℕ) → 0 < size G (edge e) → Open s (edge e) → Found s (edge e)
  of_edge s e l h = (e, here (l, A.alone e l s), h, A.high e l s h, rw (A.alone e l s) at (end-real C s (edge e) l))

  reach : (s : Side) (l : ℕ) (x : Owner) → M.own_level x ≡ l → 0 < size G x → Open s x → Found s x
  reach s zero (edge e) le live h = of_edge s e live h
  reach s (suc l) (edge e) le live h = of_edge s e live h
  reach s zero (row b) le live h = absurd (omega (arith, A.row_level b live))
  reach s (suc l) (row b) le live h = by (ℕ_discrete (height sh (tip sh s (G.end s (row b)))) (height sh p)) (λ y. reach s l y)
    where
      x : Owner
      x = row b

      real : G.end s x < sh.list.edges
      real = end-real C s x live

      by : Dec (height sh (tip sh s (G.end s x)) ≡ height sh p) → ((y : Owner) → M.own_level y ≡ l → 0 < size G y → Open s y → Found s y) → Found s x
      by (yes q) ih = (G.end s x, here (live, refl), omega (arith, level-never N s (G.end s x) real, low s (other_side s) b live, q), omega (arith, q), real)
      by (no q) ih =
          let f : M.finished s x ≡ false = ⊎_elim (λ a. a) (λ a. absurd (q (ap (height sh) a))) h in
          let t = S s x live in
          let m = meet-false (M.finished (other_side s) t.heir) _ _ (rw f at t.meet) in
          let j = joined-tip N s _ _ real (end-real C (other_side s) t.heir t.alive) t.joined in
          let w = ih t.heir (omega (arith, m.1)) t.alive (opens s t.heir t.alive m.0 (omega (arith, low s s b live, ap (height sh) j, q))) in
          (w.0, further (live, t.alive, t.joined) m.1 w.1, w.2, w.3, w.4)

  one-beyond : (s : Side) (a a' y : Owner) → Beyond s a y → Beyond s a' y → a ≡ a'
  one-beyond s a a' y b b' = one-heir C N s a a' _ b.0 b'.0 b.2 b'.2

  one-tip : (s : Side) (a a' : Owner) (e : ℕ) → Tip s a e → Tip s a' e → a ≡ a'
  one-tip s a a' e t t' = one_end C s a a' t.0 t'.0 (t.1 ∙ sym t'.1)

  -- a live row and an edge that it reaches
  abbrev pub Rel : ℕ → ℕ → ℕ → Type 0
  Rel j b e = (M.own_level (row b) ≡ j) × ((s : Side) × To s (row b) e × Climbs sh s e)

  pub rel-one : (j b c e : ℕ) → Rel j b e → Rel j c e → b ≡ c
  rel-one j b c e u v = by u.1.0 v.1.0 u.1.1 v.1.1 u.1.2 v.1.2
    where
      same : row b ≡ row c → b ≡ c
      same q = cc

      on-side : (s : Side) → To s (row b) e → To s (row c) e → b ≡ c
      on-side s x y = same (reach-one M.own_level (Beyond s) (Tip s) (one-beyond s) (one-tip s) x y (u.0 ∙ sym v.0))

      by : (s t : Side) → To s (row b) e → To t (row c) e → Climbs sh s e → Climbs sh t e → b ≡ c
      by Rising Rising x y k l = on-side Rising x y
      by Falling Falling x y k l = on-side Falling x y
      by Rising Falling x y k l = absurd (omega arith)
      by Falling Rising x y k l = absurd (omega arith)

  pub reaches : (j b : ℕ) → 0 < size G (row b) → M.own_level (row b) ≡ j → (e : ℕ) × (e < sh.list.edges) × (passes sh p e ≡ true) × Rel j b e
  reaches j b l q = by (M.finished Rising (row b)) (M.finished Falling (row b)) refl refl
    where
      on-side : (s : Side) → Open s (row b) → (e : ℕ) × (e < sh.list.edges) × (passes sh p e ≡ true) × Rel j b e
      on-side s h = let w = reach s (M.own_level (row b)) (row b) refl l h in (w.0, w.4, passes-to sh s p w.0 w.2 w.3, (q, (s, w.1, omega (arith, w.2, w.3))))

      by : (a c : Bool) → M.finished Rising (row b) ≡ a → M.finished Falling (row b) ≡ c → (e : ℕ) × (e < sh.list.edges) × (passes sh p e ≡ true) × Rel j b e
      by false c e f = on-side Rising (inl e)
      by true false e f = on-side Falling (inl f)
      by true true e f = let r = A.ready b l (side-cases (λ t. M.finished t (row b) ≡ true) Rising e f) in on-side r.0 (inr r.1)

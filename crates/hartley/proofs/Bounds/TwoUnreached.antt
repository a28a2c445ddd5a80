-- Before an edge of the list that finds no row two edges that pass are reached by no row: the edge itself, and the one that lies beyond its bottom. A row that led to
-- the first would have its tip at the edge's bottom and be found; the second is led to by the first alone. So the rows of a level are fewer by two than the
-- edges that pass.
use mathlib.Core.Path.{◌≡◌, refl, ap, sym, ◌∙◌}
use mathlib.Core.Bool.{Bool, true, false}
use Prim.Native.Nat.{ℕ, suc, ◌+◌, ◌≤◌, ◌<◌}
use native.Mathlib.Omega.{arith}
use Rattle.laws.specs.Counting.{count}
use Rattle.laws.proofs.Counting.{count-without, without, without-there}
use Rattle.laws.proofs.Pigeonhole.{pigeon}
use Rattle.steps.specs.declared.Side.{Side}
use Rattle.steps.specs.declared.Side.TheVariants.{Rising, Falling}
use Rattle.steps.specs.Rows.{other_side}
use Rattle.hartley.proofs.Paths.Plan.{Plan, Lawful, height, tip, Climbs, Joined, joined-tip, joined-one}
use Rattle.hartley.proofs.Paths.Paths.{Owner, edge, row, on, Paths, size, Chain}
use Rattle.hartley.proofs.Seams.Seams.{Marks, Meet, Seam, Seams, end-real, end-spot, one_end}
use Rattle.hartley.proofs.Seams.FoundIsJoined.{At}
use Rattle.hartley.proofs.Seams.OneOrigin.{here, further}
use Rattle.hartley.proofs.Bounds.RowsOfALevel.{passes, Beyond, To, Rel, rel-one, reaches, passes-to}

-- an edge climbs on one side only
climbs-one : (sh : Plan) (s t : Side) (e : ℕ) → Climbs sh s e → Climbs sh t e → t ≡ s
climbs-one sh Rising Rising e a b = refl
climbs-one sh Falling Falling e a b = refl
climbs-one sh Rising Falling e a b = absurd (omega arith)
climbs-one sh Falling Rising e a b = absurd (omega arith)

module _ {sh : Plan} (N : Lawful sh) {p : ℕ} {G : Paths} {M : Marks} (C : Chain sh G) (S : Seams sh G M) (A : At sh p G M) (edge_finished : (a : ℕ) (s : Side) → M.finished s (edge a) ≡ true) where
  -- an edge of the list that is not treated is on no row
  not-on-row : (e : ℕ) → 0 < size G (edge e) → (t : Side) (c : ℕ) → 0 < size G (row c) → G.end t (row c) ≡ e → ⊥
  not-on-row e l t c h q =
      let w = end-spot C t (row c) h in
      let v = end-spot C t (edge e) l in
      let z : G.spot e ≡ on (row c) w.0 = ap G.spot (sym q) ∙ w.1 in
      let y : G.spot e ≡ on (edge e) v.0 = ap G.spot (sym (A.alone e l t)) ∙ v.1 in
      let n : ◌≡◌ {A = ℕ} 0 1 = cc in
      omega arith

  -- what is beyond the last row of a walk: the walk ends in a row's own edge, or in an edge of the list right beyond a row
  last_row : (t : Side) (e : ℕ) → 0 < size G (edge e) → {x : Owner} → To N C S A t x e → (b : ℕ) → x ≡ row b → (c : ℕ) × Beyond N C S A t (row c) (edge e) × (M.own_level (row c) ≡ suc (M.own_level (edge e)))
  last_row t e l (here h) b q = absurd (not-on-row e l t b (rw q at h.0) (rw q at h.1))
  last_row t e l (further {x = x} {y = row c} h k r) b q = last_row t e l r c refl
  last_row t e l (further {x = x} {y = edge a} h k (here i)) b q =
      let d : a ≡ e = sym (A.alone a i.0 t) ∙ i.1 in
      (b, (rw q at h.0, l, rw d at (rw q at h.2)), ap M.own_level (sym q) ∙ k ∙ ap (λ j. suc (M.own_level (edge j))) d)
  last_row t e l (further {x = x} {y = edge a} h k (further i j r)) b q = absurd (omega (arith, j, A.edge_level a))

  -- beyond an end lies one edge
  beyond-one : (t : Side) (a b c : ℕ) → b < sh.list.edges → c < sh.list.edges → Joined sh t a b → Joined sh t a c → b ≡ c
  beyond-one Rising a b c lb lc u v = sym u ∙ v
  beyond-one Falling a b c lb lc u v = N.one_to_one b c lb lc (u ∙ sym v)

  -- a row right before an edge of the list is unfinished there
  unfinished : (t : Side) (c e : ℕ) → 0 < size G (edge e) → Beyond N C S A t (row c) (edge e) → M.finished t (row c) ≡ false
  unfinished t c e l h = by (M.finished t (row c)) refl
    where
      w : Seam sh t G M (row c)
      w = S t (row c) h.0

      same-heir : w.heir ≡ edge e
      same-heir = one_end C (other_side t) w.heir (edge e) w.alive l (beyond-one t _ _ _ (end-real C (other_side t) w.heir w.alive) (end-real C (other_side t) (edge e) l) w.joined h.2)

      by : (f : Bool) → M.finished t (row c) ≡ f → M.finished t (row c) ≡ false
      by false q = q
      by true q =
          let fin : M.finished (other_side t) w.heir ≡ true = ap (M.finished (other_side t)) same-heir ∙ edge_finished e (other_side t) in
          let m : Meet true true (M.own_level (row c)) (M.own_level w.heir) = rw (q, fin) at w.meet in
          absurd (omega (arith, m, ap M.own_level same-heir, A.edge_level e, A.row_level c h.0))

  double : (s : Side) → other_side (other_side s) ≡ s
  double Rising = refl
  double Falling = refl

  -- the edge in hand climbs on s to p, and no row of level 0 has its tip at its bottom
  module _ (s : Side) (e : ℕ) (l : 0 < size G (edge e)) (climbs : Climbs sh s e)
      (none : (c : ℕ) → 0 < size G (row c) → M.own_level (row c) ≡ 1 → M.finished s (row c) ≡ false → tip sh s (G.end s (row c)) ≡ tip sh (other_side s) e → ⊥) where
    real : e < sh.list.edges
    real = rw (A.alone e l s) at (end-real C s (edge e) l)

    reached-by : (t : Side) (c : ℕ) → t ≡ s → Beyond N C S A t (row c) (edge e) → M.own_level (row c) ≡ suc (M.own_level (edge e)) → ⊥
    reached-by t c q h k =
        let u : Beyond N C S A s (row c) (edge e) = rw q at h in
        let j = joined-tip N s _ _ (end-real C s (row c) u.0) (end-real C (other_side s) (edge e) l) u.2 in
        none c u.0 (omega (arith, k, A.edge_level e)) (unfinished s c e l u) (sym j ∙ ap (tip sh (other_side s)) (A.alone e l (other_side s)))

    pub unreached : (j b : ℕ) → Rel N C S A j b e → ⊥
    unreached j b r = let w = last_row r.1.0 e l r.1.1 b refl in reached-by r.1.0 w.0 (climbs-one sh s r.1.0 e climbs r.1.2) w.1 w.2

    -- the edge beyond its bottom
    pub record Partner : Type 0 where
      pub it : ℕ
      pub alive : 0 < size G (edge it)
      pub joined : Joined sh (other_side s) e it

    pub partner : Partner
    partner = by w.heir refl (M.finished (other_side (other_side s)) w.heir) refl (rw (edge_finished e (other_side s)) at w.meet)
      where
        w : Seam sh (other_side s) G M (edge e)
        w = S (other_side s) (edge e) l

        j : Joined sh (other_side s) e (G.end (other_side (other_side s)) w.heir)
        j = rw (A.alone e l (other_side s)) at w.joined

        by : (y : Owner) → w.heir ≡ y → (f : Bool) → M.finished (other_side (other_side s)) w.heir ≡ f → Meet true f (M.own_level (edge e)) (M.own_level w.heir) → Partner
        by (edge a) q f g m = let al : 0 < size G (edge a) = rw q at w.alive in record { it = a; alive = al; joined = rw (A.alone a al (other_side (other_side s))) at (rw q at j) }
        by (row c) q true g m = let lc : 0 < size G (row c) = rw q at w.alive in absurd (omega (arith, m, ap M.own_level q, A.row_level c lc, A.edge_level e))
        by (row c) q false g m =
            let lc : 0 < size G (row c) = rw q at w.alive in
            let fin : M.finished s (row c) ≡ false = ap (λ t. M.finished t (row c)) (sym (double s)) ∙ ap (M.finished (other_side (other_side s))) (sym q) ∙ g in
            let jt = joined-tip N (other_side s) _ _ real (end-real C (other_side (other_side s)) w.heir w.alive) j in
            let at : tip sh s (G.end s (row c)) ≡ tip sh (other_side s) e = ap (λ t. tip sh t (G.end t (row c))) (sym (double s)) ∙ ap (λ o. tip sh (other_side (other_side s)) (G.end (other_side (other_side s)) o)) (sym q) ∙ jt in
            absurd (none c lc (omega (arith, m, ap M.own_level q, A.edge_level e)) fin at)

    abbrev f : ℕ
    f = partner.it

    f-real : f < sh.list.edges
    f-real = rw (A.alone f partner.alive s) at (end-real C s (edge f) partner.alive)

    -- it passes, and climbs on the other side
    f-start : tip sh s f ≡ tip sh (other_side s) e
    f-start = ap (λ t. tip sh t f) (sym (double s)) ∙ joined-tip N (other_side s) e f real f-real partner.joined

    module _ (top : tip sh s e ≡ p) where
      f-high : height sh p ≤ height sh (tip sh (other_side s) f)
      f-high = A.high f partner.alive (other_side s) (omega (arith, ap (λ t. height sh (tip sh t f)) (double s), ap (height sh) f-start, climbs, ap (height sh) top))

      f-climbs : Climbs sh (other_side s) f
      f-climbs = omega (arith, f-high, ap (λ t. height sh (tip sh t f)) (double s), ap (height sh) f-start, climbs, ap (height sh) top)

      f-passes : passes sh p f ≡ true
      f-passes = passes-to sh (other_side s) p f (omega (arith, ap (λ t. height sh (tip sh t f)) (double s), ap (height sh) f-start, climbs, ap (height sh) top)) f-high

      e-passes : passes sh p e ≡ true
      e-passes = passes-to sh s p e (omega (arith, climbs, ap (height sh) top)) (omega (arith, ap (height sh) top))

      not-e : f ≡ e → ⊥
      not-e q = omega (arith, climbs, f-climbs, ap (λ i. height sh (tip sh (other_side s) i)) q, ap (λ i. height sh (tip sh s i)) q, ap (λ t. height sh (tip sh t f)) (double s))

      reached-too : (t : Side) (c : ℕ) → t ≡ other_side s → Beyond N C S A t (row c) (edge f) → ⊥
      reached-too t c q h =
          let u : Beyond N C S A (other_side s) (row c) (edge f) = rw q at h in
          let ju : Joined sh (other_side s) (G.end (other_side s) (row c)) f = rw (A.alone f partner.alive (other_side (other_side s))) at u.2 in
          not-on-row e l (other_side s) c u.0 (joined-one N (other_side s) _ e f (end-real C (other_side s) (row c) u.0) real ju partner.joined)

      pub unreached-partner : (j b : ℕ) → Rel N C S A j b f → ⊥
      unreached-partner j b r = let w = last_row r.1.0 f partner.alive r.1.1 b refl in reached-too r.1.0 w.0 (climbs-one sh (other_side s) r.1.0 f f-climbs r.1.2) w.1

      abbrev left : ℕ → Bool
      left = without (without (passes sh p) e) f

      two-less : count (passes sh p) sh.list.edges ≡ suc (suc (count left sh.list.edges))
      two-less = count-without (passes sh p) e sh.list.edges real e-passes ∙ ap suc (count-without (without (passes sh p) e) f sh.list.edges f-real (without-there (passes sh p) e f not-e ∙ f-passes))

      -- the edge itself and its partner pass
      pub two-pass : 2 ≤ count (passes sh p) sh.list.edges
      two-pass = omega (arith, two-less)

      -- the names of live rows of a level are fewer by two than the edges that pass
      pub rows-less : (n l : ℕ) (test : ℕ → Bool) (name : ℕ → ℕ) → ((r : ℕ) → r < n → test r ≡ true → (b : ℕ) × (name b ≡ r) × (0 < size G (row b)) × (M.own_level (row b) ≡ l)) → count test n + 2 ≤ count (passes sh p) sh.list.edges
      rows-less n l test name live = omega (arith, two-less, pigeon R one_to_one test left n sh.list.edges give)
        where
          R : ℕ → ℕ → Type 0
          R r x = (b : ℕ) × (name b ≡ r) × Rel N C S A l b x

          one_to_one : (q r x : ℕ) → R q x → R r x → q ≡ r
          one_to_one q r x a b = sym a.1 ∙ ap name (rel-one N C S A l a.0 b.0 x a.2 b.2) ∙ b.1

          give : (r : ℕ) → r < n → test r ≡ true → (x : ℕ) × (x < sh.list.edges) × (left x ≡ true) × R r x
          give r h u =
              let v = live r h u in
              let w = reaches N C S A l v.0 v.2 v.3 in
              let ne : w.0 ≡ e → ⊥ = λ q. unreached l v.0 (rw q at w.3) in
              let nf : w.0 ≡ f → ⊥ = λ q. unreached-partner l v.0 (rw q at w.3) in
              (w.0, w.1, without-there (without (passes sh p) e) f w.0 nf ∙ without-there (passes sh p) e w.0 ne ∙ w.2, (v.0, v.1, w.3))

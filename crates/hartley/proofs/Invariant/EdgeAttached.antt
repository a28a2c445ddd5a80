-- An edge of some level put to the side of a row where step 1 says, and what step 4 makes of it: the invariant again, with the two ends that meet finished
-- or with no end met.
use mathlib.Core.Path.{◌≡◌, refl, ap, sym, ◌∙◌}
use mathlib.Core.Bool.{Bool, true, false}
use mathlib.Core.Logic.{◌⊎◌, inl, inr, ⊎_elim}
use Prim.Native.Nat.{ℕ, suc, ◌^◌, ◌≤◌, ◌<◌}
use native.Mathlib.Omega.{arith}
use Rattle.laws.proofs.Deciding.{not-both}
use Rattle.sheet.specs.Corners.{apart}
use Rattle.steps.specs.declared.Side.{Side}
use Rattle.steps.specs.declared.Side.TheVariants.{Rising, Falling}
use Rattle.steps.specs.Rows.{other_side}
use Rattle.hartley.proofs.Paths.Plan.{Plan, Lawful, height, tip, Climbs, Joined, joined-tip, level-never}
use Rattle.hartley.proofs.Paths.Paths.{Owner, edge, row, same?, on, Paths, size, Chain}
use Rattle.hartley.proofs.Paths.PathGrown.{grow, Links, Was, of-this, of-child, of_other, grow-chain, grow-outs, grow-length, grow-behind, grow-size, grow-end, grow-far, grow-fresh, grow-rest, grow-gone, grow-was}
use Rattle.hartley.proofs.Seams.Seams.{Marks, Seams, finish, end-real, end-spot, both-sides, seams-unmet, seams-met}
use Rattle.hartley.proofs.Seams.FoundIsJoined.{UpTo, found-joins}
use Rattle.hartley.proofs.Invariant.Invariant.{LocalAt, Time, Frame, side-cases, single, frame_at, big, finish-frame}

-- an edge of some level in hand, that climbs on the side up to p
pub record InHand (sh : Plan) (p m : ℕ) (G : Paths) (M : Marks) (s : Side) (x : Owner) : Type 0 where
  pub live : 0 < size G x
  pub both_finished : (t : Side) → M.finished t x ≡ true
  pub climbs : Climbs sh s (G.end s x)
  pub top : tip sh s (G.end s x) ≡ p
  pub bottom : height sh (tip sh (other_side s) (G.end (other_side s) x)) < height sh p
  pub mine : (a : ℕ) → x ≡ edge a → a < m

-- the row of step 1: new, and no branch ends where the edge starts; or its branch ends there
abbrev pub Place : Plan → Paths → Marks → Side → Owner → Owner → Type 0
Place sh G M s x z =
    ((size G z ≡ 0) × (M.finished (other_side s) z ≡ false) × ((w : Owner) → 0 < size G w → M.finished s w ≡ false → M.own_level w ≡ suc (M.own_level x) → tip sh s (G.end s w) ≡ tip sh (other_side s) (G.end (other_side s) x) → ⊥))
    ⊎ ((0 < size G z) × (tip sh s (G.end s z) ≡ tip sh (other_side s) (G.end (other_side s) x)))

climbs-to : {sh : Plan} → Lawful sh → (s : Side) (f p : ℕ) → f < sh.list.edges → tip sh (other_side s) f ≡ p → ((t : Side) → height sh (tip sh t f) ≤ height sh p) → Climbs sh (other_side s) f
climbs-to {sh} N Rising f p l q h = omega (arith, h Rising, ap (height sh) q, level-never N Falling f l)
climbs-to {sh} N Falling f p l q h = omega (arith, h Falling, ap (height sh) q, level-never N Rising f l)

module _ {sh : Plan} (N : Lawful sh) {p m : ℕ} (E : Time sh p m) {G : Paths} {M : Marks} (F : Frame sh p m G M) (S : Seams sh G M) (s : Side)
    (x : Owner) (b : ℕ) (U : InHand sh p m G M s x) (n : x ≡ row b → ⊥) (unfinished : M.finished s (row b) ≡ false) (up : M.own_level (row b) ≡ suc (M.own_level x)) (slot : Place sh G M s x (row b)) where
  abbrev z : Owner
  z = row b

  abbrev C : Chain sh G
  C = F.chain

  abbrev H : Paths
  H = grow s G x z

  of-x : UpTo N C S (frame_at N E F) s x
  of-x e h =
      let k : G.end s x ≡ e = ap (G.end s) h ∙ single N E F e (rw h at U.live) s in
      (rw k at U.climbs, rw k at U.top)

  pub links : Links C x z n U.live s
  links l = ⊎_elim (λ h. absurd (omega (arith, h.0))) (λ h. found-joins N C S (frame_at N E F) s x b U.live h.0 (U.both_finished (other_side s)) unfinished up h.1 of-x) slot

  pub in-hand : (e i : ℕ) → G.spot e ≡ on x i → e < m
  in-hand e i h = by x refl h
    where
      by : (y : Owner) → x ≡ y → G.spot e ≡ on y i → e < m
      by (row c) q h = F.of_row e c i h
      by (edge a) q h = omega (arith, U.mine a q, (F.of_edge e a i h).0)

  D : Chain sh H
  D = grow-chain C x z n U.live s links

  pub alive : 0 < size H z
  alive = omega (arith, grow-size C x z n U.live s links, U.live)

  pub not-x : (y : Owner) → 0 < size H y → y ≡ x → ⊥
  not-x y l e = omega (arith, ap (size H) e, grow-gone C x z n U.live s links)

  pub rest : (y : Owner) → (y ≡ z → ⊥) → (y ≡ x → ⊥) → ((t : Side) → H.length t y ≡ G.length t y) × ((t : Side) → H.end t y ≡ G.end t y) × (size H y ≡ size G y)
  rest = grow-rest C x z n U.live s links

  weighs : (k : ℕ) → M.own_level z ≡ suc k → 2 ^ k ≤ size G x
  weighs k h = let e : M.own_level x ≡ k = omega arith in rw e at (big N E F x U.live U.both_finished)

  open-end : {P : Type 0} → M.finished s z ≡ true → P
  open-end h = absurd (not-both h unfinished)

  -- the row after it: its branch on the side is longer, its other branch as it was, or empty below p
  local-z : LocalAt sh p H M z
  local-z = ⊎_elim
      (λ h. record {
        positive = omega arith;
        peaked = side-cases (λ t. M.finished t z ≡ true → Climbs sh t (H.end t z) × (0 < H.length t z) × (apart sh.list (tip sh t (H.end t z)) ≡ false)) s (λ q. open-end q) (λ q. absurd (not-both q h.1));
        ready = λ f. open-end (f s);
        heavy = λ t k q. side-cases (λ t. ((H.length t z ≡ 0) × (height sh (tip sh t (H.end t z)) < height sh p)) ⊎ (2 ^ k ≤ H.length t z)) s (longer k q)
            (inl (grow-behind C x z n U.live s ∙ empty h.0 (other_side s), rw (grow-fresh C x z n U.live s links h.0) U.bottom)) t;
      })
      (λ h. let L = F.local b h.0 in record {
        positive = omega arith;
        peaked = side-cases (λ t. M.finished t z ≡ true → Climbs sh t (H.end t z) × (0 < H.length t z) × (apart sh.list (tip sh t (H.end t z)) ≡ false)) s (λ q. open-end q)
            (λ q. rw (grow-far C x z n U.live s links h.0, grow-behind C x z n U.live s) (L.peaked (other_side s) q));
        ready = λ f. open-end (f s);
        heavy = λ t k q. side-cases (λ t. ((H.length t z ≡ 0) × (height sh (tip sh t (H.end t z)) < height sh p)) ⊎ (2 ^ k ≤ H.length t z)) s (longer k q)
            (rw (grow-far C x z n U.live s links h.0, grow-behind C x z n U.live s) (L.heavy (other_side s) k q)) t;
      })
      slot
    where
      longer : (k : ℕ) → M.own_level z ≡ suc k → ((H.length s z ≡ 0) × (height sh (tip sh s (H.end s z)) < height sh p)) ⊎ (2 ^ k ≤ H.length s z)
      longer k q = inr (omega (arith, weighs k q, grow-length C x z n U.live s))

      empty : size G z ≡ 0 → (t : Side) → G.length t z ≡ 0
      empty h Rising = unfold size in omega (arith, h)
      empty h Falling = unfold size in omega (arith, h)

  same-local : (c : ℕ) → (row c ≡ z → ⊥) → 0 < size H (row c) → LocalAt sh p H M (row c)
  same-local c d h =
      let v = rest (row c) d (not-x (row c) h) in
      let K = F.local c (omega (arith, v.2)) in
      record { positive = K.positive; peaked = λ t q. rw (v.0 t, v.1 t) (K.peaked t q); ready = λ f. let r = K.ready f in (r.0, rw (v.1 r.0) r.1); heavy = λ t k q. rw (v.0 t, v.1 t) (K.heavy t k q) }

  pub attach-frame : Frame sh p m H M
  attach-frame = record {
    chain = D;
    outs = grow-outs C x z n U.live s F.outs;
    local = λ c h. by c h (same? (row c) z);
    of_row = λ e c i h. row_of e c i (grow-was C x z n U.live s links e (row c) i h);
    of_edge = λ e a i h. edge_of e a i (grow-was C x z n U.live s links e (edge a) i h);
    lone = λ a h. let v = rest (edge a) (λ q. let c : ◌≡◌ {A = ℕ} 0 1 = cc in omega arith) (not-x (edge a) h) in let o = F.lone a (omega (arith, v.2)) in (v.0 Falling ∙ o.0, v.0 Rising ∙ o.1);
    edge_level = F.edge_level;
    edge_finished = F.edge_finished;
  }
    where
      by : (c : ℕ) → 0 < size H (row c) → Dec (row c ≡ z) → LocalAt sh p H M (row c)
      by c h (yes e) = rw e local-z
      by c h (no e) = same-local c e h

      row_of : (e c i : ℕ) → Was G x z e (row c) i → e < m
      row_of e c i (of-this q j w) = F.of_row e b j w
      row_of e c i (of-child q j w) = in-hand e j w
      row_of e c i (of_other u v w) = F.of_row e c i w

      edge_of : (e a i : ℕ) → Was G x z e (edge a) i → (a ≡ e) × (m ≤ suc e)
      edge_of e a i (of-this q j w) = let c : ◌≡◌ {A = ℕ} 0 1 = cc in absurd (omega arith)
      edge_of e a i (of-child q j w) = let c : ◌≡◌ {A = ℕ} 0 1 = cc in absurd (omega arith)
      edge_of e a i (of_other u v w) = F.of_edge e a i w

  -- its ends do not join each other: its bottom is below p
  ends-apart : (t : Side) → Joined sh t (G.end t x) (G.end (other_side t) x) → tip sh (other_side t) (G.end (other_side t) x) ≡ tip sh t (G.end t x)
  ends-apart t j = joined-tip N t _ _ (end-real C t x U.live) (end-real C (other_side t) x U.live) j

  no_loop : Joined sh s (G.end s x) (G.end (other_side s) x) → ⊥
  no_loop j = omega (arith, ap (height sh) (ends-apart s j ∙ U.top), U.bottom)

  fresh-slot : size G z ≡ 0 → (M.finished (other_side s) z ≡ false) × ((w : Owner) → 0 < size G w → M.finished s w ≡ false → M.own_level w ≡ suc (M.own_level x) → Joined sh s (G.end s w) (G.end (other_side s) x) → ⊥)
  fresh-slot d = ⊎_elim
      (λ h. (h.1, λ w l f e j. h.2 w l f e (sym (joined-tip N s _ _ (end-real C s w l) (end-real C (other_side s) x U.live) j))))
      (λ h. absurd (omega (arith, h.0)))
      slot

  at_top : tip sh s (H.end s z) ≡ p
  at_top = rw (grow-end C x z n U.live s links) U.top

  climbs-z : Climbs sh s (H.end s z)
  climbs-z = rw (grow-end C x z n U.live s links) U.climbs

  -- no row met
  pub attach-unmet : ((y : Owner) → 0 < size H y → apart sh.list p ≡ false → M.finished (other_side s) y ≡ false → M.own_level y ≡ suc (M.own_level x) → tip sh (other_side s) (H.end (other_side s) y) ≡ tip sh s (H.end s z) → ⊥) → Seams sh H M
  attach-unmet none = both-sides N D attach-frame.outs s (seams-unmet N C S x z n U.live s links D no_loop U.both_finished unfinished up fresh-slot (λ y l f e j. by y l f e j (apart sh.list p) refl))
    where
      meets : (y : Owner) → 0 < size H y → Joined sh s (H.end s z) (H.end (other_side s) y) → tip sh (other_side s) (H.end (other_side s) y) ≡ tip sh s (H.end s z)
      meets y l j = joined-tip N s _ _ (end-real D s z alive) (end-real D (other_side s) y l) j

      by : (y : Owner) → 0 < size H y → M.finished (other_side s) y ≡ false → M.own_level y ≡ suc (M.own_level x) → Joined sh s (H.end s z) (H.end (other_side s) y) → (o : Bool) → apart sh.list p ≡ o → ⊥
      by y l f e j false o = none y l o f e (meets y l j)
      by (edge a) l f e j true o = not-both (F.edge_finished a (other_side s)) f
      by (row c) l f e j true o =
          let w = end-spot D (other_side s) (row c) l in
          let u : Climbs sh s (H.end (other_side s) (row c)) = N.split s _ _ (end-real D s z alive) (end-real D (other_side s) (row c) l) climbs-z (rw at_top o) j in
          omega (arith, u, ap (height sh) (meets (row c) l j ∙ at_top), E.low _ (attach-frame.of_row _ c w.0 w.1) s)

  -- a row met: the two ends are finished
  pub attach-met : apart sh.list p ≡ false → (q : ℕ) → 0 < size H (row q) → M.own_level (row q) ≡ suc (M.own_level x) → tip sh (other_side s) (H.end (other_side s) (row q)) ≡ tip sh s (H.end s z)
      → Frame sh p m H (finish s M z (row q)) × Seams sh H (finish s M z (row q))
  attach-met o q lq lv t =
      let w = end-spot D (other_side s) (row q) lq in
      let rq = end-real D (other_side s) (row q) lq in
      let k : Climbs sh (other_side s) (H.end (other_side s) (row q)) = climbs-to N s _ p rq (t ∙ at_top) (E.low _ (attach-frame.of_row _ q w.0 w.1)) in (
        finish-frame N E attach-frame o s b q (climbs-z, at_top) (k, t ∙ at_top),
        both-sides N D attach-frame.outs s (seams-met N C S x z n U.live s links D no_loop U.both_finished unfinished up fresh-slot (row q) lq lv (N.peak s _ _ (end-real D s z alive) rq climbs-z k t (rw at_top o))),
      )

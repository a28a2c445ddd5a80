-- Where one path ends another begins, and their levels and finished ends agree. The seam is kept for both sides: beyond a live owner's end on a side lies the other
-- end of a live owner, its heir there. What lies beyond is always such an end, so the seams of one side are those of the other (`both-sides`), and a step that
-- lengthens a branch needs to look at its own side only.
use mathlib.Core.Path.{◌≡◌, refl, ap, sym, ◌∙◌}
use mathlib.Core.Bool.{Bool, true, false}
use mathlib.Core.Logic.{⊎_elim}
use Prim.Native.Nat.{ℕ, zero, suc, ◌-◌, ◌<◌}
use native.Mathlib.Decide.{ℕ_discrete}
use native.Mathlib.Omega.{arith}
use Rattle.steps.specs.declared.Side.{Side}
use Rattle.steps.specs.declared.Side.TheVariants.{Rising, Falling}
use Rattle.steps.specs.Rows.{other_side}
use Rattle.hartley.proofs.Paths.Plan.{Plan, Lawful, Joined, joined-one}
use Rattle.hartley.proofs.Paths.DownLaw.{pick}
use Rattle.hartley.proofs.Paths.Paths.{Owner, same?, Spot, on, out, off, Paths, size, Chain, first-real, last-real, pick_yes, pick_no}
use Rattle.hartley.proofs.Paths.Outlines.{Outs}
use Rattle.hartley.proofs.Paths.PathGrown.{grow, Links, grow-end, grow-far, grow-fresh, grow-rest, grow-gone, grow-size}

-- an edge not yet treated has own level 0 and both ends finished, a row of level j has own level j + 1
pub record Marks : Type 0 where
  pub own_level : Owner → ℕ
  pub finished : Side → Owner → Bool

-- two ends that are to be joined: both finished at one level, or one a level up and unfinished
abbrev pub Meet : Bool → Bool → ℕ → ℕ → Type 0
Meet true true a b = a ≡ b
Meet true false a b = b ≡ suc a
Meet false true a b = a ≡ suc b
Meet false false a b = ⊥

pub meet-flip : (a b : Bool) (l m : ℕ) → Meet a b l m → Meet b a m l
meet-flip true true l m h = sym h
meet-flip true false l m h = h
meet-flip false true l m h = h
meet-flip false false l m h = h

-- an unfinished end meets a finished one of one level less
pub meet-false : (b : Bool) (l m : ℕ) → Meet false b l m → (b ≡ true) × (l ≡ suc m)
meet-false true l m h = (refl, h)
meet-false false l m h = absurd h

meet-open : (b : Bool) (l m : ℕ) → (b ≡ false → l ≡ suc m → ⊥) → Meet b true l m → Meet b false l (suc m)
meet-open true l m h e = ap suc (sym e)
meet-open false l m h e = h refl e

meet-tight : (b : Bool) (l m : ℕ) → (b ≡ false → m ≡ suc l → ⊥) → Meet true b l m → Meet false b (suc l) m
meet-tight true l m h e = ap suc e
meet-tight false l m h e = h refl e

pub record Seam (sh : Plan) (s : Side) (G : Paths) (M : Marks) (w : Owner) : Type 0 where
  pub heir : Owner
  pub alive : 0 < size G heir
  pub joined : Joined sh s (G.end s w) (G.end (other_side s) heir)
  pub meet : Meet (M.finished s w) (M.finished (other_side s) heir) (M.own_level w) (M.own_level heir)

abbrev pub SeamsOn : Plan → Side → Paths → Marks → Type 0
SeamsOn sh s G M = (w : Owner) → 0 < size G w → Seam sh s G M w

abbrev pub Seams : Plan → Paths → Marks → Type 0
Seams sh G M = (s : Side) → SeamsOn sh s G M

-- ends of paths
module _ {sh : Plan} {G : Paths} (C : Chain sh G) where
  pub end-real : (s : Side) (x : Owner) → 0 < size G x → G.end s x < sh.list.edges
  end-real Rising x l = last-real C x l
  end-real Falling x l = first-real C x l

  pub end-spot : (s : Side) (x : Owner) → 0 < size G x → (i : ℕ) × (G.spot (G.end s x) ≡ on x i)
  end-spot Rising x l = (size G x - 1, C.last x (size G x - 1) (omega arith))
  end-spot Falling x l = (0, C.first x l)

  pub one_end : (s : Side) (x y : Owner) → 0 < size G x → 0 < size G y → G.end s x ≡ G.end s y → x ≡ y
  one_end s x y l l' e =
      let a = end-spot s x l in
      let b = end-spot s y l' in
      let q : on x a.0 ≡ on y b.0 = sym a.1 ∙ ap G.spot e ∙ b.1 in
      cc

  -- no two owners have one heir
  pub one-heir : Lawful sh → (s : Side) (w w' : Owner) (f : ℕ) → 0 < size G w → 0 < size G w' → Joined sh s (G.end s w) f → Joined sh s (G.end s w') f → w ≡ w'
  one-heir N s w w' f l l' a b = one_end s w w' l l' (joined-one N s _ _ f (end-real s w l) (end-real s w' l') a b)

  -- an edge of a path, at any index
  pub walk-path : (y : Owner) (i : ℕ) → i < size G y → (e : ℕ) × (G.spot e ≡ on y i)
  walk-path y zero h = (G.end Falling y, C.first y h)
  walk-path y (suc i) h = let w = walk-path y i (omega arith) in (sh.next w.0, C.follow w.0 y i w.1 h)

pub walk-out : {sh : Plan} {G : Paths} {m : ℕ} → Outs sh m G → (k i : ℕ) → k < G.rounds.count → i < G.rounds.edges_in k → (e : ℕ) × (G.spot e ≡ out k i)
walk-out {G = G} O k zero l h = (G.rounds.lead k, O.first k l)
walk-out {sh} O k (suc i) l h = let w = walk-out O k i l (omega arith) in (sh.next w.0, O.follow w.0 k i w.1 h)

-- beyond an end lies another
module _ {sh : Plan} (N : Lawful sh) {G : Paths} (C : Chain sh G) where
  abbrev Beyond : Side → Owner → Type 0
  Beyond s y = (w : Owner) × (0 < size G w) × Joined sh s (G.end s y) (G.end (other_side s) w)

  before-first : (y : Owner) → 0 < size G y → Beyond Falling y
  before-first y l = by (G.spot a) refl
    where
      a : ℕ
      a = sh.prev (G.end Falling y)

      b : (a < sh.list.edges) × (sh.next a ≡ G.end Falling y)
      b = N.before (G.end Falling y) (first-real C y l)

      after : G.spot (sh.next a) ≡ on y 0
      after = ap G.spot b.1 ∙ C.first y l

      by : (t : Spot) → G.spot a ≡ t → Beyond Falling y
      by (out k i) q = ⊎_elim (λ h. let z : ◌≡◌ {A = ℕ} 0 1 = cc (h, after) in absurd (omega arith)) (λ h. let z : ◌≡◌ {A = ℕ} 0 1 = cc (h, after) in absurd (omega arith)) (C.around a k i q)
      by (off k) q = absurd (omega (arith, C.void a k q, b.0))
      by (on w i) q = last (ℕ_discrete (suc i) (size G w))
        where
          last : Dec (suc i ≡ size G w) → Beyond Falling y
          last (no u) = let h = C.follow a w i q (omega (arith, C.within a w i q)) in let z : suc i ≡ 0 = cc (h, after) in absurd (omega arith)
          last (yes u) = (w, omega arith, ap sh.next (C.once _ _ (C.last w i u ∙ sym q)) ∙ b.1)

  after_last : {m : ℕ} → Outs sh m G → (w : Owner) → 0 < size G w → Beyond Rising w
  after_last O w l = by (G.spot a) refl
    where
      a : ℕ
      a = sh.next (G.end Rising w)

      lr : G.end Rising w < sh.list.edges
      lr = last-real C w l

      at-end : G.spot (G.end Rising w) ≡ on w (size G w - 1)
      at-end = C.last w (size G w - 1) (omega arith)

      -- an edge whose next is this one is the last of w
      it : (e : ℕ) → e < sh.list.edges → G.spot (sh.next e) ≡ G.spot a → e ≡ G.end Rising w
      it e h q = N.one_to_one e (G.end Rising w) h lr (C.once _ _ q)

      by : (t : Spot) → G.spot a ≡ t → Beyond Rising w
      by (off k) q = absurd (omega (arith, C.void a k q, N.inside (G.end Rising w) lr))
      by (on y zero) q = let ly = C.within a y 0 q in (y, ly, C.once _ _ (q ∙ sym (C.first y ly)))
      by (on y (suc i)) q =
          let h = C.within a y (suc i) q in
          let v = walk-path C y i (omega arith) in
          let e = it v.0 (C.real _ y i v.1) (C.follow v.0 y i v.1 h ∙ sym q) in
          let u : on y i ≡ on w (size G w - 1) = sym v.1 ∙ ap G.spot e ∙ at-end in
          let c : y ≡ w = cc in
          let d : i ≡ size G w - 1 = cc in
          absurd (omega (arith, ap (size G) c))
      by (out k zero) q =
          let h = O.within a k 0 q in
          let u = O.last k (G.rounds.edges_in k - 1) h.0 (omega arith) in
          let c = O.real (G.rounds.rear k) k (G.rounds.edges_in k - 1) u in
          let e = it (G.rounds.rear k) c (ap G.spot (O.wrap k h.0) ∙ O.first k h.0 ∙ sym q) in
          let f = ap G.spot e in
          let z : ◌≡◌ {A = ℕ} 0 1 = cc (u, f, at-end) in absurd (omega arith)
      by (out k (suc i)) q =
          let h = O.within a k (suc i) q in
          let v = walk-out O k i h.0 (omega arith) in
          let c = O.real v.0 k i v.1 in
          let e = it v.0 c (O.follow v.0 k i v.1 h.1 ∙ sym q) in
          let f = ap G.spot e in
          let g = v.1 in
          let z : ◌≡◌ {A = ℕ} 0 1 = cc (g, f, at-end) in absurd (omega arith)

  pub both-sides : {M : Marks} {m : ℕ} → Outs sh m G → (s : Side) → SeamsOn sh s G M → Seams sh G M
  both-sides O Rising S Rising y l = S y l
  both-sides O Falling S Falling y l = S y l
  both-sides {M} O Rising S Falling y l =
      let b = before-first y l in
      let t = S b.0 b.1 in
      let e : t.heir ≡ y = one_end C Falling t.heir y t.alive l (sym t.joined ∙ b.2) in
      record { heir = b.0; alive = b.1; joined = b.2; meet = meet-flip (M.finished Rising b.0) _ _ _ (rw e at t.meet) }
  both-sides {M} O Falling S Rising y l =
      let b = after_last O y l in
      let t = S b.0 b.1 in
      let e : t.heir ≡ y = one_end C Rising t.heir y t.alive l (N.one_to_one _ _ (last-real C t.heir t.alive) (last-real C y l) (t.joined ∙ sym b.2)) in
      record { heir = b.0; alive = b.1; joined = b.2; meet = meet-flip (M.finished Falling b.0) _ _ _ (rw e at t.meet) }

unfoldable pub finished_now : {P Q : Type 0} → Side → Side → Dec P → Dec Q → Bool → Bool
finished_now Rising Rising d d' b = pick d true b
finished_now Rising Falling d d' b = pick d' true b
finished_now Falling Falling d d' b = pick d true b
finished_now Falling Rising d d' b = pick d' true b

-- two ends that meet are finished: that of z on the side, and that of q on the other
abbrev pub finish : Side → Marks → Owner → Owner → Marks
finish s M z q = record { own_level = M.own_level; finished = λ t y. finished_now s t (same? y z) (same? y q) (M.finished t y) }

module _ (M : Marks) (z q : Owner) where
  fin-at : (s : Side) → (finish s M z q).finished s z ≡ true
  unfolding finished_now
  fin-at Rising = pick_yes (same? z z) _ _ refl
  fin-at Falling = pick_yes (same? z z) _ _ refl

  foe-at : (s : Side) → (finish s M z q).finished (other_side s) q ≡ true
  unfolding finished_now
  foe-at Rising = pick_yes (same? q q) _ _ refl
  foe-at Falling = pick_yes (same? q q) _ _ refl

  fin-off : (s : Side) (w : Owner) → (w ≡ z → ⊥) → (finish s M z q).finished s w ≡ M.finished s w
  unfolding finished_now
  fin-off Rising w d = pick_no (same? w z) _ _ d
  fin-off Falling w d = pick_no (same? w z) _ _ d

  foe-off : (s : Side) (w : Owner) → (w ≡ q → ⊥) → (finish s M z q).finished (other_side s) w ≡ M.finished (other_side s) w
  unfolding finished_now
  foe-off Rising w d = pick_no (same? w q) _ _ d
  foe-off Falling w d = pick_no (same? w q) _ _ d

-- x put to the side s of z: what it does to the seams
module _ {sh : Plan} (N : Lawful sh) {G : Paths} {M : Marks} (C : Chain sh G) (S : Seams sh G M) (x z : Owner) (n : x ≡ z → ⊥) (live : 0 < size G x) (s : Side) (link : Links C x z n live s) (D : Chain sh (grow s G x z))
    (ends : Joined sh s (G.end s x) (G.end (other_side s) x) → ⊥) (all_finished : (t : Side) → M.finished t x ≡ true) (unfinished : M.finished s z ≡ false) (up : M.own_level z ≡ suc (M.own_level x))
    (fresh : size G z ≡ 0 → (M.finished (other_side s) z ≡ false) × ((w : Owner) → 0 < size G w → M.finished s w ≡ false → M.own_level w ≡ suc (M.own_level x) → Joined sh s (G.end s w) (G.end (other_side s) x) → ⊥)) where
  abbrev H : Paths
  H = grow s G x z

  alive-z : 0 < size H z
  alive-z = omega (arith, grow-size C x z n live s link)

  not-x : (y : Owner) → 0 < size H y → y ≡ x → ⊥
  not-x y l e = omega (arith, ap (size H) e, grow-gone C x z n live s link)

  kept : (y : Owner) → (y ≡ x → ⊥) → 0 < size G y → (H.end (other_side s) y ≡ G.end (other_side s) y) × (0 < size H y)
  kept y d l = by (same? y z)
    where
      by : Dec (y ≡ z) → (H.end (other_side s) y ≡ G.end (other_side s) y) × (0 < size H y)
      by (yes q) = let lz : 0 < size G z = rw q at l in rw q (grow-far C x z n live s link lz, alive-z)
      by (no q) = let r = grow-rest C x z n live s link y q d in (r.1 (other_side s), omega (arith, r.2))

  seam-other : (w : Owner) → (w ≡ z → ⊥) → 0 < size H w → Seam sh s H M w
  seam-other w wz lw = by (same? t.heir x)
    where
      r : ((t : Side) → H.length t w ≡ G.length t w) × ((t : Side) → H.end t w ≡ G.end t w) × (size H w ≡ size G w)
      r = grow-rest C x z n live s link w wz (not-x w lw)

      lg : 0 < size G w
      lg = omega (arith, r.2)

      t : Seam sh s G M w
      t = S s w lg

      by : Dec (t.heir ≡ x) → Seam sh s H M w
      by (no q) = let k = kept t.heir q t.alive in record { heir = t.heir; alive = k.1; joined = rw (r.1 s, k.0) t.joined; meet = t.meet }
      by (yes q) =
          let j : Joined sh s (G.end s w) (G.end (other_side s) x) = rw q at t.joined in
          new j (ℕ_discrete (size G z) 0)
        where
          new : Joined sh s (G.end s w) (G.end (other_side s) x) → Dec (size G z ≡ 0) → Seam sh s H M w
          new j (yes d) = let f = fresh d in record { heir = z; alive = alive-z; joined = rw (r.1 s, grow-fresh C x z n live s link d) j; meet = rw (f.0, up) (meet-open (M.finished s w) _ _ (λ a b. f.1 w lg a b j) (rw (q, all_finished (other_side s)) at t.meet)) }
          new j (no d) = let lz : 0 < size G z = omega arith in absurd (wz (one-heir C N s w z _ lg lz j (link lz)))

  -- the end just lengthened, before its match is looked for
  loose : (y : Owner) × (0 < size H y) × Joined sh s (H.end s z) (H.end (other_side s) y) × Meet true (M.finished (other_side s) y) (M.own_level x) (M.own_level y)
  loose = by (same? t.heir x)
    where
      t : Seam sh s G M x
      t = S s x live

      by : Dec (t.heir ≡ x) → (y : Owner) × (0 < size H y) × Joined sh s (H.end s z) (H.end (other_side s) y) × Meet true (M.finished (other_side s) y) (M.own_level x) (M.own_level y)
      by (yes q) = absurd (ends (rw q at t.joined))
      by (no q) = let k = kept t.heir q t.alive in (t.heir, k.1, rw (grow-end C x z n live s link, k.0) t.joined, rw (all_finished s) at t.meet)

  pub seams-unmet : ((y : Owner) → 0 < size H y → M.finished (other_side s) y ≡ false → M.own_level y ≡ suc (M.own_level x) → Joined sh s (H.end s z) (H.end (other_side s) y) → ⊥) → SeamsOn sh s H M
  seams-unmet none w lw = by (same? w z)
    where
      by : Dec (w ≡ z) → Seam sh s H M w
      by (no p) = seam-other w p lw
      by (yes p) = rw p (let o = loose in record { heir = o.0; alive = o.1; joined = o.2; meet = rw (unfinished, up) (meet-tight (M.finished (other_side s) o.0) _ _ (λ a b. none o.0 o.1 a b o.2) o.3) })

  pub seams-met : (q : Owner) → 0 < size H q → M.own_level q ≡ suc (M.own_level x) → Joined sh s (H.end s z) (H.end (other_side s) q) → SeamsOn sh s H (finish s M z q)
  seams-met q lq eq join w lw = by (same? w z)
    where
      by : Dec (w ≡ z) → Seam sh s H (finish s M z q) w
      by (yes p) = rw p (record { heir = q; alive = lq; joined = join; meet = rw (fin-at M z q s, foe-at M z q s) (up ∙ sym eq) })
      by (no p) =
          let t = seam-other w p lw in
          let d : t.heir ≡ q → ⊥ = λ e. p (one-heir D N s w z (H.end (other_side s) q) lw alive-z (rw e at t.joined) join) in
          record { heir = t.heir; alive = t.alive; joined = t.joined; meet = rw (fin-off M z q s w p, foe-off M z q s t.heir d) t.meet }

-- a path keeps to its film
module _ {sh : Plan} (N : Lawful sh) {G : Paths} (C : Chain sh G) where
  walk-film : (y : Owner) (i : ℕ) → i < size G y → (e : ℕ) × (G.spot e ≡ on y i) × (sh.list.film (sh.list.tail (G.end Falling y)) ≡ sh.list.film (sh.list.head e))
  walk-film y zero h = let s = C.first y h in (G.end Falling y, s, N.same_film _ (C.real _ y 0 s))
  walk-film y (suc i) h =
      let w = walk-film y i (omega arith) in
      let s = C.follow w.0 y i w.1 h in
      (sh.next w.0, s, w.2 ∙ ap sh.list.film (sym (N.joint w.0 (C.real _ y i w.1))) ∙ N.same_film _ (C.real _ y (suc i) s))

  pub one_film : (y : Owner) → 0 < size G y → sh.list.film (sh.list.tail (G.end Falling y)) ≡ sh.list.film (sh.list.head (G.end Rising y))
  one_film y h = let w = walk-film y (size G y - 1) (omega arith) in w.2 ∙ ap (λ e. sh.list.film (sh.list.head e)) (C.once _ _ (w.1 ∙ sym (C.last y (size G y - 1) (omega arith))))

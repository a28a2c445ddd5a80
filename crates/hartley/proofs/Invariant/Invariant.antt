-- The invariant of the sweep up but for the table: the paths and outlines, what each live row is like at the sweep's height, which edges are treated, and the
-- seams. What finishing two ends does to it, what follows from it, and what closing an outline does to it.
use mathlib.Core.Path.{◌≡◌, refl, ap, sym, ◌∙◌}
use mathlib.Core.Bool.{Bool, true, false}
use mathlib.Core.Logic.{◌⊎◌, inl, inr, ⊎_elim}
use Prim.Native.Nat.{ℕ, zero, suc, ◌-◌, ◌^◌, ◌≤◌, ◌<◌, max}
use native.Mathlib.Omega.{arith}
use lib.Pow.{pow_pos}
use Rattle.sheet.specs.Corners.{apart}
use Rattle.steps.specs.declared.Side.{Side}
use Rattle.steps.specs.declared.Side.TheVariants.{Rising, Falling}
use Rattle.steps.specs.Rows.{other_side}
use Rattle.hartley.proofs.Paths.Plan.{Plan, Lawful, height, tip, Climbs, Joined}
use Rattle.hartley.proofs.Paths.DownLaw.{pick}
use Rattle.hartley.proofs.Paths.Paths.{Owner, edge, row, same?, on, Paths, size, Chain, first-real, last-real, pick_no}
use Rattle.hartley.proofs.Paths.PathClosed.{closed, close-chain, size-other, origin_on, origin, live}
use Rattle.hartley.proofs.Paths.Outlines.{Outs, close-outs}
use Rattle.hartley.proofs.Seams.Seams.{Marks, Seam, Seams, finish, finished_now, end-real, end-spot, one-heir}
use Rattle.hartley.proofs.Seams.FoundIsJoined.{At}
use Rattle.hartley.proofs.Seams.LongOutline.{Heavy, Room, long}

-- of one live row, at the place p: its lengths and end edges, its own level, its finished ends
pub record Local (sh : Plan) (p : ℕ) (length end : Side → ℕ) (own_level : ℕ) (finished : Side → Bool) : Type 0 where
  pub positive : 1 ≤ own_level
  -- a finished end is the top of an edge that climbs, not at a place that is apart; both are finished only while one is at p
  pub peaked : (s : Side) → finished s ≡ true → Climbs sh s (end s) × (0 < length s) × (apart sh.list (tip sh s (end s)) ≡ false)
  pub ready : ((s : Side) → finished s ≡ true) → (s : Side) × (tip sh s (end s) ≡ p)
  -- a branch is empty with its tip below p, or has the edges of its level
  pub heavy : (s : Side) (k : ℕ) → own_level ≡ suc k → ((length s ≡ 0) × (height sh (tip sh s (end s)) < height sh p)) ⊎ (2 ^ k ≤ length s)

abbrev pub LocalAt : Plan → ℕ → Paths → Marks → Owner → Type 0
LocalAt sh p G M y = Local sh p (λ s. G.length s y) (λ s. G.end s y) (M.own_level y) (λ s. M.finished s y)

-- the edges below m are treated or the one in hand; the sweep is at p
pub record Time (sh : Plan) (p m : ℕ) : Type 0 where
  pub low : (e : ℕ) → e < m → (s : Side) → height sh (tip sh s e) ≤ height sh p
  pub hand : (i : ℕ) × (m ≡ suc i) × (i < sh.list.edges) × ((s : Side) × Climbs sh s i × (tip sh s i ≡ p))
  pub high : (e : ℕ) → m ≤ suc e → e < sh.list.edges → (s : Side) → height sh (tip sh (other_side s) e) < height sh p → height sh p ≤ height sh (tip sh s e)

-- all but the seams
pub record Frame (sh : Plan) (p m : ℕ) (G : Paths) (M : Marks) : Type 0 where
  pub chain : Chain sh G
  pub outs : Outs sh m G
  pub local : (b : ℕ) → 0 < size G (row b) → LocalAt sh p G M (row b)
  pub of_row : (e b i : ℕ) → G.spot e ≡ on (row b) i → e < m
  pub of_edge : (e a i : ℕ) → G.spot e ≡ on (edge a) i → (a ≡ e) × (m ≤ suc e)
  pub lone : (a : ℕ) → 0 < size G (edge a) → (G.length Falling (edge a) ≡ 0) × (G.length Rising (edge a) ≡ 1)
  pub edge_level : (a : ℕ) → M.own_level (edge a) ≡ 0
  pub edge_finished : (a : ℕ) (s : Side) → M.finished s (edge a) ≡ true

-- both sides
pub side-cases : (P : Side → Type 0) (s : Side) → P s → P (other_side s) → (t : Side) → P t
side-cases P Rising a b Rising = a
side-cases P Rising a b Falling = b
side-cases P Falling a b Falling = a
side-cases P Falling a b Rising = b

-- an end at p is finished
local-finish : {sh : Plan} {p : ℕ} {length end : Side → ℕ} {own_level : ℕ} {finished : Side → Bool} → apart sh.list p ≡ false → Local sh p length end own_level finished → (finished' : Side → Bool)
    → ((s : Side) → finished' s ≡ true → (Climbs sh s (end s) × (tip sh s (end s) ≡ p)) ⊎ (finished s ≡ true)) → Local sh p length end own_level finished'
local-finish {sh} {own_level = own_level} o L finished' a = record {
  positive = L.positive;
  peaked = λ s h. ⊎_elim (λ e. (e.0, ⊎_elim (λ q. absurd (omega (arith, q.1, ap (height sh) e.1))) (λ q. omega (arith, pow_pos (own_level - 1))) (L.heavy s (own_level - 1) (omega (arith, L.positive))), rw e.1 o)) (λ e. L.peaked s e) (a s h);
  ready = λ h. ⊎_elim (λ e. (Rising, e.1)) (λ e. ⊎_elim (λ f. (Falling, f.1)) (λ f. L.ready (side-cases (λ s. _ ≡ true) Rising e f)) (a Falling (h Falling))) (a Rising (h Rising));
  heavy = L.heavy;
}

now-true : {P Q : Type 0} (s t : Side) (d : Dec P) (d' : Dec Q) (b : Bool) → finished_now s t d d' b ≡ true → ((t ≡ s) × P) ⊎ (((t ≡ other_side s) × Q) ⊎ (b ≡ true))
unfolding finished_now pick
now-true Rising Rising (yes p) d' b h = inl (refl, p)
now-true Rising Rising (no p) d' b h = inr (inr h)
now-true Rising Falling d (yes p) b h = inr (inl (refl, p))
now-true Rising Falling d (no p) b h = inr (inr h)
now-true Falling Falling (yes p) d' b h = inl (refl, p)
now-true Falling Falling (no p) d' b h = inr (inr h)
now-true Falling Rising d (yes p) b h = inr (inl (refl, p))
now-true Falling Rising d (no p) b h = inr (inr h)

pub now-edge : {P Q : Type 0} (s t : Side) (d : Dec P) (d' : Dec Q) (b : Bool) → b ≡ true → finished_now s t d d' b ≡ true
unfolding finished_now pick
now-edge Rising Rising (yes p) d' b h = refl
now-edge Rising Rising (no p) d' b h = h
now-edge Rising Falling d (yes p) b h = refl
now-edge Rising Falling d (no p) b h = h
now-edge Falling Falling (yes p) d' b h = refl
now-edge Falling Falling (no p) d' b h = h
now-edge Falling Rising d (yes p) b h = refl
now-edge Falling Rising d (no p) b h = h

module _ {sh : Plan} (N : Lawful sh) {p m : ℕ} (E : Time sh p m) {G : Paths} {M : Marks} (F : Frame sh p m G M) where
  pub single : (a : ℕ) → 0 < size G (edge a) → (s : Side) → G.end s (edge a) ≡ a
  single a h s = let w = end-spot F.chain s (edge a) h in sym (F.of_edge _ a w.0 w.1).0

  -- an edge by itself is one of the list
  pub lone-real : (a : ℕ) → 0 < size G (edge a) → (a < sh.list.edges) × (m ≤ suc a)
  lone-real a h =
      let f = F.chain.first (edge a) h in
      let o = F.of_edge _ a 0 f in
      (omega (arith, o.0, F.chain.real _ _ _ f), omega (arith, o.0, o.1))

  pub frame_at : At sh p G M
  frame_at = record {
    edge_level = F.edge_level;
    row_level = λ b l. (F.local b l).positive;
    low = λ e b i h. E.low e (F.of_row e b i h);
    high = λ e h. let w = lone-real e h in E.high e w.1 w.0;
    alone = single;
    ready = λ b l. (F.local b l).ready;
    climbs = λ s b l h. ((F.local b l).peaked s h).0;
  }

  -- a finished path of own level l has 2 ^ l edges
  pub big : (x : Owner) → 0 < size G x → ((s : Side) → M.finished s x ≡ true) → 2 ^ M.own_level x ≤ size G x
  big (edge a) l h = rw (F.edge_level a) (unfold size in omega (arith, F.lone a l))
  big (row b) l h = by (M.own_level (row b)) refl
    where
      L : LocalAt sh p G M (row b)
      L = F.local b l

      by : (n : ℕ) → M.own_level (row b) ≡ n → 2 ^ n ≤ size G (row b)
      by zero e = absurd (omega (arith, L.positive))
      by (suc n) e = unfold size in ⊎_elim (λ a. absurd (omega (arith, (L.peaked Rising (h Rising)).1))) (λ a. ⊎_elim (λ c. absurd (omega (arith, (L.peaked Falling (h Falling)).1))) (λ c. omega arith) (L.heavy Falling n e)) (L.heavy Rising n e)

  -- two ends meet at p and are finished
  pub finish-frame : apart sh.list p ≡ false → (s : Side) (b q : ℕ) → Climbs sh s (G.end s (row b)) × (tip sh s (G.end s (row b)) ≡ p) → Climbs sh (other_side s) (G.end (other_side s) (row q)) × (tip sh (other_side s) (G.end (other_side s) (row q)) ≡ p)
      → Frame sh p m G (finish s M (row b) (row q))
  finish-frame o s b q u v = record {
    chain = F.chain;
    outs = F.outs;
    local = done;
    of_row = F.of_row;
    of_edge = F.of_edge;
    lone = F.lone;
    edge_level = F.edge_level;
    edge_finished = λ e t. now-edge s t (same? (edge e) (row b)) (same? (edge e) (row q)) _ (F.edge_finished e t);
  }
    where
      done : (c : ℕ) → 0 < size G (row c) → LocalAt sh p G (finish s M (row b) (row q)) (row c)
      done c l = local-finish o (F.local c l) _ (λ t h. ⊎_elim
          (λ e. inl (rw (e.0, e.1) u))
          (λ e. ⊎_elim (λ f. inl (rw (f.0, f.1) v)) (λ f. inr f) e)
          (now-true s t (same? (row c) (row b)) (same? (row c) (row q)) (M.finished t (row c)) h))

  -- each branch has the edges of its level
  frame-heavy : Heavy G M
  unfolding size
  frame-heavy = record { branch = branch'; some = some' }
    where
      branch' : (s : Side) (x : Owner) (k : ℕ) → 0 < size G x → M.own_level x ≡ suc k → M.finished s x ≡ true → 2 ^ k ≤ G.length s x
      branch' s (edge a) k l e f = absurd (omega (arith, F.edge_level a))
      branch' s (row b) k l e f = ⊎_elim (λ q. absurd (omega (arith, ((F.local b l).peaked s f).1))) (λ q. q) ((F.local b l).heavy s k e)

      some' : (x : Owner) (k : ℕ) → 0 < size G x → M.own_level x ≡ suc k → 2 ^ k ≤ size G x
      some' (edge a) k l e = absurd (omega (arith, F.edge_level a))
      some' (row b) k l e = ⊎_elim (λ q. ⊎_elim (λ q'. absurd (omega arith)) (λ q'. omega arith) ((F.local b l).heavy Falling k e)) (λ q. omega arith) ((F.local b l).heavy Rising k e)

  -- an edge of own level l that does not close: its outline has room for one level more
  pub room : Seams sh G M → (x : Owner) → 0 < size G x → ((s : Side) → M.finished s x ≡ true) → (tip sh Falling (G.end Falling x) ≡ tip sh Rising (G.end Rising x) → ⊥) → Room sh (suc (M.own_level x))
  room S x l f d = (G.end Falling x, first-real F.chain x l, long N F.chain S frame-heavy (M.own_level x) x refl l (big x l f) (f Rising) t (λ e. d (ap (tip sh Falling) (sym (t.joined ∙ ap (G.end Falling) e)) ∙ N.joint (G.end Rising x) (last-real F.chain x l))))
    where
      t : Seam sh Rising G M x
      t = S Rising x l

-- a row whose ends are finished and meet closes
module _ {sh : Plan} (N : Lawful sh) {p m : ℕ} (E : Time sh p m) {G : Paths} {M : Marks} (F : Frame sh p m G M) (S : Seams sh G M)
    (b : ℕ) (lx : 0 < size G (row b)) (both_finished : (s : Side) → M.finished s (row b) ≡ true) (meets : tip sh Falling (G.end Falling (row b)) ≡ tip sh Rising (G.end Rising (row b))) where
  abbrev x : Owner
  x = row b

  abbrev C : Chain sh G
  C = F.chain

  abbrev H : Paths
  H = closed G x

  abbrev L : LocalAt sh p G M x
  L = F.local b lx

  pub ends-joined : (s : Side) → Joined sh s (G.end s x) (G.end (other_side s) x)
  ends-joined Rising = N.peak Rising _ _ (last-real C x lx) (first-real C x lx) (L.peaked Rising (both_finished Rising)).0 (L.peaked Falling (both_finished Falling)).0 meets (L.peaked Rising (both_finished Rising)).2
  ends-joined Falling = N.peak Falling _ _ (first-real C x lx) (last-real C x lx) (L.peaked Falling (both_finished Falling)).0 (L.peaked Rising (both_finished Rising)).0 (sym meets) (L.peaked Falling (both_finished Falling)).2

  pub link : 0 < size G x → sh.next (G.end Rising x) ≡ G.end Falling x
  link h = ends-joined Rising

  pub same_view : (y : Owner) → (y ≡ x → ⊥) → ((s : Side) → H.length s y ≡ G.length s y) × ((s : Side) → H.end s y ≡ G.end s y)
  unfolding closed
  same_view y d = ((λ s. simp pick_no), λ s. refl)

  pub stays : (y : Owner) → 0 < size H y → (y ≡ x → ⊥) × (0 < size G y)
  stays y h = let d = live C x link y (same? y x) h in (d, omega (arith, size-other C x link y d))

  pub at_top : (s : Side) → tip sh s (G.end s x) ≡ p
  at_top s = by (L.ready both_finished) s
    where
      by : (t : Side) × (tip sh t (G.end t x) ≡ p) → (s : Side) → tip sh s (G.end s x) ≡ p
      by (Rising, q) = side-cases (λ s. tip sh s (G.end s x) ≡ p) Rising q (meets ∙ q)
      by (Falling, q) = side-cases (λ s. tip sh s (G.end s x) ≡ p) Falling q (sym meets ∙ q)

  -- the edge in hand is one of the two at the top
  last-in-hand : (h : ℕ) → m ≡ suc h → E.hand.0 ≡ h → (max (G.end Falling x) (G.end Rising x) ≡ h) × ((i : ℕ) × (G.spot h ≡ on x i))
  last-in-hand h q u = (by k.0 it, (w.0, ap G.spot it ∙ w.1))
    where
      k : (s : Side) × Climbs sh s E.hand.0 × (tip sh s E.hand.0 ≡ p)
      k = E.hand.3

      it : h ≡ G.end k.0 x
      it = sym u ∙ N.one_top k.0 _ _ E.hand.2 (end-real C k.0 x lx) k.1 (L.peaked k.0 (both_finished k.0)).0 (k.2 ∙ sym (at_top k.0))

      w : (i : ℕ) × (G.spot (G.end k.0 x) ≡ on x i)
      w = end-spot C k.0 x lx

      below : (s : Side) → G.end s x < m
      below s = let v = end-spot C s x lx in F.of_row _ b v.0 v.1

      by : (s : Side) → h ≡ G.end s x → max (G.end Falling x) (G.end Rising x) ≡ h
      by Rising e = omega (arith, below Falling, below Rising)
      by Falling e = omega (arith, below Falling, below Rising)

  outs-of : (k : ℕ) → Outs sh k G → m ≡ suc E.hand.0 → k ≡ m → Outs sh k H
  outs-of k O q e =
      let w = last-in-hand E.hand.0 q refl in
      rw (e ∙ q) (close-outs C E.hand.0 (rw (e ∙ q) at O) x lx link (λ a i s. rw (at_top Falling) (E.low a (F.of_row a b i s) Falling)) w.0 w.1)

  pub close-frame : Frame sh p m H M
  close-frame = record {
    chain = close-chain C x link;
    outs = outs-of m F.outs E.hand.1 refl;
    local = λ c h. let w = stays (row c) h in let v = same_view (row c) w.0 in same-local c v (F.local c w.1);
    of_row = λ e c i h. F.of_row e c i (origin_on C x link _ _ (origin C x link e) (row c) i h).1;
    of_edge = λ e a i h. F.of_edge e a i (origin_on C x link _ _ (origin C x link e) (edge a) i h).1;
    lone = λ a h. let w = stays (edge a) h in let v = same_view (edge a) w.0 in let o = F.lone a w.1 in (v.0 Falling ∙ o.0, v.0 Rising ∙ o.1);
    edge_level = F.edge_level;
    edge_finished = F.edge_finished;
  }
    where
      same-local : (c : ℕ) → ((s : Side) → H.length s (row c) ≡ G.length s (row c)) × ((s : Side) → H.end s (row c) ≡ G.end s (row c)) → LocalAt sh p G M (row c) → LocalAt sh p H M (row c)
      same-local c v K = record { positive = K.positive; peaked = λ s h. rw (v.0 s, v.1 s) (K.peaked s h); ready = λ h. let r = K.ready h in (r.0, rw (v.1 r.0) r.1); heavy = λ s k e. rw (v.0 s, v.1 s) (K.heavy s k e) }

  pub close-seams : Seams sh H M
  close-seams s w h =
      let u = stays w h in
      let q = S s w u.1 in
      let d : q.heir ≡ x → ⊥ = λ e. u.0 (one-heir C N s w x (G.end (other_side s) x) u.1 lx (rw e at q.joined) (ends-joined s)) in
      record { heir = q.heir; alive = omega (arith, size-other C x link q.heir d, q.alive); joined = rw ((same_view w u.0).1 s, (same_view q.heir d).1 (other_side s)) q.joined; meet = q.meet }

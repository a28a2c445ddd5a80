-- The outlines closed so far, newest first: an outline's indices follow the joins round, no edge of it leaves a higher place than its first, and of two
-- outlines the newer one has its later top edge further on in the list. A merge leaves all this; a path that closes while the list's edge h is treated has h as one
-- of its top edges, and no outline closed before has it.
use mathlib.Core.Path.{◌≡◌, refl, ap}
use Prim.Native.Nat.{ℕ, zero, suc, ◌-◌, ◌≤◌, ◌<◌, max}
use native.Mathlib.Omega.{arith}
use Rattle.steps.specs.declared.Side.TheVariants.{Rising, Falling}
use Rattle.hartley.proofs.Paths.Plan.{Plan, height}
use Rattle.hartley.proofs.Paths.DownLaw.{pick}
use Rattle.hartley.proofs.Paths.Paths.{Owner, same?, Spot, on, out, off, Paths, size, Chain, relocate, merge, from_out}
use Rattle.hartley.proofs.Paths.PathClosed.{shut, closed, push, to-here, to-older}

-- the later of the two edges at the top of the k-th
abbrev pub mark : Paths → ℕ → ℕ
mark G k = max (G.rounds.lead k) (G.rounds.rear k)

pub record Outs (sh : Plan) (m : ℕ) (G : Paths) : Type 0 where
  pub within : (e k i : ℕ) → G.spot e ≡ out k i → (k < G.rounds.count) × (i < G.rounds.edges_in k)
  pub real : (e k i : ℕ) → G.spot e ≡ out k i → e < sh.list.edges
  pub follow : (e k i : ℕ) → G.spot e ≡ out k i → suc i < G.rounds.edges_in k → G.spot (sh.next e) ≡ out k (suc i)
  pub first : (k : ℕ) → k < G.rounds.count → G.spot (G.rounds.lead k) ≡ out k 0
  pub last : (k i : ℕ) → k < G.rounds.count → suc i ≡ G.rounds.edges_in k → G.spot (G.rounds.rear k) ≡ out k i
  pub some : (k : ℕ) → k < G.rounds.count → 0 < G.rounds.edges_in k
  pub wrap : (k : ℕ) → k < G.rounds.count → sh.next (G.rounds.rear k) ≡ G.rounds.lead k
  pub high : (e k i : ℕ) → G.spot e ≡ out k i → height sh (sh.list.tail e) ≤ height sh (sh.list.tail (G.rounds.lead k))
  pub old : (k : ℕ) → k < G.rounds.count → mark G k < m
  pub order : (j k : ℕ) → j < k → k < G.rounds.count → mark G k < mark G j

-- a merge leaves them as they are
module _ (G : Paths) (a b z : Owner) (f g : ℕ) where
  out-from : (e k i : ℕ) → (merge G a b z f g).spot e ≡ out k i → G.spot e ≡ out k i
  unfolding merge
  out-from e k i h = from_out (size G a) a b z (G.spot e) k i h

  pub out-to : (e k i : ℕ) → G.spot e ≡ out k i → (merge G a b z f g).spot e ≡ out k i
  unfolding merge relocate
  out-to e k i h = ap (relocate (size G a) a b z) h

  pub merge-outs : {sh : Plan} {m : ℕ} → Outs sh m G → Outs sh m (merge G a b z f g)
  unfolding merge
  merge-outs O = record {
    within = λ e k i h. O.within e k i (out-from e k i h);
    real = λ e k i h. O.real e k i (out-from e k i h);
    follow = λ e k i h l. out-to _ k (suc i) (O.follow e k i (out-from e k i h) l);
    first = λ k l. out-to _ k 0 (O.first k l);
    last = λ k i l q. out-to _ k i (O.last k i l q);
    some = O.some;
    wrap = O.wrap;
    high = λ e k i h. O.high e k i (out-from e k i h);
    old = O.old;
    order = O.order;
  }

pub data Shut (a : Owner) (s : Spot) : ℕ → ℕ → Type 0 where
  now : (i : ℕ) → s ≡ on a i → Shut a s 0 i
  ago : (k i : ℕ) → s ≡ out k i → Shut a s (suc k) i

shut_out : (a : Owner) (s : Spot) (k i : ℕ) → shut a s ≡ out k i → Shut a s k i
unfolding shut pick
shut_out a (out m j) k i e = let u : k ≡ suc m = cc in let v : i ≡ j = cc in rw (u, v) (ago m j refl)
shut_out a (off m) k i e = let z : ◌≡◌ {A = ℕ} 0 1 = cc in absurd (omega arith)
shut_out a (on x j) k i e = go (same? x a) e
  where
    go : (d : Dec (x ≡ a)) → pick d (out 0 j) (on x j) ≡ out k i → Shut a (on x j) k i
    go (yes p) e = let u : k ≡ 0 = cc in let v : i ≡ j = cc in rw (u, v) (now j (ap (λ y. on y j) p))
    go (no p) e = let z : ◌≡◌ {A = ℕ} 0 1 = cc in absurd (omega arith)

-- a path that closes while the edge h is in hand
module _ {sh : Plan} {G : Paths} (C : Chain sh G) (h : ℕ) (O : Outs sh (suc h) G) (a : Owner) (live : 0 < size G a) (link : 0 < size G a → sh.next (G.end Rising a) ≡ G.end Falling a)
    (top : (e i : ℕ) → G.spot e ≡ on a i → height sh (sh.list.tail e) ≤ height sh (sh.list.tail (G.end Falling a)))
    (hand : max (G.end Falling a) (G.end Rising a) ≡ h) (mine : (i : ℕ) × (G.spot h ≡ on a i)) where
  abbrev H : Paths
  H = closed G a

  was-out : (e k i : ℕ) → H.spot e ≡ out k i → Shut a (G.spot e) k i
  unfolding closed
  was-out e k i q = shut_out a (G.spot e) k i q

  not-hand : (e k i : ℕ) → G.spot e ≡ out k i → e ≡ h → ⊥
  not-hand e k i q d = let w = ap G.spot d in let m = mine.1 in let z : ◌≡◌ {A = ℕ} 0 1 = cc in omega arith

  -- the ones closed before have their marks below
  before : (k : ℕ) → k < G.rounds.count → mark G k < h
  before k l =
      let s = O.some k l in
      omega (arith, O.old k l, not-hand _ k 0 (O.first k l), not-hand _ k (G.rounds.edges_in k - 1) (O.last k (G.rounds.edges_in k - 1) l (omega arith)))

  in-of : (e : ℕ) {k i : ℕ} → Shut a (G.spot e) k i → (k < suc G.rounds.count) × (i < push (size G a) G.rounds.edges_in k)
  in-of e (now i p) = (omega arith, C.within e a i p)
  in-of e (ago k i p) = let w = O.within e k i p in (omega arith, w.1)

  real_of : (e : ℕ) {k i : ℕ} → Shut a (G.spot e) k i → e < sh.list.edges
  real_of e (now i p) = C.real e a i p
  real_of e (ago k i p) = O.real e k i p

  next_of : (e : ℕ) {k i : ℕ} → Shut a (G.spot e) k i → suc i < push (size G a) G.rounds.edges_in k → H.spot (sh.next e) ≡ out k (suc i)
  next_of e (now i p) l = to-here C a link _ (suc i) (C.follow e a i p l)
  next_of e (ago k i p) l = to-older C a link _ k (suc i) (O.follow e k i p l)

  first_of : (k : ℕ) → k < suc G.rounds.count → H.spot (push (G.end Falling a) G.rounds.lead k) ≡ out k 0
  first_of zero l = to-here C a link _ 0 (C.first a live)
  first_of (suc k) l = to-older C a link _ k 0 (O.first k (omega arith))

  last_of : (k i : ℕ) → k < suc G.rounds.count → suc i ≡ push (size G a) G.rounds.edges_in k → H.spot (push (G.end Rising a) G.rounds.rear k) ≡ out k i
  last_of zero i l q = to-here C a link _ i (C.last a i q)
  last_of (suc k) i l q = to-older C a link _ k i (O.last k i (omega arith) q)

  some_of : (k : ℕ) → k < suc G.rounds.count → 0 < push (size G a) G.rounds.edges_in k
  some_of zero l = live
  some_of (suc k) l = O.some k (omega arith)

  wrap-of : (k : ℕ) → k < suc G.rounds.count → sh.next (push (G.end Rising a) G.rounds.rear k) ≡ push (G.end Falling a) G.rounds.lead k
  wrap-of zero l = link live
  wrap-of (suc k) l = O.wrap k (omega arith)

  high-of : (e : ℕ) {k i : ℕ} → Shut a (G.spot e) k i → height sh (sh.list.tail e) ≤ height sh (sh.list.tail (push (G.end Falling a) G.rounds.lead k))
  high-of e (now i p) = top e i p
  high-of e (ago k i p) = O.high e k i p

  abbrev mark' : ℕ → ℕ
  mark' k = max (push (G.end Falling a) G.rounds.lead k) (push (G.end Rising a) G.rounds.rear k)

  old_of : (k : ℕ) → k < suc G.rounds.count → mark' k < suc h
  old_of zero l = omega (arith, hand)
  old_of (suc k) l = O.old k (omega arith)

  order-of : (j k : ℕ) → j < k → k < suc G.rounds.count → mark' k < mark' j
  order-of j zero d l = absurd (omega arith)
  order-of zero (suc k) d l = omega (arith, hand, before k (omega arith))
  order-of (suc j) (suc k) d l = O.order j k (omega arith) (omega arith)

  pub close-outs : Outs sh (suc h) (closed G a)
  unfolding closed
  close-outs = record {
    within = λ e k i q. in-of e (was-out e k i q);
    real = λ e k i q. real_of e (was-out e k i q);
    follow = λ e k i q l. next_of e (was-out e k i q) l;
    first = first_of;
    last = last_of;
    some = some_of;
    wrap = wrap-of;
    high = λ e k i q. high-of e (was-out e k i q);
    old = old_of;
    order = order-of;
  }

-- Before the first edge the invariant holds: every edge is its own path, and no row was ever opened.
use mathlib.Core.Path.{◌≡◌, refl, ap, sym, ◌∙◌}
use mathlib.Core.Bool.{false}
use mathlib.Core.List.{[]}
use Prim.Native.Nat.{ℕ, ◌+◌, ◌*◌, ◌≤◌, ◌<◌}
use native.Mathlib.Decide.{dec_lt}
use native.Mathlib.Omega.{arith}
use Rattle.laws.specs.Counting.{count}
use Rattle.laws.proofs.Deciding.{not-both}
use Rattle.steps.specs.declared.Side.{Side}
use Rattle.steps.specs.declared.Side.TheVariants.{Rising, Falling}
use Rattle.hartley.proofs.Paths.Plan.{Plan, Lawful}
use Rattle.hartley.proofs.Paths.Differences.{pos-diff}
use Rattle.hartley.proofs.Paths.DownLaw.{of_edge, pick, place, at}
use Rattle.hartley.proofs.Paths.Paths.{Owner, edge, row, Spot, on, out, off, Paths, by_side, size, Chain, pick_yes, on-eq}
use Rattle.hartley.proofs.Paths.Outlines.{Outs}
use Rattle.hartley.proofs.Paths.RecordsCounted.{puts, closes, passed, branches}
use Rattle.hartley.proofs.Paths.JournalLinked.{Naming, to_place}
use Rattle.hartley.proofs.Seams.Seams.{Seam, both-sides}
use Rattle.hartley.proofs.Invariant.TableTied.{Table, State, Tied, marks_of, row_lengths}

-- the edge that an owner is; rows have none
abbrev itself : Owner → ℕ
itself (edge a) = a
itself (row r) = 0

abbrev alone : ℕ → Owner → ℕ
alone edges (edge a) = pick (dec_lt a edges) 1 0
alone edges (row r) = 0

unfoldable pub start : ℕ → Paths
start edges = record {
  spot = λ e. pick (dec_lt e edges) (on (edge e) 0) (off e);
  length = λ s x. by_side 0 (alone edges x) s;
  end = λ s x. itself x;
  rounds = record { count = 0; edges_in = λ k. 0; lead = λ k. 0; rear = λ k. 0 };
}

-- no births
abbrev pub unborn : Naming
unborn = record { name = λ b. b; born = 0 }

data Began (cnt e : ℕ) : Spot → Type 0 where
  real : e < cnt → Began cnt e (on (edge e) 0)
  void : cnt ≤ e → Began cnt e (off e)

began : (cnt e : ℕ) → Began cnt e ((start cnt).spot e)
unfolding start pick
began cnt e = go (dec_lt e cnt)
  where
    go : (d : Dec (e < cnt)) → Began cnt e (pick d (on (edge e) 0) (off e))
    go (yes p) = real p
    go (no p) = void (omega arith)

began-on : {cnt e : ℕ} {s : Spot} → Began cnt e s → (x : Owner) (i : ℕ) → s ≡ on x i → (x ≡ edge e) × (i ≡ 0) × (e < cnt)
began-on (real h) x i q = (cc, cc, h)
began-on (void h) x i q = let z : ◌≡◌ {A = ℕ} 0 1 = cc in absurd (omega arith)

began-out : {cnt e : ℕ} {s : Spot} → Began cnt e s → (k i : ℕ) → s ≡ out k i → ⊥
began-out (real h) k i q = let z : ◌≡◌ {A = ℕ} 0 1 = cc in omega arith
began-out (void h) k i q = let z : ◌≡◌ {A = ℕ} 0 1 = cc in omega arith

began-off : {cnt e : ℕ} {s : Spot} → Began cnt e s → (k : ℕ) → s ≡ off k → cnt ≤ e
began-off (real h) k q = let z : ◌≡◌ {A = ℕ} 0 1 = cc in absurd (omega arith)
began-off (void h) k q = h

began-once : {cnt e e' : ℕ} {s s' : Spot} → Began cnt e s → Began cnt e' s' → s ≡ s' → e ≡ e'
began-once (real h) (real h') q = cc
began-once (real h) (void h') q = cc
began-once (void h) (real h') q = cc
began-once (void h) (void h') q = cc

module _ (sh : Plan) where
  abbrev G : Paths
  G = start sh.list.edges

  spot-real : (e : ℕ) → e < sh.list.edges → G.spot e ≡ on (edge e) 0
  unfolding start
  spot-real e h = pick_yes (dec_lt e sh.list.edges) _ _ h

  pub size-edge : (a : ℕ) → (a < sh.list.edges) → size G (edge a) ≡ 1
  unfolding start size
  size-edge a h = simp pick_yes (omega arith)

  size-one : (x : Owner) → 0 < size G x → (a : ℕ) × (x ≡ edge a) × (a < sh.list.edges)
  unfolding start size pick
  size-one (row r) h = absurd (omega arith)
  size-one (edge a) h = go (dec_lt a sh.list.edges) h
    where
      go : (d : Dec (a < sh.list.edges)) → 0 < 0 + pick d 1 0 → (b : ℕ) × (edge a ≡ edge b) × (b < sh.list.edges)
      go (yes p) l = (a, refl, p)
      go (no p) l = absurd (omega arith)

  first_of : (x : Owner) (a : ℕ) → x ≡ edge a → a < sh.list.edges → (G.spot (G.end Falling x) ≡ on x 0) × (G.spot (G.end Rising x) ≡ on x 0)
  unfolding start
  first_of x a e h = rw e (spot-real a h, spot-real a h)

  chain : Chain sh G
  chain = record {
    within = λ e x i q. let b = began-on (began sh.list.edges e) x i q in omega (arith, b.1, ap (size G) b.0, size-edge e b.2);
    first = λ x h. let a = size-one x h in (first_of x a.0 a.1 a.2).0;
    last = λ x i h. let a = size-one x (omega arith) in (first_of x a.0 a.1 a.2).1 ∙ on-eq refl (omega (arith, ap (size G) a.1, size-edge a.0 a.2));
    follow = λ e x i q l. let b = began-on (began sh.list.edges e) x i q in absurd (omega (arith, ap (size G) b.0, size-edge e b.2));
    once = λ e e' q. began-once (began sh.list.edges e) (began sh.list.edges e') q;
    real = λ e x i q. (began-on (began sh.list.edges e) x i q).2;
    void = λ e k q. began-off (began sh.list.edges e) k q;
    around = λ e k i q. absurd (began-out (began sh.list.edges e) k i q);
  }

  lengths : (a : ℕ) → a < sh.list.edges → (G.length Falling (edge a) ≡ 0) × (G.length Rising (edge a) ≡ 1)
  unfolding start
  lengths a h = (refl, simp pick_yes)

  nothing : {m : ℕ} → Outs sh m G
  unfolding start
  nothing = record {
    within = λ e k i q. absurd (began-out (began sh.list.edges e) k i q);
    real = λ e k i q. absurd (began-out (began sh.list.edges e) k i q);
    follow = λ e k i q. absurd (began-out (began sh.list.edges e) k i q);
    first = λ k l. absurd (omega arith);
    last = λ k i l. absurd (omega arith);
    some = λ k l. absurd (omega arith);
    wrap = λ k l. absurd (omega arith);
    high = λ e k i q. absurd (began-out (began sh.list.edges e) k i q);
    old = λ k l. absurd (omega arith);
    order = λ j k d l. absurd (omega arith);
  }

  nothing-paid : 2 * passed [] + branches (row_lengths G) 0 ≤ puts []
  unfolding passed puts branches count
  nothing-paid = omega arith

  nothing-shut : closes [] ≡ G.rounds.count
  unfolding closes start
  nothing-shut = refl

  tie : (e : ℕ) → e < sh.list.edges → place [] (of_edge e) ≡ to_place unborn G (G.spot e)
  tie e h = rw (spot-real e h) (at-start e)
    where
      at-start : (e : ℕ) → place [] (of_edge e) ≡ to_place unborn G (on (edge e) 0)
      at-start e = unfold place to_place start in ap (at (of_edge e)) (pos-diff 0)

  pub no_row : (r : ℕ) → 0 < size G (row r) → ⊥
  no_row r h = let a = size-one (row r) h in let q = a.1 in let z : ◌≡◌ {A = ℕ} 0 1 = cc in omega arith

  end_is : (s : Side) (a : ℕ) → G.end s (edge a) ≡ a
  unfolding start
  end_is s a = refl

  -- whatever rows there are
  pub begin : Lawful sh → (p : ℕ) (Y : Table) → State sh p 1 Y [] unborn G
  unfolding marks_of
  begin N p Y = record {
    frame = record {
      chain = chain;
      outs = nothing;
      local = λ r h. absurd (no_row r h);
      of_row = λ e r i q. let b = began-on (began sh.list.edges e) (row r) i q in let h = b.0 in let z : ◌≡◌ {A = ℕ} 0 1 = cc in absurd (omega arith);
      of_edge = λ e a i q. let b = began-on (began sh.list.edges e) (edge a) i q in let h = b.0 in (cc, omega arith);
      lone = λ a h. let b = size-one (edge a) h in let q = b.1 in lengths a (rw (ap itself (sym q)) at b.2);
      edge_level = λ a. refl;
      edge_finished = λ a s. refl;
    };
    seams = both-sides N chain (nothing {m = 1}) Rising (λ w h. let a = size-one w h in seam w a.0 a.1 a.2);
    told = λ b h. absurd (no_row b h);
    one_name = λ b c h k q. absurd (no_row b h);
    linked = tie;
    paid = nothing-paid;
    shuts = nothing-shut;
  }
    where
      seam : (w : Owner) (a : ℕ) → w ≡ edge a → a < sh.list.edges → Seam sh Rising G (marks_of Y) w
      seam w a q h = rw q (record {
        heir = edge (sh.next a);
        alive = omega (arith, size-edge (sh.next a) (N.inside a h));
        joined = ap sh.next (end_is Rising a) ∙ sym (end_is Falling (sh.next a));
        meet = refl;
      })

  -- a table of which no row is in use
  pub begin-tied : (n : ℕ) (T Y : Table) (a : ℕ) → ((r : ℕ) → (T r).used ≡ false) → Tied n T Y unborn G (edge a)
  begin-tied n T Y a free = record { of_live = λ b h d. absurd (no_row b h); to_live = λ r u. absurd (not-both u (free r)); named = λ b h. absurd (no_row b h) }

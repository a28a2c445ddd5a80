-- The list's edges treated in order. Before each edge the invariant stands at its top, with its edges before it all in rows or outlines and those
-- from it on still by themselves; treating it keeps that (EdgeTreated), and the next top is no lower. So the sweep ends done, or without a free row at
-- an edge of the list that finds none itself. It never ends in an overrun.
use Rattle.std.specs.Prelude.{Result, ⊤, Ok, Err}
use mathlib.Core.Path.{◌≡◌, refl, ap, sym, ◌∙◌}
use mathlib.Core.Bool.{false, cond}
use mathlib.Core.List.{List, []}
use mathlib.Core.Logic.{◌⊎◌, inl, inr, ⊎_elim}
use Prim.Native.Nat.{ℕ, zero, suc, ◌+◌, ◌≤◌, ◌<◌}
use native.Mathlib.Omega.{arith}
use borrow.Author.Tests.{lt-ltb, le-ltb}
use Rattle.laws.proofs.Deciding.{lt-or-le, eq-or-ne}
use Rattle.sheet.specs.Edges.{top_height}
use Rattle.sheet.specs.Corners.{apart}
use Rattle.steps.specs.declared.Side.{Side}
use Rattle.steps.specs.declared.Side.TheVariants.{Rising, Falling}
use Rattle.steps.specs.Rows.{other_side, on, Row, Record}
use Rattle.steps.specs.SweepUp.{Sweep, start, sweep_up, treat, levels, after_done, bottom, top}
use Rattle.steps.specs.Swept.{drawn_edge}
use Rattle.hartley.proofs.Results.NearRun.{near_to}
use Rattle.hartley.proofs.Paths.Plan.{Plan, Lawful, uneven, height, tip, Climbs}
use Rattle.hartley.proofs.Paths.DownLaw.{Rec}
use Rattle.hartley.proofs.Paths.JournalRead.{recs}
use Rattle.hartley.proofs.Paths.Paths.{edge, row, Paths, size}
use Rattle.hartley.proofs.Paths.JournalLinked.{Naming}
use Rattle.hartley.proofs.Paths.Outlines.{Outs}
use Rattle.hartley.proofs.Paths.RecordsCounted.{listed}
use Rattle.hartley.proofs.Invariant.Invariant.{LocalAt, Time, single}
use Rattle.hartley.proofs.Invariant.TableTied.{Table, State, marks_of, not-edge, tie_none}
use Rattle.hartley.proofs.Step.RowOfStepOne.{Pre}
use Rattle.hartley.proofs.Invariant.LeftAlone.{WholeBy, Kept}
use Rattle.hartley.proofs.Invariant.BeforeTheFirst as init
use Rattle.hartley.proofs.Invariant.BeforeTheFirst.{unborn, begin, begin-tied, size-edge, no_row}
use Rattle.hartley.proofs.Step.TableSeen.{view-above}
use Rattle.hartley.proofs.Step.StepsSeen.{Work, table_of, journal_of}
use Rattle.hartley.proofs.Step.Given.{Setting, plan, laws, room_in}
use Rattle.hartley.proofs.Step.EdgeInHand.{Inv, Crowded, FindsNone, Outcome, went, full}
use Rattle.hartley.proofs.Step.EdgeTreated.{treat-outcome}
use Rattle.steps.specs.declared.Halt.{Halt}
use Rattle.steps.specs.declared.Halt.TheVariants.{NoFreeRow}

-- the side on which an edge climbs, and its top there
abbrev pick_side : {P Q : Type 0} → P ⊎ Q → Side
pick_side (inl p) = Rising
pick_side (inr q) = Falling

unfoldable pub side_in : Plan → ℕ → Side
side_in sh e = pick_side (lt-or-le (height sh (sh.list.tail e)) (height sh (sh.list.head e)))

abbrev pub top_of : Plan → ℕ → ℕ
top_of sh e = tip sh (side_in sh e) e

climbs-in : {sh : Plan} → Lawful sh → (e : ℕ) → e < sh.list.edges → Climbs sh (side_in sh e) e
unfolding side_in
climbs-in {sh} N e l = by (lt-or-le (height sh (sh.list.tail e)) (height sh (sh.list.head e)))
  where
    by : (d : (height sh (sh.list.tail e) < height sh (sh.list.head e)) ⊎ (height sh (sh.list.head e) ≤ height sh (sh.list.tail e))) → Climbs sh (pick_side d) e
    by (inl d) = d
    by (inr d) = omega (arith, uneven N e l)

pub top-height : {sh : Plan} → Lawful sh → (e : ℕ) → e < sh.list.edges → height sh (top_of sh e) ≡ top_height sh.list e
top-height {sh} N e l = by (side_in sh e) (climbs-in N e l)
  where
    by : (s : Side) → Climbs sh s e → height sh (tip sh s e) ≡ top_height sh.list e
    by Rising c = omega arith
    by Falling c = omega arith

-- an edge that climbs on a side has its top there
one_side : {sh : Plan} → Lawful sh → (s : Side) (e : ℕ) → e < sh.list.edges → Climbs sh s e → tip sh s e ≡ top_of sh e
one_side {sh} N s e l c = by s (side_in sh e) c (climbs-in N e l)
  where
    by : (s t : Side) → Climbs sh s e → Climbs sh t e → tip sh s e ≡ tip sh t e
    by Rising Rising c d = refl
    by Falling Falling c d = refl
    by Rising Falling c d = absurd (omega arith)
    by Falling Rising c d = absurd (omega arith)

pub time : {sh : Plan} → Lawful sh → (i : ℕ) → i < sh.list.edges → Time sh (top_of sh i) (suc i)
time {sh} N i h = record {
  low = λ e l s. low' s e (N.order e i (omega arith) h);
  hand = (i, refl, h, (side_in sh i, climbs-in N i h, refl));
  high = λ e l r s. high' s e (N.order i e (omega arith) r);
}
  where
    low' : (s : Side) (e : ℕ) → top_height sh.list e ≤ top_height sh.list i → height sh (tip sh s e) ≤ height sh (top_of sh i)
    low' Rising e o = omega (arith, top-height N i h)
    low' Falling e o = omega (arith, top-height N i h)

    high' : (s : Side) (e : ℕ) → top_height sh.list i ≤ top_height sh.list e → height sh (tip sh (other_side s) e) < height sh (top_of sh i) → height sh (top_of sh i) ≤ height sh (tip sh s e)
    high' Rising e o l = omega (arith, top-height N i h)
    high' Falling e o l = omega (arith, top-height N i h)

-- the same outlines a moment later
aged : {sh : Plan} {m : ℕ} {G : Paths} → Outs sh m G → Outs sh (suc m) G
aged O = record { within = O.within; real = O.real; follow = O.follow; first = O.first; last = O.last; some = O.some; wrap = O.wrap; high = O.high; old = λ k l. omega (arith, O.old k l); order = O.order }

-- from an edge's top to the next edge's
advance : {sh : Plan} (p p' i : ℕ) (Y : Table) (J : List Rec) (B : Naming) (G : Paths) → height sh p ≤ height sh p' → size G (edge i) ≡ 0 → WholeBy 0 Y G → State sh p (suc i) Y J B G → State sh p' (suc (suc i)) Y J B G
unfolding marks_of
advance {sh} p p' i Y J B G le dead K I = record {
  frame = record {
    chain = I.frame.chain;
    outs = aged I.frame.outs;
    local = λ b l. later b l (I.frame.local b l);
    of_row = λ e b k q. omega (arith, I.frame.of_row e b k q);
    of_edge = λ e a k q. let b = I.frame.of_edge e a k q in (b.0, ⊎_elim (λ d. absurd (omega (arith, I.frame.chain.within e (edge a) k q, ap (λ c. size G (edge c)) (b.0 ∙ d), dead))) (λ d. omega (arith, b.1)) (eq-or-ne e i));
    lone = I.frame.lone;
    edge_level = I.frame.edge_level;
    edge_finished = I.frame.edge_finished;
  };
  seams = I.seams;
  told = I.told;
  one_name = I.one_name;
  linked = I.linked;
  paid = I.paid;
  shuts = I.shuts;
}
  where
    later : (b : ℕ) → 0 < size G (row b) → LocalAt sh p G (marks_of Y) (row b) → LocalAt sh p' G (marks_of Y) (row b)
    later b l L = record {
      positive = L.positive;
      peaked = L.peaked;
      ready = λ f. absurd (omega (arith, K b l f));
      heavy = λ s k e. ⊎_elim (λ q. inl (q.0, omega arith)) (λ q. inr q) (L.heavy s k e);
    }

module _ (A : Setting) where
  abbrev sh : Plan
  sh = plan A

  abbrev N : Lawful sh
  N = laws A

  -- before the edge i
  pub record Before (i : ℕ) (l : i < A.sheet.edges) (s : Work) : Type 0 where
    pub births : Table
    pub names : Naming
    pub paths : Paths
    pub inv : Inv A (time N i l) s births names paths (edge i)
    pub clean : WholeBy 0 births paths
    pub waits : (a : ℕ) → i ≤ a → a < A.sheet.edges → 0 < size paths (edge a)
    pub gone : (a : ℕ) → a < i → size paths (edge a) ≡ 0
    pub listed_is : listed (journal_of s) ≡ i

  -- after it
  pub record Past (i : ℕ) (l : i < A.sheet.edges) (s : Work) : Type 0 where
    pub births : Table
    pub names : Naming
    pub paths : Paths
    pub inv : Inv A (time N i l) s births names paths (edge 0)
    pub clean : WholeBy 0 births paths
    pub waits : (a : ℕ) → i < a → a < A.sheet.edges → 0 < size paths (edge a)
    pub gone : (a : ℕ) → a ≤ i → size paths (edge a) ≡ 0
    pub listed_is : listed (journal_of s) ≡ suc i

  pub data SweptTo (i : ℕ) (l : i < A.sheet.edges) (s : Work) : Type 0 where
    past : Past i l s → SweptTo i l s
    stopped : s.end ≡ Err NoFreeRow → SweptTo i l s

  -- the edge finds no row, and what follows of how many there are
  pub record Lacking (i : ℕ) (l : i < A.sheet.edges) (s : Work) : Type 0 where
    pub finds_none : FindsNone A (time N i l) s (drawn_edge A.sheet i)
    pub crowded : Crowded A (time N i l)
    pub reach_rows : s.reach ≤ A.rows

  pre-edge : (i : ℕ) (h : i < A.sheet.edges) (s : Work) (Q : Before i h s) → Pre sh (top_of sh i) (suc i) Q.births Q.names Q.paths 0 (drawn_edge A.sheet i) (edge i)
  unfolding marks_of
  pre-edge i h s Q = record {
    live = l;
    both_finished = λ t. refl;
    level_is = refl;
    end_is = ends;
    length_is = lengths;
    mine = λ a q. let e : i ≡ a = cc in omega arith;
    goes = λ t q. (climbs t q, ap (tip sh t) (w t) ∙ one_side N t i h (climbs-i t q));
    flat = λ q. N.flat _ _ (N.same_film i h) q;
    is_row = λ q. absurd (N.proper i h q);
    named = refl;
    parts = parts;
  }
    where
      G : Paths
      G = Q.paths

      parts : (t : Side) → height sh (bottom t (drawn_edge A.sheet i)) < height sh (top t (drawn_edge A.sheet i)) → (drawn_edge A.sheet i).apart ≡ apart sh.list (top t (drawn_edge A.sheet i))
      parts Rising q = ap (λ u. apart sh.list (cond u (sh.list.head i) (sh.list.tail i))) (lt-ltb _ _ q)
      parts Falling q = ap (λ u. apart sh.list (cond u (sh.list.head i) (sh.list.tail i))) (le-ltb (height sh (sh.list.tail i)) (height sh (sh.list.head i)) (omega (arith, q)))

      l : 0 < size G (edge i)
      l = Q.waits i (omega arith) h

      w : (t : Side) → G.end t (edge i) ≡ i
      w = single N (time N i h) Q.inv.state.frame i l

      ends : (t : Side) → tip sh t (G.end t (edge i)) ≡ top t (drawn_edge A.sheet i)
      ends Rising = ap sh.list.head (w Rising)
      ends Falling = ap sh.list.tail (w Falling)

      lengths : (t : Side) → G.length t (edge i) ≡ on t (drawn_edge A.sheet i).length
      lengths Rising = (Q.inv.state.frame.lone i l).1
      lengths Falling = (Q.inv.state.frame.lone i l).0

      climbs-i : (t : Side) → height sh (bottom t (drawn_edge A.sheet i)) < height sh (top t (drawn_edge A.sheet i)) → Climbs sh t i
      climbs-i Rising q = q
      climbs-i Falling q = q

      climbs : (t : Side) → height sh (bottom t (drawn_edge A.sheet i)) < height sh (top t (drawn_edge A.sheet i)) → Climbs sh t (G.end t (edge i))
      climbs t q = rw (w t) (climbs-i t q)

  other_edge : {a i : ℕ} → (a ≡ i → ⊥) → edge a ≡ edge i → ⊥
  other_edge d e = d (cc)

  module _ (i : ℕ) (h : i < A.sheet.edges) (s : Work) (Q : Before i h s) where
    abbrev s' : Work
    s' = treat (room_in A) levels 0 s (drawn_edge A.sheet i)

    ended : Outcome A (time N i h) 0 s (drawn_edge A.sheet i) s' (1 + listed (journal_of s)) (λ Y' B' G'. Kept 0 (edge i) Q.names.born Q.births Y' Q.names B' Q.paths G')
    ended = treat-outcome A (time N i h) levels 0 refl s (drawn_edge A.sheet i) Q.births Q.names Q.paths (edge i) Q.inv (pre-edge i h s Q) Q.clean (λ z. absurd (omega arith)) (omega (arith, Q.listed_is))

    treated : SweptTo i h s'
    treated = by ended
      where
        by : Outcome A (time N i h) 0 s (drawn_edge A.sheet i) s' (1 + listed (journal_of s)) (λ Y' B' G'. Kept 0 (edge i) Q.names.born Q.births Y' Q.names B' Q.paths G') → SweptTo i h s'
        by (full z e n c) = stopped e
        by (went w) = past (record {
          births = w.births;
          names = w.names;
          paths = w.paths;
          inv = w.inv;
          clean = w.kept.stays.whole;
          waits = λ a l u. omega (arith, w.kept.stays.edges a (other_edge (λ q. omega arith)), Q.waits a (omega arith) u);
          gone = λ a l. ⊎_elim (λ m. w.kept.stays.edges a (other_edge (λ q. omega arith)) ∙ Q.gone a m) (λ m. let q : a ≡ i = omega arith in rw q w.kept.gone) (lt-or-le a i);
          listed_is = omega (arith, w.listed_is, Q.listed_is);
        })

    lacks : s'.end ≡ Err NoFreeRow → Lacking i h s
    lacks d = by ended
      where
        by : Outcome A (time N i h) 0 s (drawn_edge A.sheet i) s' (1 + listed (journal_of s)) (λ Y' B' G'. Kept 0 (edge i) Q.names.born Q.births Y' Q.names B' Q.paths G') → Lacking i h s
        by (full z e n c) = record { finds_none = n; crowded = c; reach_rows = Q.inv.reach_rows }
        by (went w) = let e : (Ok tt) ≡ Err NoFreeRow = sym w.inv.is_done ∙ d in let z : ◌≡◌ {A = ℕ} 0 1 = cc in absurd (omega arith)

  onwards : (i : ℕ) (h : suc i < A.sheet.edges) (l : i < A.sheet.edges) (s : Work) → Past i l s → Before (suc i) h s
  onwards i h l s Q = record {
    births = Q.births;
    names = Q.names;
    paths = Q.paths;
    inv = record {
      state = advance (top_of sh i) (top_of sh (suc i)) i Q.births (journal_of s) Q.names Q.paths (omega (arith, N.order i (suc i) (omega arith) h, top-height N i l, top-height N (suc i) h)) (Q.gone i (omega arith)) Q.clean Q.inv.state;
      tied = tie_none Q.inv.tied (λ b k. not-edge b 0) (suc i);
      held = Q.inv.held;
      reach_rows = Q.inv.reach_rows;
      reach_records = Q.inv.reach_records;
      is_done = Q.inv.is_done;
    };
    clean = Q.clean;
    waits = λ a m u. Q.waits a (omega arith) u;
    gone = λ a m. Q.gone a (omega arith);
    listed_is = Q.listed_is;
  }

  -- before the first edge, whatever the table and the journal hold
  module _ (t : ℕ → Row ℕ) (j : ℕ → Record) where
    pub no_rows : (r : ℕ) → (table_of (start 0 t j) r).used ≡ false
    no_rows r = view-above t 0 r (omega arith)

    pub no-records : journal_of (start 0 t j) ≡ []
    unfolding recs
    no-records = refl

    begun : (h : 0 < A.sheet.edges) → Before 0 h (start 0 t j)
    begun h = record {
      births = table_of (start 0 t j);
      names = unborn;
      paths = init.start A.sheet.edges;
      inv = record { state = rw no-records (begin sh N (top_of sh 0) (table_of (start 0 t j))); tied = begin-tied sh A.rows (table_of (start 0 t j)) (table_of (start 0 t j)) 0 no_rows; held = λ k l. absurd (omega arith); reach_rows = omega arith; reach_records = omega arith; is_done = refl };
      clean = λ b l w. absurd (no_row sh b l);
      waits = λ a l u. omega (arith, size-edge sh a u);
      gone = λ a l. absurd (omega arith);
      listed_is = ap listed no-records ∙ (unfold listed in refl);
    }

    abbrev at : ℕ → Sweep (ℕ → Row ℕ) (ℕ → Record)
    at k = near_to A.sheet A.rows A.records t j k

    next-state : (w : Sweep (ℕ → Row ℕ) (ℕ → Record)) (s : Work) (i : ℕ) (d : Result ⊤ Halt) → w.state.end ≡ d → (after_done w.state.end w (record { state = s; edge = i })).state ≡ (after_done d w (record { state = s; edge = i })).state
    next-state w s i d e = ap (λ x. (after_done x w (record { state = s; edge = i })).state) e

    pub sweep-result : (i : ℕ) (l : i < A.sheet.edges) → SweptTo i l (at (suc i)).state
    unfolding sweep_up
    sweep-result zero l = treated 0 l (start 0 t j) (begun l)
    sweep-result (suc i) l = by (sweep-result i (omega arith))
      where
        s₁ : Work
        s₁ = treat (room_in A) levels 0 (at (suc i)).state (drawn_edge A.sheet (suc i))

        by : {m : i < A.sheet.edges} → SweptTo i m (at (suc i)).state → SweptTo (suc i) l (after_done (at (suc i)).state.end (at (suc i)) (record { state = s₁; edge = suc i })).state
        by (stopped e) = rw (next-state (at (suc i)) s₁ (suc i) (Err NoFreeRow) e) (stopped e)
        by {m} (past Q) = rw (next-state (at (suc i)) s₁ (suc i) (Ok tt) Q.inv.is_done) (treated (suc i) l (at (suc i)).state (onwards i l m (at (suc i)).state Q))

    -- the edges before i are treated
    pub before-edge : (i : ℕ) (l : i < A.sheet.edges) → (at i).state.end ≡ Ok tt → Before i l (at i).state
    unfolding sweep_up
    before-edge zero l d = begun l
    before-edge (suc i) l d = by (sweep-result i (omega arith))
      where
        by : {m : i < A.sheet.edges} → SweptTo i m (at (suc i)).state → Before (suc i) l (at (suc i)).state
        by {m} (past Q) = onwards i l m (at (suc i)).state Q
        by (stopped e) = let f : (Ok tt) ≡ Err NoFreeRow = sym d ∙ e in let z : ◌≡◌ {A = ℕ} 0 1 = cc in absurd (omega arith)

    -- .. and i finds no row
    pub lacking-at : (i : ℕ) (l : i < A.sheet.edges) → (at i).state.end ≡ Ok tt → (treat (room_in A) levels 0 (at i).state (drawn_edge A.sheet i)).end ≡ Err NoFreeRow → Lacking i l (at i).state
    lacking-at i l d e = lacks i l (at i).state (before-edge i l d) e

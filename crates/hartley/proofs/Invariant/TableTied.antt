-- The rows tied to the paths. The theory knows a row by its birth, and keeps what every row was when last written, also when it is freed: `State` is the invariant
-- over these rows, with the records read as places, paid for, and with names that tell live births apart. `Tied` says what the table of rows holds of it: the
-- rows in use are the live ones but for the one in hand, which is freed before it is passed up, so that its name may be open again while its edge is treated.
use mathlib.Core.Path.{◌≡◌, refl, ap, sym, ◌∙◌}
use mathlib.Core.Bool.{true}
use mathlib.Core.List.{List}
use mathlib.Core.Logic.{⊎_elim}
use Prim.Native.Nat.{ℕ, suc, ◌+◌, ◌*◌, ◌≤◌, ◌<◌}
use native.Mathlib.Omega.{arith}
use Rattle.laws.specs.Counting.{bit, count}
use Rattle.laws.proofs.Deciding.{lt-or-le, eq-or-ne, not-both}
use Rattle.steps.specs.declared.Side.{Side}
use Rattle.steps.specs.declared.Side.TheVariants.{Rising, Falling}
use Rattle.steps.specs.Rows.{other_side, on, Row}
use Rattle.steps.specs.Plain.{put, free_row}
use Rattle.hartley.proofs.Paths.Plan.{Plan, tip}
use Rattle.hartley.proofs.Paths.DownLaw.{Rec}
use Rattle.hartley.proofs.Paths.TableWritten.{put-at, put-off}
use Rattle.hartley.proofs.Paths.Paths.{Owner, edge, row, Spot, on as on_owner, Paths, size}
use Rattle.hartley.proofs.Paths.JournalLinked.{Naming, name_of, Linked, Alone, to_place}
use Rattle.hartley.proofs.Seams.Seams.{Marks, Seams}
use Rattle.hartley.proofs.Seams.LongOutline.{Room}
use Rattle.hartley.proofs.Paths.RecordsCounted.{puts, closes, passed, branches, some?}
use Rattle.hartley.proofs.Invariant.Invariant.{Frame}

-- rows by their names, or by their births
abbrev pub Table : Type 0
Table = ℕ → Row ℕ

-- the marks that rows by their births give
unfoldable pub marks_of : Table → Marks
marks_of Y = record {
  own_level = elim [ edge e ↦ 0 | row b ↦ suc (Y b).level ];
  finished = λ s. elim [ edge e ↦ true | row b ↦ (on s (Y b).branch).finished ];
}

-- what is told of a live row
pub record Told (sh : Plan) (Y : Table) (B : Naming) (G : Paths) (b : ℕ) : Type 0 where
  pub length : (s : Side) → (on s (Y b).branch).length ≡ G.length s (row b)
  pub tip_is : (s : Side) → (on s (Y b).branch).tip ≡ tip sh s (G.end s (row b))
  pub room : Room sh (suc (Y b).level)
  pub young : b < B.born

abbrev pub row_lengths : Paths → Side → ℕ → ℕ
row_lengths G s b = G.length s (row b)

pub record State (sh : Plan) (p m : ℕ) (Y : Table) (J : List Rec) (B : Naming) (G : Paths) : Type 0 where
  pub frame : Frame sh p m G (marks_of Y)
  pub seams : Seams sh G (marks_of Y)
  pub told : (b : ℕ) → 0 < size G (row b) → Told sh Y B G b
  pub one_name : (b c : ℕ) → 0 < size G (row b) → 0 < size G (row c) → B.name b ≡ B.name c → b ≡ c
  pub linked : Linked sh J B G
  pub paid : 2 * passed J + branches (row_lengths G) B.born ≤ puts J
  pub shuts : closes J ≡ G.rounds.count

-- the table T of n rows: those in use are the live ones but for x, each as it was last written
pub record Tied (n : ℕ) (T Y : Table) (B : Naming) (G : Paths) (x : Owner) : Type 0 where
  pub of_live : (b : ℕ) → 0 < size G (row b) → (row b ≡ x → ⊥) → ((T (B.name b)).used ≡ true) × (T (B.name b) ≡ Y b)
  pub to_live : (r : ℕ) → (T r).used ≡ true → (b : ℕ) × (0 < size G (row b)) × (row b ≡ x → ⊥) × (B.name b ≡ r)
  pub named : (b : ℕ) → 0 < size G (row b) → B.name b < n

-- marks count only at live owners
pub record Agree (G : Paths) (M M' : Marks) : Type 0 where
  pub levels : (y : Owner) → 0 < size G y → M'.own_level y ≡ M.own_level y
  pub ends : (y : Owner) → 0 < size G y → (s : Side) → M'.finished s y ≡ M.finished s y
  pub edge_levels : (a : ℕ) → M'.own_level (edge a) ≡ 0
  pub edge_ends : (a : ℕ) (s : Side) → M'.finished s (edge a) ≡ true

pub remark-frame : {sh : Plan} {p m : ℕ} {G : Paths} {M M' : Marks} → Agree G M M' → Frame sh p m G M → Frame sh p m G M'
remark-frame A F = record {
  chain = F.chain;
  outs = F.outs;
  local = λ b l.
      let K = F.local b l in
      let v = A.levels (row b) l in
      let f = A.ends (row b) l in
      record { positive = rw v K.positive; peaked = λ s h. K.peaked s (sym (f s) ∙ h); ready = λ h. K.ready (λ s. sym (f s) ∙ h s); heavy = λ s k e. K.heavy s k (sym v ∙ e) };
  of_row = F.of_row;
  of_edge = F.of_edge;
  lone = F.lone;
  edge_level = A.edge_levels;
  edge_finished = A.edge_ends;
}

pub remark-seams : {sh : Plan} {G : Paths} {M M' : Marks} → Agree G M M' → Seams sh G M → Seams sh G M'
remark-seams A S s w l =
    let t = S s w l in
    record { heir = t.heir; alive = t.alive; joined = t.joined; meet = rw (A.ends w l s, A.ends t.heir t.alive (other_side s), A.levels w l, A.levels t.heir t.alive) t.meet }

-- rows that tell the same of live births
pub agree-rows : (G : Paths) (Y Y' : Table) → ((b : ℕ) → 0 < size G (row b) → ((Y' b).level ≡ (Y b).level) × ((s : Side) → (on s (Y' b).branch).finished ≡ (on s (Y b).branch).finished)) → Agree G (marks_of Y) (marks_of Y')
unfolding marks_of
agree-rows G Y Y' h = record { levels = levels'; ends = ends'; edge_levels = λ a. refl; edge_ends = λ a s. refl }
  where
    levels' : (y : Owner) → 0 < size G y → (marks_of Y').own_level y ≡ (marks_of Y).own_level y
    levels' (edge a) l = refl
    levels' (row b) l = ap suc (h b l).0

    ends' : (y : Owner) → 0 < size G y → (s : Side) → (marks_of Y').finished s y ≡ (marks_of Y).finished s y
    ends' (edge a) l s = refl
    ends' (row b) l s = (h b l).1 s

pub names_apart : {sh : Plan} {p m : ℕ} {Y : Table} {J : List Rec} {B : Naming} {G : Paths} → State sh p m Y J B G → (x : Owner) → 0 < size G x → Alone B G x
names_apart {B = B} {G = G} I x lx y ly d e = by x y lx ly d e
  where
    by : (x y : Owner) → 0 < size G x → 0 < size G y → (y ≡ x → ⊥) → name_of B y ≡ name_of B x → ⊥
    by (edge a) (edge c) l m d e = d (cc)
    by (edge a) (row c) l m d e = let z : ◌≡◌ {A = ℕ} 0 1 = cc in omega arith
    by (row b) (edge c) l m d e = let z : ◌≡◌ {A = ℕ} 0 1 = cc in omega arith
    by (row b) (row c) l m d e = let q : B.name c ≡ B.name b = cc in d (ap row (I.one_name c b m l q))

-- a birth that was never used, for a row that is opened under the name r
abbrev pub reborn : Naming → ℕ → Naming
reborn B r = record { name = put B.name B.born r; born = suc B.born }

module _ {sh : Plan} {p m : ℕ} {Y : Table} {J : List Rec} {B : Naming} {G : Paths} (I : State sh p m Y J B G) (r : ℕ) (v : Row ℕ) where
  abbrev pub B' : Naming
  B' = reborn B r

  abbrev pub Y' : Table
  Y' = put Y B.born v

  pub new-dead : size G (row B.born) ≡ 0
  new-dead = ⊎_elim (λ h. absurd (omega (arith, (I.told B.born h).young))) (λ h. omega arith) (lt-or-le 0 (size G (row B.born)))

  not_new : (b : ℕ) → 0 < size G (row b) → b ≡ B.born → ⊥
  not_new b h e = omega (arith, (I.told b h).young)

  pub live-name : (b : ℕ) → 0 < size G (row b) → B'.name b ≡ B.name b
  live-name b h = put-off B.name B.born b r (not_new b h)

  pub live-row : (b : ℕ) → 0 < size G (row b) → Y' b ≡ Y b
  live-row b h = put-off Y B.born b v (not_new b h)

  pub agree' : Agree G (marks_of Y) (marks_of Y')
  agree' = agree-rows G Y Y' (λ b h. let w = live-row b h in (ap (λ (u : Row ℕ). u.level) w, λ s. ap (λ (u : Row ℕ). (on s u.branch).finished) w))

  told' : (b : ℕ) → 0 < size G (row b) → Told sh Y' B' G b
  told' b h =
      let o = I.told b h in
      let w = live-row b h in
      record {
        length = λ s. ap (λ (u : Row ℕ). (on s u.branch).length) w ∙ o.length s;
        tip_is = λ s. ap (λ (u : Row ℕ). (on s u.branch).tip) w ∙ o.tip_is s;
        room = rw w o.room;
        young = omega (arith, o.young);
      }

  linked' : (e : ℕ) (t : Spot) → G.spot e ≡ t → to_place B G t ≡ to_place B' G t
  unfolding to_place
  linked' e (Rattle.hartley.proofs.Paths.Paths.out k i) q = refl
  linked' e (Rattle.hartley.proofs.Paths.Paths.off k) q = refl
  linked' e (on_owner (edge a) i) q = refl
  linked' e (on_owner (row b) i) q = rw (live-name b (omega (arith, I.frame.chain.within e (row b) i q))) refl

  no-branch : branches (row_lengths G) (suc B.born) ≡ branches (row_lengths G) B.born
  unfolding branches count some? size
  no-branch = omega (arith, ap (λ k. bit (some? k)) (none Falling), ap (λ k. bit (some? k)) (none Rising))
    where
      none : (s : Side) → G.length s (row B.born) ≡ 0
      none Rising = omega (arith, new-dead)
      none Falling = omega (arith, new-dead)

  -- the state is the same with the new birth
  pub reborn-state : State sh p m Y' J B' G
  reborn-state = record {
    frame = remark-frame agree' I.frame;
    seams = remark-seams agree' I.seams;
    told = told';
    one_name = λ b c h k e. I.one_name b c h k (sym (live-name b h) ∙ e ∙ live-name c k);
    linked = λ e h. I.linked e h ∙ linked' e (G.spot e) refl;
    paid = omega (arith, I.paid, no-branch);
    shuts = I.shuts;
  }

  -- so is what the table holds
  pub reborn-tied : {n : ℕ} {T : Table} {x : Owner} → Tied n T Y B G x → Tied n T Y' B' G x
  reborn-tied {T = T} K = record {
    of_live = λ b h d. let o = K.of_live b h d in rw (live-name b h) (o.0, o.1 ∙ sym (live-row b h));
    to_live = λ q u. let o = K.to_live q u in (o.0, o.1, o.2, live-name o.0 o.1 ∙ o.3);
    named = λ b h. rw (live-name b h) (K.named b h);
  }

-- what is done to the table
module _ {n : ℕ} {T Y : Table} {B : Naming} {G : Paths} {x : Owner} (one_name : (b c : ℕ) → 0 < size G (row b) → 0 < size G (row c) → B.name b ≡ B.name c → b ≡ c) (K : Tied n T Y B G x) where
  -- a row in use has one birth
  pub row_is : (r : ℕ) (u : (T r).used ≡ true) → T r ≡ Y (K.to_live r u).0
  row_is r u = let o = K.to_live r u in ap T (sym o.3) ∙ (K.of_live o.0 o.1 o.2).1

  -- a row in use written anew, and its birth so
  pub tie-write : (c : ℕ) → 0 < size G (row c) → (row c ≡ x → ⊥) → (r : ℕ) → B.name c ≡ r → (v : Row ℕ) → v.used ≡ true → Tied n (put T r v) (put Y c v) B G x
  tie-write c lc d r q v u = record {
    of_live = λ b l f. ⊎_elim (here b) (there b l f) (eq-or-ne b c);
    to_live = λ i w. ⊎_elim (λ e. (c, lc, d, q ∙ sym e)) (λ e. K.to_live i (sym (ap (λ (w : Row ℕ). w.used) (put-off T r i v e)) ∙ w)) (eq-or-ne i r);
    named = K.named;
  }
    where
      here : (b : ℕ) → b ≡ c → ((put T r v (B.name b)).used ≡ true) × (put T r v (B.name b) ≡ put Y c v b)
      here b e =
          let w : put T r v (B.name b) ≡ v = put-at T r (B.name b) v (ap B.name e ∙ q) in
          (ap (λ (w : Row ℕ). w.used) w ∙ u, w ∙ sym (put-at Y c b v e))

      there : (b : ℕ) → 0 < size G (row b) → (row b ≡ x → ⊥) → (b ≡ c → ⊥) → ((put T r v (B.name b)).used ≡ true) × (put T r v (B.name b) ≡ put Y c v b)
      there b l f e =
          let o = K.of_live b l f in
          let w : put T r v (B.name b) ≡ T (B.name b) = put-off T r (B.name b) v (λ h. e (one_name b c l lc (h ∙ sym q))) in
          (ap (λ (w : Row ℕ). w.used) w ∙ o.0, w ∙ o.1 ∙ sym (put-off Y c b v e))

  -- a row freed is in hand from now on; no live row was
  pub tie-free : ((b : ℕ) → 0 < size G (row b) → row b ≡ x → ⊥) → (c : ℕ) → 0 < size G (row c) → (r : ℕ) → B.name c ≡ r → Tied n (put T r (free_row (T r))) Y B G (row c)
  tie-free none c lc r q = record {
    of_live = λ b l f.
        let o = K.of_live b l (none b l) in
        let w : put T r (free_row (T r)) (B.name b) ≡ T (B.name b) = put-off T r (B.name b) _ (λ h. f (ap row (one_name b c l lc (h ∙ sym q)))) in
        (ap (λ (w : Row ℕ). w.used) w ∙ o.0, w ∙ o.1);
    to_live = λ i w.
        let e : i ≡ r → ⊥ = λ e. not-both w (ap (λ (w : Row ℕ). w.used) (put-at T r i (free_row (T r)) e)) in
        let o = K.to_live i (sym (ap (λ (w : Row ℕ). w.used) (put-off T r i (free_row (T r)) e)) ∙ w) in
        (o.0, o.1, (λ h. let k : o.0 ≡ c = cc in e (sym o.3 ∙ ap B.name k ∙ q)), o.3);
    named = K.named;
  }

-- no row is an edge
pub not-edge : (b a : ℕ) → row b ≡ edge a → ⊥
not-edge b a e = let z : ◌≡◌ {A = ℕ} 0 1 = cc in omega arith

-- no live row is in hand: an edge of the list is, or what was in hand is gone
pub tie_none : {n : ℕ} {T Y : Table} {B : Naming} {G : Paths} {x : Owner} → Tied n T Y B G x → ((b : ℕ) → 0 < size G (row b) → row b ≡ x → ⊥) → (a : ℕ) → Tied n T Y B G (edge a)
tie_none K none a = record {
  of_live = λ b l f. K.of_live b l (none b l);
  to_live = λ r u. let o = K.to_live r u in (o.0, o.1, not-edge o.0 a, o.3);
  named = K.named;
}

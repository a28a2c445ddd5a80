-- The edge in hand, and the row that step 1 gives it, told by its birth. A row found has a live path whose branch ends where the edge starts; a row opened has no path
-- yet, and no branch ends there. Either way what the next steps need of it is the same (`Slot`).
use mathlib.Core.Path.{◌≡◌, refl, ap, sym, ◌∙◌}
use mathlib.Core.Bool.{true, false}
use mathlib.Core.List.{List}
use mathlib.Core.Logic.{inl, inr}
use Prim.Native.Nat.{ℕ, suc, ◌<◌}
use native.Mathlib.Omega.{arith}
use Rattle.laws.proofs.Deciding.{not-both}
use Rattle.sheet.specs.Corners.{apart}
use Rattle.steps.specs.declared.Side.{Side}
use Rattle.steps.specs.declared.Side.TheVariants.{Rising, Falling}
use Rattle.steps.specs.Rows.{other_side, on, Row, LevelEdge}
use Rattle.steps.specs.SweepUp.{bottom, top}
use Rattle.steps.specs.Plain as plain
use Rattle.steps.specs.Plain.{new_row}
use Rattle.hartley.proofs.Paths.Plan.{Plan, Lawful, height, tip, Climbs}
use Rattle.hartley.proofs.Paths.DownLaw.{name_at, Rec}
use Rattle.hartley.proofs.Paths.TableWritten.{put-at}
use Rattle.hartley.proofs.Paths.Paths.{Owner, edge, row, Paths, size}
use Rattle.hartley.proofs.Paths.JournalLinked.{Naming, name_of}
use Rattle.hartley.proofs.Seams.LongOutline.{Room}
use Rattle.hartley.proofs.Invariant.Invariant.{Time, room}
use Rattle.hartley.proofs.Invariant.EdgeAttached.{InHand, Place}
use Rattle.hartley.proofs.Invariant.TableTied.{Table, marks_of, State, Tied, Agree, reborn, new-dead, live-name, agree'}

-- an edge starts on a side where it stops on the other
pub top-other : (s : Side) (e : LevelEdge ℕ) → top (other_side s) e ≡ bottom s e
top-other Rising e = refl
top-other Falling e = refl

-- what is known of the edge in hand, whose owner is x
pub record Pre (sh : Plan) (p m : ℕ) (Y : Table) (B : Naming) (G : Paths) (level : ℕ) (e : LevelEdge ℕ) (x : Owner) : Type 0 where
  pub live : 0 < size G x
  pub both_finished : (s : Side) → (marks_of Y).finished s x ≡ true
  pub level_is : (marks_of Y).own_level x ≡ level
  pub end_is : (s : Side) → tip sh s (G.end s x) ≡ top s e
  pub length_is : (s : Side) → G.length s x ≡ on s e.length
  pub mine : (a : ℕ) → x ≡ edge a → a < m
  pub goes : (s : Side) → height sh (bottom s e) < height sh (top s e) → Climbs sh s (G.end s x) × (tip sh s (G.end s x) ≡ p)
  pub flat : height sh e.tail ≡ height sh e.head → e.tail ≡ e.head
  pub is_row : e.tail ≡ e.head → (b : ℕ) × (x ≡ row b)
  pub named : name_of B x ≡ name_at level e.name
  pub parts : (s : Side) → height sh (bottom s e) < height sh (top s e) → e.apart ≡ apart sh.list (top s e)

-- an edge that goes up has two ends
pub ends-apart : (sh : Plan) (s : Side) (e : LevelEdge ℕ) → height sh (bottom s e) < height sh (top s e) → e.tail ≡ e.head → ⊥
ends-apart sh Rising e l q = omega (arith, l, ap (height sh) q)
ends-apart sh Falling e l q = omega (arith, l, ap (height sh) q)

-- and its outline has room for one level more
pub room-above : {sh : Plan} (N : Lawful sh) {p m : ℕ} (E : Time sh p m) {Y : Table} {J : List Rec} {B : Naming} {G : Paths} → State sh p m Y J B G → {level : ℕ} {e : LevelEdge ℕ} {x : Owner} → Pre sh p m Y B G level e x → (e.tail ≡ e.head → ⊥) → Room sh (suc level)
room-above N E I {x = x} P d = rw P.level_is at (room N E I.frame I.seams x P.live P.both_finished (λ q. d (sym (P.end_is Falling) ∙ q ∙ P.end_is Rising)))

-- a row in use of the level, its branch unfinished with its tip at t
pub record HasTip (v : Row ℕ) (s : Side) (level t : ℕ) : Type 0 where
  pub used : v.used ≡ true
  pub level_is : v.level ≡ level
  pub unfinished : (on s v.branch).finished ≡ false
  pub tip_is : (on s v.branch).tip ≡ t

-- an edge in hand, on its side
pub in-hand-of : {sh : Plan} {p m : ℕ} {Y : Table} {B : Naming} {G : Paths} {level : ℕ} {e : LevelEdge ℕ} {x : Owner} → Pre sh p m Y B G level e x → (s : Side) → height sh (bottom s e) < height sh (top s e) → InHand sh p m G (marks_of Y) s x
in-hand-of {sh} {e = e} P s l = let k = P.goes s l in record { live = P.live; both_finished = P.both_finished; climbs = k.0; top = k.1; bottom = omega (arith, l, ap (height sh) (P.end_is (other_side s) ∙ top-other s e), ap (height sh) (sym (P.end_is s) ∙ k.1)); mine = P.mine }

-- the row of step 1 by its birth c: its branch is unfinished, it is of the edge's level, and it is new or its tip is where the edge starts
pub record Slot (sh : Plan) (Y : Table) (B : Naming) (G : Paths) (s : Side) (level : ℕ) (x : Owner) (c : ℕ) : Type 0 where
  pub young : c < B.born
  pub level_is : (Y c).level ≡ level
  pub unfinished : (on s (Y c).branch).finished ≡ false
  pub length : (t : Side) → (on t (Y c).branch).length ≡ G.length t (row c)
  pub old : 0 < size G (row c) → (on (other_side s) (Y c).branch).tip ≡ tip sh (other_side s) (G.end (other_side s) (row c))
  pub fresh : size G (row c) ≡ 0 → (on (other_side s) (Y c).branch).tip ≡ tip sh (other_side s) (G.end (other_side s) x)
  pub room : Room sh (suc level)
  pub place : Place sh G (marks_of Y) s x (row c)
  pub alone : (b : ℕ) → 0 < size G (row b) → (row b ≡ x → ⊥) → B.name b ≡ B.name c → b ≡ c

module _ {sh : Plan} {p m : ℕ} {Y : Table} {J : List Rec} {B : Naming} {G : Paths} (I : State sh p m Y J B G)
    {level : ℕ} {e : LevelEdge ℕ} {x : Owner} (P : Pre sh p m Y B G level e x) (s : Side) where
  start_is : tip sh (other_side s) (G.end (other_side s) x) ≡ bottom s e
  start_is = P.end_is (other_side s) ∙ top-other s e

  -- a row found
  pub found-slot : (c : ℕ) → 0 < size G (row c) → HasTip (Y c) s level (bottom s e) → Slot sh Y B G s level x c
  unfolding marks_of
  found-slot c l R = record {
    young = (I.told c l).young;
    level_is = R.level_is;
    unfinished = R.unfinished;
    length = λ t. (I.told c l).length t;
    old = λ h. (I.told c l).tip_is (other_side s);
    fresh = λ h. absurd (omega (arith, h, l));
    room = rw R.level_is at (I.told c l).room;
    place = inr (l, sym ((I.told c l).tip_is s) ∙ R.tip_is ∙ sym start_is);
    alone = λ b k d q. I.one_name b c k l q;
  }

  -- a row opened under the name r, which is free, where no row in use has its tip there
  module _ {n : ℕ} {T : Table} (N : Lawful sh) (E : Time sh p m) (K : Tied n T Y B G x) (goes : height sh (bottom s e) < height sh (top s e)) (none : (q : ℕ) → HasTip (T q) s level (bottom s e) → ⊥) (r : ℕ) (free : (T r).used ≡ false) where
    abbrev new : Row ℕ
    new = new_row level (bottom s e)

    abbrev W : Table
    W = plain.put Y B.born new

    abbrev C : Naming
    C = reborn B r

    A : Agree G (marks_of Y) (marks_of W)
    A = agree' I r new

    at_new : W B.born ≡ new
    at_new = put-at Y B.born B.born new refl

    new-name : C.name B.born ≡ r
    new-name = put-at B.name B.born B.born r refl

    dead : size G (row B.born) ≡ 0
    dead = new-dead I r new

    no_length : (t : Side) → G.length t (row B.born) ≡ 0
    no_length Rising = unfold size in omega (arith, dead)
    no_length Falling = unfold size in omega (arith, dead)

    new-length : (t : Side) → (on t new.branch).length ≡ 0
    new-length Rising = refl
    new-length Falling = refl

    new-tip : (t : Side) → (on t new.branch).tip ≡ bottom s e
    new-tip Rising = refl
    new-tip Falling = refl

    new-unfinished : (t : Side) → (on t new.branch).finished ≡ false
    new-unfinished Rising = refl
    new-unfinished Falling = refl

    pub pre-opened : Pre sh p m W C G level e x
    pre-opened = record {
      live = P.live;
      both_finished = λ t. A.ends x P.live t ∙ P.both_finished t;
      level_is = A.levels x P.live ∙ P.level_is;
      end_is = P.end_is;
      length_is = P.length_is;
      mine = P.mine;
      goes = P.goes;
      flat = P.flat;
      is_row = P.is_row;
      named = same_name x P.live ∙ P.named;
      parts = P.parts;
    }
      where
        same_name : (y : Owner) → 0 < size G y → name_of C y ≡ name_of B y
        same_name (edge a) h = refl
        same_name (row b) h = ap Rattle.hartley.proofs.Paths.DownLaw.of_row (live-name I r new b h)

    nobody : (w : Owner) → 0 < size G w → (marks_of W).finished s w ≡ false → (marks_of W).own_level w ≡ suc ((marks_of W).own_level x) → tip sh s (G.end s w) ≡ tip sh (other_side s) (G.end (other_side s) x) → ⊥
    unfolding marks_of
    nobody (edge a) l f q t = not-both (A.edge_ends a s) f
    nobody (row b) l f q t =
        let lx : (marks_of W).own_level x ≡ level = A.levels x P.live ∙ P.level_is in
        let v : suc (Y b).level ≡ suc level = sym (A.levels (row b) l) ∙ q ∙ ap suc lx in
        let o = K.of_live b l (λ h. omega (arith, ap (marks_of W).own_level h, q)) in
        none (B.name b) (rw o.1 (record { used = sym (ap (λ (u : Row ℕ). u.used) o.1) ∙ o.0; level_is = omega arith; unfinished = sym (A.ends (row b) l s) ∙ f; tip_is = (I.told b l).tip_is s ∙ t ∙ start_is }))

    pub opened-slot : Slot sh W C G s level x B.born
    unfolding marks_of
    opened-slot = record {
      young = omega arith;
      level_is = ap (λ (u : Row ℕ). u.level) at_new;
      unfinished = ap (λ (u : Row ℕ). (on s u.branch).finished) at_new ∙ new-unfinished s;
      length = λ t. ap (λ (u : Row ℕ). (on t u.branch).length) at_new ∙ new-length t ∙ sym (no_length t);
      old = λ h. absurd (omega (arith, h, dead));
      fresh = λ h. ap (λ (u : Row ℕ). (on (other_side s) u.branch).tip) at_new ∙ new-tip (other_side s) ∙ sym start_is;
      room = room-above N E I P (ends-apart sh s e goes);
      place = inl (dead, ap (λ (u : Row ℕ). (on (other_side s) u.branch).finished) at_new ∙ new-unfinished (other_side s), nobody);
      alone = λ b l d q. absurd (not-both (ap (λ i. (T i).used) (sym (sym (live-name I r new b l) ∙ q ∙ new-name)) ∙ (K.of_live b l d).0) free);
    }

-- Two rooms that hold the same run alike: whatever places, tables and journals are made of, as long as places compare alike, rows look alike after
-- each write and records are kept, every step in one room has its like in the other. So what is shown of plain tables holds of slices. The first run
-- looks only as far as rows have been opened, and there its reach is its peak; the second may look further, at rows that were never opened. A place of the
-- first has a film, edges and rows keep to one, and so a row may say its film once.
use Rattle.std.specs.Prelude.{Option, Some, None, Result, ⊤, Ok, Err}
use mathlib.Core.Path.{◌≡◌, refl, sym, ap, ◌∙◌, subst}
use mathlib.Core.Bool.{Bool, true, false, not, ◌&&◌, cond}
use Prim.Native.Nat.{ℕ, zero, suc, ◌+◌, max, ◌≤◌, ◌<◌}
use native.Mathlib.Omega.{arith}
use lib.Dec.{eqb, ltb, leb}
use lib.IntN.{ℤ, pos}
use borrow.Author.Tests.{ltb-true}
use Rattle.laws.proofs.Deciding.{not-both, both_true}
use Rattle.laws.specs.Counting.{count, first}
use Rattle.laws.proofs.Further.{first-further, count-further}
use Rattle.steps.specs.declared.Side.{Side}
use Rattle.steps.specs.declared.Side.TheVariants.{Rising, Falling}
use Rattle.steps.specs.Rows.{other_side, on, Branch, Row, Chain, in_row, closing, Record, LevelEdge, Room, lowest_free}
use Rattle.steps.specs.SweepUp as up
use Rattle.steps.specs.SweepUp.{State, Sweep, has_tip, as_edge, bottom, top, side_of, longer, chain_record, found_below, most_length, levels}
use Rattle.steps.proofs.Finding.{found_at, found-same}
use Rattle.steps.proofs.Alone.{Alone, opened-name, chosen-up-to}
use Rattle.steps.specs.declared.Halt.{Halt}
use Rattle.steps.specs.declared.Halt.TheVariants.{NoFreeRow, Overrun}

-- going on after two treatments that ended alike
after_both : {A A' : Type 0} (R : A → A' → Type 0) {u u' : Result ⊤ Halt} → u ≡ u' → {x y : A} {x' y' : A'} → R x x' → (u ≡ Ok tt → R y y') → R (up.after_done u x y) (up.after_done u' x' y')
after_both {A} {A'} R {u} e {x} {y} {x'} {y'} h f = subst (λ v. R (up.after_done u x y) (up.after_done v x' y')) e (by u f)
  where
    by : (v : Result ⊤ Halt) → (v ≡ Ok tt → R y y') → R (up.after_done v x y) (up.after_done v x' y')
    by (Ok _) g = g refl
    by (Err _) g = h

module _ {P P' : Type 0} (R : P → P' → Type 0) where
  pub record AlikeBranch (b : Branch P) (b' : Branch P') : Type 0 where
    pub tip : R b.tip b'.tip
    pub length : b.length ≡ b'.length
    pub finished : b.finished ≡ b'.finished

  pub record AlikeRow (row : Row P) (row' : Row P') : Type 0 where
    pub used : row.used ≡ row'.used
    pub level : row.level ≡ row'.level
    pub branch : (s : Side) → AlikeBranch (on s row.branch) (on s row'.branch)

  pub record AlikeEdge (film : P → ℤ) (most : ℕ) (e : LevelEdge P) (e' : LevelEdge P') : Type 0 where
    pub name : e.name ≡ e'.name
    pub small : e.name ≤ most
    pub tail : R e.tail e'.tail
    pub head : R e.head e'.head
    pub one_film : film e.tail ≡ film e.head
    pub length : e.length ≡ e'.length
    pub apart : e.apart ≡ e'.apart

-- a record whose numbers are small
abbrev pub SmallChain : ℕ → Chain → Type 0
SmallChain most (in_row r) = r ≤ most
SmallChain most closing = 0 ≤ most

pub record SmallRecord (most : ℕ) (entry : Record) : Type 0 where
  pub level : entry.level ≤ levels
  pub name : entry.name ≤ most
  pub chain : SmallChain most entry.chain

-- The rooms match: R relates places, Rows relates tables in their first k rows, Kept journals in their first k records. Names up to `most` are kept.
-- The second room is looked at as far as `looked` from the start; rows that far which are not among the first k are not in use. A tip is moved only to a
-- place of the row's film. Both are rooms of a sheet alone.
pub record Match {P T J P' T' J' : Type 0} (room : Room P T J) (room' : Room P' T' J') (R : P → P' → Type 0) (film : P → ℤ) (Rows : ℕ → T → T' → Type 0) (Kept : ℕ → J → J' → Type 0) (most looked : ℕ) : Type 0 where
  pub same_film : {p q : P} → room.places.same p q ≡ true → film p ≡ film q
  pub row_film : (t : T) (r : ℕ) → film (room.table.look t r).branch.falling.tip ≡ film (room.table.look t r).branch.rising.tip
  pub opened_film : {k : ℕ} {t : T} {t' : T'} → Rows k t t' → (r level : ℕ) (p : P) → r < room.rows → (s : Side) → film (on s (room.table.look (room.table.opened t r level p) r).branch).tip ≡ film p
  pub same : {p q : P} {p' q' : P'} → R p p' → R q q' → room.places.same p q ≡ room'.places.same p' q'
  pub below : {p q : P} {p' q' : P'} → R p p' → R q q' → room.places.below p q ≡ room'.places.below p' q'
  pub look : {k : ℕ} {t : T} {t' : T'} → Rows k t t' → (r : ℕ) → r < k → AlikeRow R (room.table.look t r) (room'.table.look t' r)
  pub unopened : {k : ℕ} {t : T} {t' : T'} → Rows k t t' → (r : ℕ) → k ≤ r → r < looked → (room'.table.look t' r).used ≡ false
  pub opened : {k : ℕ} {t : T} {t' : T'} {p : P} {p' : P'} → Rows k t t' → R p p' → (r level : ℕ) → r ≤ k → r < room.rows → Rows (max k (r + 1)) (room.table.opened t r level p) (room'.table.opened t' r level p')
  pub moved : {k : ℕ} {t : T} {t' : T'} {p : P} {p' : P'} → Rows k t t' → R p p' → (r : ℕ) (s : Side) (n : ℕ) → r < k → film (on s (room.table.look t r).branch).tip ≡ film p → Rows k (room.table.moved t r s p n) (room'.table.moved t' r s p' n)
  pub finished : {k : ℕ} {t : T} {t' : T'} → Rows k t t' → (r : ℕ) (s : Side) → r < k → Rows k (room.table.finished t r s) (room'.table.finished t' r s)
  pub freed : {k : ℕ} {t : T} {t' : T'} → Rows k t t' → (r : ℕ) → r < k → Rows k (room.table.freed t r) (room'.table.freed t' r)
  pub written : {j : J} {j' : J'} {k : ℕ} {entry : Record} → Kept k j j' → k < room.records → SmallRecord most entry → Kept (k + 1) (room.journal.written j k entry) (room'.journal.written j' k entry)
  pub alone : Alone room.table
  pub alone' : Alone room'.table
  pub rows : room.rows ≡ room'.rows
  pub share : room.share ≡ room'.share
  pub records : room.records ≡ room'.records
  pub names : room.records ≤ most

module _ {P T J P' T' J' : Type 0} {room : Room P T J} {room' : Room P' T' J'} {R : P → P' → Type 0} {film : P → ℤ} {Rows : ℕ → T → T' → Type 0} {Kept : ℕ → J → J' → Type 0} {most looked : ℕ} (M : Match room room' R film Rows Kept most looked) where
  -- two states alike in every row that was ever open: the peak is at most d more than the records, and at least k; it is the first one's reach
  pub record Alike (d k : ℕ) (s : State T J) (s' : State T' J') : Type 0 where
    pub rows : Rows s.reach s.rows s'.rows
    pub journal : Kept s.records s.journal s'.journal
    pub records : s.records ≡ s'.records
    pub reach : s'.reach ≡ max s.reach looked
    pub by_name : s.peak ≡ s.reach
    pub peak : s.peak ≡ s'.peak
    pub end : s.end ≡ s'.end
    pub named : s.reach ≤ room.rows
    pub kept : s.records ≤ room.records
    pub little : s.end ≡ Ok tt → s.reach ≤ s.records + d
    pub since : k ≤ s.reach

  -- before the first edge
  pub start-alike : {t : T} {t' : T'} {j : J} {j' : J'} → Rows 0 t t' → Kept 0 j j' → Alike 0 0 (up.start 0 t j) (up.start looked t' j')
  start-alike h g =
      record {
        rows = h;
        journal = g;
        records = refl;
        reach = omega arith;
        by_name = refl;
        peak = refl;
        end = refl;
        named = omega arith;
        kept = omega arith;
        little = λ e. omega arith;
        since = omega arith;
      }

  module _ {d k : ℕ} {s : State T J} {s' : State T' J'} (A : Alike d k s s') where
    look-alike : (r : ℕ) → r < s.reach → AlikeRow R (up.look room s r) (up.look room' s' r)
    look-alike r l = M.look A.rows r l

    mine-alike : (r : ℕ) → r < s.reach → room.table.mine s.rows r ≡ room'.table.mine s'.rows r
    mine-alike r l = M.alone.mine_is s.rows r ∙ (look-alike r l).used ∙ sym (M.alone'.mine_is s'.rows r)

    not-mine : (r : ℕ) → s.reach ≤ r → r < looked → room'.table.mine s'.rows r ≡ false
    not-mine r a b = M.alone'.mine_is s'.rows r ∙ M.unopened A.rows r a b

    tip-alike : (level : ℕ) (side : Side) {p : P} {p' : P'} → R p p' → (r : ℕ) → r < s.reach → has_tip room.places level side p (up.look room s r) ≡ has_tip room'.places level side p' (up.look room' s' r)
    unfolding has_tip
    tip-alike level side h r l =
        let a = look-alike r l in
        let b = a.branch side in
        rw (a.level, b.finished, M.same b.tip h)

    find-alike : (level : ℕ) (side : Side) {p : P} {p' : P'} → R p p' → up.find room s level side p ≡ up.find room' s' level side p'
    unfolding up.find
    find-alike level side {p} {p'} h =
        found-same (λ r. room.table.mine s.rows r && has_tip room.places level side p (up.look room s r)) there s.reach looked (λ r l i. mine-alike r l i && tip-alike level side h r l i) (λ r a b. ap (λ t. t && has_tip room'.places level side p' (up.look room' s' r)) (not-mine r a b))
        ∙ ap (found_below there) (sym A.reach)
      where
        there : ℕ → Bool
        there r = room'.table.mine s'.rows r && has_tip room'.places level side p' (up.look room' s' r)

    chosen-alike : up.chosen room s ≡ up.chosen room' s'
    unfolding up.chosen lowest_free
    chosen-alike =
        M.alone.choose_is s.rows s.reach
        ∙ first-further (λ r. not (up.look room s r).used) (λ r. not (up.look room' s' r).used) s.reach looked (λ r l. ap not (look-alike r l).used) (λ r a b. ap not (M.unopened A.rows r a b))
        ∙ ap (first (λ r. not (up.look room' s' r).used)) (sym A.reach)
        ∙ sym (M.alone'.choose_is s'.rows s'.reach)

    in-use-alike : up.in_use room s ≡ up.in_use room' s'
    unfolding up.in_use
    in-use-alike =
        count-further (room.table.mine s.rows) (room'.table.mine s'.rows) s.reach looked mine-alike not-mine
        ∙ ap (count (room'.table.mine s'.rows)) (sym A.reach)

    can-open-alike : up.can_open room s ≡ up.can_open room' s'
    unfolding up.can_open
    can-open-alike = λ i. ltb (in-use-alike i) (M.share i) && ltb (chosen-alike i) (M.rows i)

  -- the same states with other rows and another end
  changed : {d d' k k' : ℕ} {s : State T J} {s' : State T' J'} {t : T} {t' : T'} {x x' : Result ⊤ Halt} → Rows s.reach t t' → x ≡ x' → (x ≡ Ok tt → s.reach ≤ s.records + d') → k' ≤ s.reach → Alike d k s s' → Alike d' k' (up.ended x (up.with_rows t s)) (up.ended x' (up.with_rows t' s'))
  changed h e l m A = record {
    rows = h;
    journal = A.journal;
    records = A.records;
    reach = A.reach;
    by_name = A.by_name;
    peak = A.peak;
    end = e;
    named = A.named;
    kept = A.kept;
    little = l;
    since = m;
  }

  weaken : {d d' k k' : ℕ} {s : State T J} {s' : State T' J'} → d ≤ d' → Alike d k s s' → k' ≤ s.reach → Alike d' k' s s'
  weaken l A m = changed A.rows A.end (λ e. omega (arith, l, A.little e)) m A

  with_rows_lem : {d k : ℕ} {s : State T J} {s' : State T' J'} {t : T} {t' : T'} → Rows s.reach t t' → Alike d k s s' → Alike d k (up.with_rows t s) (up.with_rows t' s')
  with_rows_lem h A = changed h A.end A.little A.since A

  -- a state that ended early
  end-early : {d k : ℕ} {s : State T J} {s' : State T' J'} (x : Result ⊤ Halt) → (x ≡ Ok tt → ⊥) → Alike d k s s' → Alike 0 k (up.ended x s) (up.ended x s')
  end-early x n A = changed A.rows refl (λ e. absurd (n e)) A.since A

  free-there : (s : State T J) → up.can_open room s ≡ true → up.chosen room s < room.rows
  unfolding up.can_open
  free-there s t = ltb-true (up.chosen room s) room.rows (both_true (ltb (up.in_use room s) room.share) _ t).1

  open-alike : {k : ℕ} {s : State T J} {s' : State T' J'} (A : Alike 0 k s s') (level : ℕ) {p : P} {p' : P'} → R p p' → s.end ≡ Ok tt → up.chosen room s < room.rows → Alike 1 k (up.open_row room s (up.chosen room s) level p) (up.open_row room' s' (up.chosen room s) level p')
  unfolding up.open_row
  open-alike {k} {s} {s'} A level {p} {p'} h done l =
      record {
        rows = M.opened A.rows h (up.chosen room s) level (chosen-up-to room M.alone s) l;
        journal = A.journal;
        records = A.records;
        reach = omega (arith, A.reach);
        by_name = omega (arith, A.by_name, opened-name room M.alone s);
        peak = λ i. max (A.peak i) (in-use-alike A i + 1);
        end = A.end;
        named = omega (arith, A.named, l);
        kept = A.kept;
        little = λ e. omega (arith, A.little done, chosen-up-to room M.alone s);
        since = omega (arith, A.since);
      }

  -- the opened row is within the new reach
  opened-below : (s : State T J) (level : ℕ) (p : P) → up.chosen room s < (up.open_row room s (up.chosen room s) level p).reach
  unfolding up.open_row
  opened-below s level p = omega arith

  -- and its tips are of the place's film
  open-film : {k : ℕ} {s : State T J} {s' : State T' J'} → Alike 0 k s s' → (level : ℕ) (p : P) (side : Side) → up.chosen room s < room.rows → film (on side (up.look room (up.open_row room s (up.chosen room s) level p) (up.chosen room s)).branch).tip ≡ film p
  unfolding up.open_row
  open-film {s = s} A level p side l = M.opened_film A.rows (up.chosen room s) level p l side

  open-records : (s : State T J) (r level : ℕ) (p : P) → (up.open_row room s r level p).records ≡ s.records
  unfolding up.open_row
  open-records s r level p = refl

  -- an edge's two ends are of one film
  ends-film : (side : Side) {e : LevelEdge P} {e' : LevelEdge P'} → AlikeEdge R film most e e' → film (bottom side e) ≡ film (top side e)
  ends-film Rising h = h.one_film
  ends-film Falling h = sym h.one_film

  -- steps 2 and 3
  chain-record-alike : (level : ℕ) (side : Side) {row : Row P} {row' : Row P'} {e : LevelEdge P} {e' : LevelEdge P'} (r : ℕ) → AlikeRow R row row' → AlikeEdge R film most e e' → up.chain_record room level side row e r ≡ up.chain_record room' level side row' e' r
  chain-record-alike level side r a h = λ i.
      record {
        level = level;
        name = h.name i;
        chain = in_row r;
        offset = up.signed side ((a.branch side).length i + on (other_side side) (h.length i));
      }

  longer-alike : (side : Side) {row : Row P} {row' : Row P'} {e : LevelEdge P} {e' : LevelEdge P'} → AlikeRow R row row' → AlikeEdge R film most e e' → up.longer room side row e ≡ up.longer room' side row' e'
  longer-alike side a h = λ i. (a.branch side).length i + (h.length i).falling + (h.length i).rising

  top-alike : (side : Side) {e : LevelEdge P} {e' : LevelEdge P'} → AlikeEdge R film most e e' → R (top side e) (top side e')
  top-alike Rising h = h.head
  top-alike Falling h = h.tail

  bottom-alike : (side : Side) {e : LevelEdge P} {e' : LevelEdge P'} → AlikeEdge R film most e e' → R (bottom side e) (bottom side e')
  bottom-alike Rising h = h.tail
  bottom-alike Falling h = h.head

  write-alike : {k : ℕ} {s : State T J} {s' : State T' J'} → Alike 1 k s s' → {entry entry' : Record} → entry ≡ entry' → s.records < room.records → SmallRecord most entry → Alike 0 k (up.write room s entry) (up.write room' s' entry')
  unfolding up.write
  write-alike {k} {s} {s'} A {entry} h l m =
      record {
        rows = A.rows;
        journal = rw (← h, ← A.records) (M.written A.journal l m);
        records = λ i. A.records i + 1;
        reach = A.reach;
        by_name = A.by_name;
        peak = A.peak;
        end = A.end;
        named = A.named;
        kept = omega arith;
        little = λ e. omega (arith, A.little e);
        since = A.since;
      }

  move-alike : {k : ℕ} {s : State T J} {s' : State T' J'} {p : P} {p' : P'} {n n' : ℕ} → Alike 0 k s s' → (r : ℕ) (side : Side) → R p p' → n ≡ n' → r < s.reach → film (on side (up.look room s r).branch).tip ≡ film p → Alike 0 k (up.move room s r side p n) (up.move room' s' r side p' n')
  unfolding up.move
  move-alike A r side h e l f = rw (← e) (with_rows_lem (M.moved A.rows h r side _ l f) A)

  -- a choice between states, made alike
  pick-alike : {d k : ℕ} (t t' : Bool) → t ≡ t' → {x y : State T J} {x' y' : State T' J'} → (t ≡ true → Alike d k x x') → (t ≡ false → Alike d k y y') → Alike d k (cond t x y) (cond t' x' y')
  pick-alike true true e f g = f refl
  pick-alike true false e f g = absurd (not-both refl e)
  pick-alike false true e f g = absurd (not-both refl (sym e))
  pick-alike false false e f g = g refl

  overrun : {d k : ℕ} {s : State T J} {s' : State T' J'} → Alike d k s s' → Alike 0 k (up.ended (Err Overrun) s) (up.ended (Err Overrun) s')
  overrun A = end-early (Err Overrun) (λ x. let z : ◌≡◌ {A = ℕ} 0 1 = cc in omega arith) A

  -- writing leaves the reach
  write-reach : (s : State T J) (entry : Record) → (up.write room s entry).reach ≡ s.reach
  unfolding up.write
  write-reach s entry = refl

  attach-alike : {k : ℕ} {s : State T J} {s' : State T' J'} → Alike 1 k s s' → (level : ℕ) → level ≤ levels → (side : Side) {e : LevelEdge P} {e' : LevelEdge P'} → AlikeEdge R film most e e' → (r : ℕ) → r < s.reach → r ≤ s.records → film (on side (up.look room s r).branch).tip ≡ film (bottom side e) → Alike 0 k (up.attach room s level side e r) (up.attach room' s' level side e' r)
  unfolding up.attach up.write
  attach-alike {k} {s} {s'} A level lv side {e} {e'} h r rl rr f =
      let a = M.look A.rows r rl in
      let b = chain-record-alike level side r a h in
      let n = longer-alike side a h in
      pick-alike _ _ (λ i. ltb (A.records i) (M.records i) && leb (n i) most_length)
      (λ q. let l = ltb-true _ _ (both_true (ltb s.records room.records) _ q).0 in
      move-alike (write-alike A b l (record { level = lv; name = h.small; chain = omega (arith, rr, l, M.names) })) r side (top-alike side h) n (omega (arith, rl, write-reach s (up.chain_record room level side (up.look room s r) e r))) (f ∙ ends-film side h))
      (λ q. overrun A)

  close-alike : {k : ℕ} {s : State T J} {s' : State T' J'} → Alike 0 k s s' → (level : ℕ) → level ≤ levels → {e : LevelEdge P} {e' : LevelEdge P'} → AlikeEdge R film most e e' → Alike 0 k (up.close room s level e) (up.close room' s' level e')
  unfolding up.close
  close-alike {k} {s} A level lv {e} h =
      pick-alike _ _ (λ i. ltb (A.records i) (M.records i))
      (λ q. write-alike (weaken (omega arith) A A.since) (λ i. record { level = level; name = h.name i; chain = closing; offset = pos (h.length i).falling }) (ltb-true _ _ q) (record { level = lv; name = h.small; chain = omega arith }))
      (λ q. overrun A)

  -- step 4
  meeting-alike : {k : ℕ} {s : State T J} {s' : State T' J'} → Alike 0 k s s' → (level : ℕ) (side : Side) {e : LevelEdge P} {e' : LevelEdge P'} → AlikeEdge R film most e e' → up.meeting room s level side e ≡ up.meeting room' s' level side e'
  unfolding up.meeting
  meeting-alike A level side h = λ i. up.pick_meeting (h.apart i) (find-alike A level (other_side side) (top-alike side h) i)

  finish-alike : {k : ℕ} {s : State T J} {s' : State T' J'} → Alike 0 k s s' → (r : ℕ) (side : Side) → r < s.reach → Alike 0 k (up.finish room s r side) (up.finish room' s' r side)
  unfolding up.finish
  finish-alike A r side l = with_rows_lem (M.finished A.rows r side l) A

  free-alike : {k : ℕ} {s : State T J} {s' : State T' J'} → Alike 0 k s s' → (r : ℕ) → r < s.reach → Alike 0 k (up.free room s r) (up.free room' s' r)
  unfolding up.free
  free-alike A r l = with_rows_lem (M.freed A.rows r l) A

  -- going on after a treatment
  after-alike : {k : ℕ} {x : State T J} {x' : State T' J'} → Alike 0 k x x' → {y : State T J} {y' : State T' J'} → (x.end ≡ Ok tt → Alike 0 k y y') → Alike 0 k (up.after_done x.end x y) (up.after_done x'.end x' y')
  after-alike {k} A f = after_both (Alike 0 k) A.end A f

  -- the row's tip is at the place that was looked for
  tip-there : (level : ℕ) (side : Side) (p : P) (row : Row P) → has_tip room.places level side p row ≡ true → room.places.same (on side row.branch).tip p ≡ true
  unfolding has_tip
  tip-there level side p row t =
      let b = (both_true (eqb row.level level) _ t).1 in
      (both_true (not (on side row.branch).finished) _ b).1

  found-tip : (s : State T J) (level : ℕ) (side : Side) (p : P) (q : ℕ) → up.find room s level side p ≡ Some q → (q < s.reach) × (film (on side (up.look room s q).branch).tip ≡ film p)
  unfolding up.find
  found-tip s level side p q h =
      let w = found_at _ s.reach q h in
      (w.0, M.same_film (tip-there level side p (up.look room s q) (both_true (room.table.mine s.rows q) _ w.1).1))

  found-small : {k : ℕ} {s : State T J} {s' : State T' J'} → Alike 0 k s s' → s.end ≡ Ok tt → (level : ℕ) (side : Side) (e : LevelEdge P) (q : ℕ) → up.meeting room s level side e ≡ Some q → (q < s.reach) × (q ≤ most)
  unfolding up.meeting up.pick_meeting up.find
  found-small {k} {s} A done level side e q h = by e.apart h
    where
      by : (t : Bool) → up.pick_meeting t (found_below (λ r. room.table.mine s.rows r && has_tip room.places level (other_side side) (top side e) (up.look room s r)) s.reach) ≡ Some q → (q < s.reach) × (q ≤ most)
      by true u = let z : ◌≡◌ {A = ℕ} 0 1 = cc in absurd (omega arith)
      by false u = let l = (found_at _ s.reach q u).0 in (l, omega (arith, l, A.little done, A.kept, M.names))

  edge-alike : (r : ℕ) {row : Row P} {row' : Row P'} → r ≤ most → AlikeRow R row row' → film row.branch.falling.tip ≡ film row.branch.rising.tip → AlikeEdge R film most (as_edge r row) (as_edge r row')
  unfolding as_edge
  edge-alike r l a f =
      record {
        name = refl;
        small = l;
        tail = (a.branch Falling).tip;
        head = (a.branch Rising).tip;
        one_film = f;
        length = λ i. record { rising = (a.branch Rising).length i; falling = (a.branch Falling).length i };
        apart = refl;
      }

  -- the next level is treated alike
  module _ (next : (State T J → LevelEdge P → State T J)) (next' : (State T' J' → LevelEdge P' → State T' J')) (alike : (k : ℕ) (s : State T J) (s' : State T' J') (e : LevelEdge P) (e' : LevelEdge P') → Alike 0 k s s' → s.end ≡ Ok tt → AlikeEdge R film most e e' → Alike 0 k (next s e) (next' s' e')) where
    pass-up-alike : {k : ℕ} {s : State T J} {s' : State T' J'} → Alike 0 k s s' → s.end ≡ Ok tt → (r : ℕ) → r < k → r ≤ most → Alike 0 k (up.pass_up room next s r) (up.pass_up room' next' s' r)
    unfolding up.pass_up up.free
    pass-up-alike {k} {s} {s'} A done r l m =
        let a = M.look A.rows r (omega (arith, A.since)) in
        pick-alike _ _ (λ i. (a.branch Rising).finished i && (a.branch Falling).finished i)
        (λ q. alike k (up.free room s r) (up.free room' s' r) _ _ (free-alike A r (omega (arith, l, A.since))) done (edge-alike r m a (M.row_film s.rows r)))
        (λ q. A)

    pass-both-alike : {k : ℕ} {s : State T J} {s' : State T' J'} → Alike 0 k s s' → s.end ≡ Ok tt → (q r : ℕ) → q < k → q ≤ most → r < k → r ≤ most → Alike 0 k (up.pass_both room next s q r) (up.pass_both room' next' s' q r)
    unfolding up.pass_both
    pass-both-alike A done q r ql qm rl rm =
        let B = pass-up-alike A done q ql qm in
        pick-alike (eqb q r) (eqb q r) refl (λ u. B) (λ u. after-alike B (λ v. pass-up-alike B v r rl rm))

    meet-alike : {k : ℕ} {s : State T J} {s' : State T' J'} → Alike 0 k s s' → s.end ≡ Ok tt → (side : Side) (r : ℕ) → r < k → r ≤ most → (f : Option ℕ) → ((q : ℕ) → f ≡ Some q → (q < k) × (q ≤ most)) → Alike 0 k (up.meet room next s side r f) (up.meet room' next' s' side r f)
    unfolding up.meet up.finish
    meet-alike A done side r l m None g = A
    meet-alike A done side r l m (Some q) g =
        let b = g q refl in
        pass-both-alike (finish-alike (finish-alike A q (other_side side) (omega (arith, b.0, A.since))) r side (omega (arith, l, A.since))) done q r b.0 b.1 l m

    -- steps 2 to 4; attaching leaves no smaller reach
    on-row-since : {s : State T J} {s' : State T' J'} → Alike 1 s.reach s s' → (level : ℕ) → level ≤ levels → (side : Side) {e : LevelEdge P} {e' : LevelEdge P'} → AlikeEdge R film most e e' → (r : ℕ) → r < s.reach → r ≤ s.records → film (on side (up.look room s r).branch).tip ≡ film (bottom side e) → Alike 0 (up.attach room s level side e r).reach (up.on_row room next s level side e r) (up.on_row room' next' s' level side e' r)
    unfolding up.on_row
    on-row-since {s} {s'} A level lv side {e} {e'} h r l m v =
        let B = attach-alike A level lv side h r l m v in
        let f = meeting-alike B level side h in
        let C : Alike 0 (up.attach room s level side e r).reach (up.attach room s level side e r) (up.attach room' s' level side e' r) = weaken (omega arith) B (omega arith) in
        after-alike C (λ done. rw (← f) (meet-alike C done side r (omega (arith, l, B.since)) (omega (arith, m, A.kept, M.names)) (up.meeting room (up.attach room s level side e r) level side e) (λ q u. found-small B done level side e q u)))

    on-row-alike : {k : ℕ} {s : State T J} {s' : State T' J'} → Alike 1 k s s' → (level : ℕ) → level ≤ levels → (side : Side) {e : LevelEdge P} {e' : LevelEdge P'} → AlikeEdge R film most e e' → (r : ℕ) → r < s.reach → r ≤ s.records → film (on side (up.look room s r).branch).tip ≡ film (bottom side e) → Alike 0 k (up.on_row room next s level side e r) (up.on_row room' next' s' level side e' r)
    on-row-alike {k} {s} {s'} A level lv side h r l m v =
        let A₁ : Alike 1 s.reach s s' = weaken (omega arith) A (omega arith) in
        let B = attach-alike A₁ level lv side h r l m v in
        let C = on-row-since A₁ level lv side h r l m v in
        weaken (omega arith) C (omega (arith, A.since, B.since, C.since))

    -- step 1: the row found, or a free one opened, or none
    in-chain-alike : {k : ℕ} {s : State T J} {s' : State T' J'} → Alike 0 k s s' → s.end ≡ Ok tt → (level : ℕ) → level ≤ levels → (side : Side) {e : LevelEdge P} {e' : LevelEdge P'} → AlikeEdge R film most e e' → (f : Option ℕ) → ((q : ℕ) → f ≡ Some q → (q < s.reach) × (film (on side (up.look room s q).branch).tip ≡ film (bottom side e))) → Alike 0 k (up.in_chain room next s level side e f) (up.in_chain room' next' s' level side e' f)
    unfolding up.in_chain
    in-chain-alike A done level lv side h (Some r) g =
        let w = g r refl in
        on-row-alike (weaken (omega arith) A A.since) level lv side h r w.0 (omega (arith, w.0, A.little done)) w.1
    in-chain-alike {k} {s} {s'} A done level lv side {e} {e'} h None g = rw (← chosen-alike A) (pick-alike (up.can_open room s) (up.can_open room' s') (can-open-alike A) opens (λ u. none))
      where
        free : ℕ
        free = up.chosen room s

        opens : up.can_open room s ≡ true → Alike 0 k (up.on_row room next (up.open_row room s free level (bottom side e)) level side e free) (up.on_row room' next' (up.open_row room' s' free level (bottom side e')) level side e' free)
        opens t =
            let l = free-there s t in
            let B = open-alike A level (bottom-alike side h) done l in
            on-row-alike B level lv side h free (opened-below s level (bottom side e)) (omega (arith, chosen-up-to room M.alone s, A.little done, open-records s free level (bottom side e))) (open-film A level (bottom side e) side l)

        none : Alike 0 k (up.ended (Err NoFreeRow) s) (up.ended (Err NoFreeRow) s')
        none = end-early (Err NoFreeRow) (λ x. let z : ◌≡◌ {A = ℕ} 0 1 = cc in omega arith) A

    steps_alike : {k : ℕ} {s : State T J} {s' : State T' J'} → Alike 0 k s s' → s.end ≡ Ok tt → (level : ℕ) → level ≤ levels → (side : Side) {e : LevelEdge P} {e' : LevelEdge P'} → AlikeEdge R film most e e' → Alike 0 k (up.steps_on room next s level side e) (up.steps_on room' next' s' level side e')
    unfolding up.steps_on
    steps_alike {k} {s} A done level lv side {e} h =
        rw (← find-alike A level side (bottom-alike side h)) (in-chain-alike A done level lv side h (up.find room s level side (bottom side e)) (found-tip s level side (bottom side e)))

  side-alike : {e : LevelEdge P} {e' : LevelEdge P'} → AlikeEdge R film most e e' → side_of room.places e ≡ side_of room'.places e'
  side-alike h = λ i. cond (M.below h.tail h.head i) Rising Falling

  -- every treatment is alike, by the levels left
  treat-alike : (left level : ℕ) → level + left ≤ levels → (k : ℕ) (s : State T J) (s' : State T' J') (e : LevelEdge P) (e' : LevelEdge P') → Alike 0 k s s' → s.end ≡ Ok tt → AlikeEdge R film most e e' → Alike 0 k (up.treat room left level s e) (up.treat room' left level s' e')
  unfolding up.treat
  treat-alike zero level l k s s' e e' A done h =
      pick-alike _ _ (M.same h.tail h.head) (λ q. close-alike A level (omega arith) h) (λ q. overrun A)
  treat-alike (suc left) level l k s s' e e' A done h =
      pick-alike _ _ (M.same h.tail h.head) (λ q. close-alike A level (omega arith) h)
      (λ q. rw (← side-alike h) (steps_alike (up.treat room left (suc level)) (up.treat room' left (suc level)) (λ n t t' f f' B d g. treat-alike left (suc level) (omega arith) n t t' f f' B d g) A done level (omega arith) (side_of room.places e) h))

  pub record AlikeSweep (w : Sweep T J) (w' : Sweep T' J') : Type 0 where
    pub state : Alike 0 0 w.state w'.state
    pub edge : w.edge ≡ w'.edge

  -- the sweep up in the two rooms
  pub sweep-alike : (list : ℕ → LevelEdge P) (list' : ℕ → LevelEdge P') (n : ℕ) → ((i : ℕ) → i < n → AlikeEdge R film most (list i) (list' i)) → {s : State T J} {s' : State T' J'} → Alike 0 0 s s' → AlikeSweep (up.sweep_up room list s n) (up.sweep_up room' list' s' n)
  unfolding up.sweep_up
  sweep-alike list list' zero h A = record { state = A; edge = refl }
  sweep-alike list list' (suc n) h {s} {s'} A =
      let B = sweep-alike list list' n (λ i l. h i (omega arith)) A in
      after_both AlikeSweep B.state.end B (λ done. record { state = treat-alike levels 0 (omega arith) 0 _ _ _ _ B.state done (h n (omega arith)); edge = refl })

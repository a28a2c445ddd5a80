-- The index stays good, and a search by it finds what a look at every row finds. Whatever has the tip that is looked for is live in its slot, so where the slot tells one row,
-- that is the row. A write changes one row; the index then knows its new tips' places, and a mark tells the slot of a tip that it did not know of.
use Rattle.std.specs.Prelude.{Some, None}
use mathlib.Core.Path.{◌≡◌, refl, sym, ap, ◌∙◌, subst}
use mathlib.Core.Bool.{Bool, true, false, not, cond, ◌&&◌}
use mathlib.Core.Logic.{◌⊎◌, inl, inr, ⊎_elim}
use mathlib.Core.List.{List}
use Prim.Native.Nat.{ℕ, zero, suc, ◌+◌, ◌*◌, ◌/◌, ◌≤◌, ◌<◌}
use native.Mathlib.Omega.{arith}
use lib.Dec.{eqb, ltb, leb}
use lib.IntN.{ℤ}
use lib.ListN.{length, get_or, length-set}
use lib.Seq.{get_or-set_same, get_or-set_other}
use borrow.Author.Tests.{lt-ltb, ltb-true, lt-leb, leb-true, eq-eqb, ne_eqb}
use Rattle.laws.proofs.Deciding.{lt-or-le, eq-or-ne, true-or-false, not-both, both_true, true-both}
use Rattle.laws.proofs.Tests.{and-false, or-true}
use Rattle.sheet.specs.Points.{same_z, is_same}
use Rattle.sheet.proofs.Signed.{same_z-true}
use Rattle.sheet.proofs.Ranks.{same_point}
use Rattle.steps.specs.declared.Side.{Side}
use Rattle.steps.specs.declared.Side.TheVariants.{Rising, Falling}
use Rattle.steps.specs.Rows.{other_side, on, Row, Branch}
use Rattle.steps.specs.SweepUp.{found_below, has_tip}
use Rattle.steps.proofs.Finding.{found_at}
use Rattle.steps.specs.Plain.{with_branch, finished_branch}
use Rattle.rows.specs.declared.Place.{Place}
use Rattle.rows.specs.Layout.{film_places, film_in, on_film, HasRow, look_row, has_tip_in, opened_in, moved_in, finished_in, freed_in}
use Rattle.finding.specs.Free.{peak_in, InUse}
use Rattle.finding.specs.Index.{crowded, side_step, upper, slot_of, tip_at, tip_of, live, owner_in, numbered_in, live_in, row_owner, crowds, marked_in, look_at, told, Owns, Tips, none, only, all_on, Long, Indexed}
use Rattle.rows.proofs.Searching.{found, nothing, tip-parts}
use Rattle.rows.proofs.Writing.{OnlyRow, other_row, opened-only, opened-here, moved-only, moved_here, finished-only, finished-here, freed-only, freed-here}

-- the two sides differ, and two sides are one or not
rising-falling : Rising ≡ Falling → ⊥
rising-falling e = let z : ◌≡◌ {A = ℕ} 0 1 = ap side_step e in omega arith

same-side : (x y : Side) → (x ≡ y) ⊎ (x ≡ y → ⊥)
same-side Rising Rising = inl refl
same-side Rising Falling = inr rising-falling
same-side Falling Rising = inr (λ e. rising-falling (sym e))
same-side Falling Falling = inl refl

not-other : (side : Side) → side ≡ other_side side → ⊥
not-other Rising e = rising-falling e
not-other Falling e = rising-falling (sym e)

-- a slot is one of the first four of its six, and its side is told by its place among them
low-slot : (level : ℕ) (side : Side) → (upper level + side_step side < 4) × ((upper level ≡ 0) ⊎ (upper level ≡ 2))
low-slot zero Rising = (omega arith, inl refl)
low-slot zero Falling = (omega arith, inl refl)
low-slot (suc level) Rising = (omega arith, inr refl)
low-slot (suc level) Falling = (omega arith, inr refl)

slot-not-tip : (level k r : ℕ) (x y : Side) → slot_of level x k ≡ tip_at r y → ⊥
unfolding slot_of tip_at
slot-not-tip level k r x Rising e = omega (arith, e, (low-slot level x).0)
slot-not-tip level k r x Falling e = omega (arith, e, (low-slot level x).0)

slot-side : (a b j k : ℕ) (x y : Side) → slot_of a x j ≡ slot_of b y k → x ≡ y
unfolding slot_of
slot-side a b j k Rising Rising e = refl
slot-side a b j k Falling Falling e = refl
slot-side a b j k Rising Falling e =
    absurd (⊎_elim (λ p. ⊎_elim (λ q. omega (arith, e, p, q)) (λ q. omega (arith, e, p, q)) (low-slot b Falling).1) (λ p. ⊎_elim (λ q. omega (arith, e, p, q)) (λ q. omega (arith, e, p, q)) (low-slot b Falling).1) (low-slot a Rising).1)
slot-side a b j k Falling Rising e =
    absurd (⊎_elim (λ p. ⊎_elim (λ q. omega (arith, e, p, q)) (λ q. omega (arith, e, p, q)) (low-slot b Rising).1) (λ p. ⊎_elim (λ q. omega (arith, e, p, q)) (λ q. omega (arith, e, p, q)) (low-slot b Rising).1) (low-slot a Falling).1)

tip_other : (q r : ℕ) (x y : Side) → (q ≡ r → ⊥) → tip_at q x ≡ tip_at r y → ⊥
unfolding tip_at
tip_other q r Rising Rising d e = omega (arith, d, e)
tip_other q r Rising Falling d e = omega (arith, d, e)
tip_other q r Falling Rising d e = omega (arith, d, e)
tip_other q r Falling Falling d e = omega (arith, d, e)

tip-side : (r : ℕ) (x y : Side) → (x ≡ y → ⊥) → tip_at r x ≡ tip_at r y → ⊥
unfolding tip_at
tip-side r Rising Rising d e = d refl
tip-side r Rising Falling d e = omega (arith, e)
tip-side r Falling Rising d e = omega (arith, e)
tip-side r Falling Falling d e = d refl

tip-within : (r : ℕ) (side : Side) → tip_at r side < 6 * r + 6
unfolding tip_at
tip-within r Rising = omega arith
tip-within r Falling = omega arith

-- a row with the tip that is looked for is live, of the level, with its tip at the place
module _ (rows : List ℤ) (level : ℕ) (side : Side) (p : Place) (k : ℕ) (t : has_tip_in rows level side p k ≡ true) where
  tip-there : tip_of rows k side ≡ p
  unfolding film_places
  tip-there =
      let q = tip_of rows k side in
      let h = both_true (same_z q.film p.film) (is_same q.point p.point) (tip-parts rows level side p k t).1 in
      let ef = same_z-true q.film p.film h.0 in
      let ep = same_point q.point p.point h.1 in
      λ i. record { film = ef i; point = ep i }

  tip-live : live rows k side ≡ true
  unfolding live has_tip_in has_tip
  tip-live =
      let row = look_row rows k in
      let u = both_true row.used _ t in
      let l = both_true (eqb row.level level) _ u.1 in
      true-both u.0 (both_true (not (on side row.branch).finished) _ l.1).0

-- the search
module _ {number : Place → ℕ} {index : List ℕ} {rows : List ℤ} {counts : List ℕ} (level : ℕ) (side : Side) (p : Place) (I : Indexed number index rows counts (all_on (other_side side))) where
  abbrev slot : ℕ
  slot = slot_of level side (number p)

  has : ℕ → Bool
  has = has_tip_in rows level side p

  -- a row that has the tip is told by the slot
  told-there : slot < length index → Long index counts → (k : ℕ) → k < peak_in counts → has k ≡ true → Owns (get_or index slot 0) k
  unfolding has
  told-there there long k l t =
      let e : slot_of (look_row rows k).level side (number (tip_of rows k side)) ≡ slot = rw ((tip-parts rows level side p k t).0, tip-there rows level side p k t) refl in
      rw (← e) (I.owners long k l side (not-other side) (tip-live rows level side p k t) (rw e there))

  -- where the slot tells one row, no other has the tip
  sole : slot < length index → Long index counts → (q k : ℕ) → get_or index slot 0 ≡ suc q → (q ≡ 65534 → ⊥) → k < peak_in counts → has k ≡ true → k ≡ q
  sole there long q k e d l t = ⊎_elim (λ o. omega (arith, o, e)) (λ o. absurd (d (omega (arith, o, e)))) (told-there there long k l t)

  nobody : ((k : ℕ) → k < peak_in counts → has k ≡ true → ⊥) → None ≡ found_below has (peak_in counts)
  nobody never = nothing has (peak_in counts) (peak_in counts) (omega arith) (λ k l. ⊎_elim (λ t. absurd (never k l t)) (λ f. f) (true-or-false (has k))) (λ k l h. absurd (omega (arith, l, h)))

  by-slot : slot < length index → Long index counts → (o : ℕ) → get_or index slot 0 ≡ o → told o rows (peak_in counts) level side p ≡ found_below has (peak_in counts)
  unfolding told look_at has
  by-slot there long zero e = nobody (λ k l t. ⊎_elim (λ o. omega (arith, o, e)) (λ o. omega (arith, o, e)) (told-there there long k l t))
  by-slot there long (suc q) e = ⊎_elim (λ c. rw (eq-eqb q 65534 c)) one (eq-or-ne q 65534)
    where
      one : (q ≡ 65534 → ⊥) → told (suc q) rows (peak_in counts) level side p ≡ found_below has (peak_in counts)
      one d = rw (ne_eqb q 65534 d) (by (ltb q (peak_in counts) && has_tip_in rows level side p q) refl)
        where
          by : (t : Bool) → (ltb q (peak_in counts) && has_tip_in rows level side p q) ≡ t → cond t (Some q) None ≡ found_below has (peak_in counts)
          by true h =
              let b = both_true (ltb q (peak_in counts)) (has_tip_in rows level side p q) h in
              let below : q < peak_in counts = ltb-true _ _ b.0 in
              found has (peak_in counts) (peak_in counts) (omega arith) q below b.1
              (λ k l. ⊎_elim (λ t. absurd (omega (arith, l, sole there long q k e d (omega (arith, l, below)) t))) (λ f. f) (true-or-false (has k)))
          by false h = nobody (λ k l t.
              let s = sole there long q k e d l t in
              not-both (true-both (lt-ltb q (peak_in counts) (omega (arith, s, l))) (subst (λ (x : ℕ). has x ≡ true) s t)) h)

  found-by-index : told (owner_in index (peak_in counts) slot) rows (peak_in counts) level side p ≡ found_below (has_tip_in rows level side p) (peak_in counts)
  unfolding owner_in has told
  found-by-index = by (ltb slot (length index) && leb (peak_in counts) (length index / 6)) refl
    where
      by : (t : Bool) → (ltb slot (length index) && leb (peak_in counts) (length index / 6)) ≡ t →
          told (cond t (get_or index slot 0) crowded) rows (peak_in counts) level side p ≡ found_below (has_tip_in rows level side p) (peak_in counts)
      by true h =
          let b = both_true (ltb slot (length index)) _ h in
          by-slot (ltb-true _ _ b.0) (leb-true _ _ b.1) (get_or index slot 0) refl
      by false h = refl

-- the search by a number that is the place's where the index is long enough for the rows
pub found-by-number : {number : Place → ℕ} {index : List ℕ} {rows : List ℤ} {counts : List ℕ} (level : ℕ) (side : Side) (p : Place) → Indexed number index rows counts (all_on (other_side side)) →
    (k : ℕ) → (Long index counts → k ≡ number p) →
    told (owner_in index (peak_in counts) (slot_of level side k)) rows (peak_in counts) level side p ≡ found_below (has_tip_in rows level side p) (peak_in counts)
unfolding owner_in told
found-by-number {index = index} {rows} {counts} level side p I k place = ⊎_elim
    (λ short. rw (lt-leb (peak_in counts) (length index / 6) short, and-false))
    (λ long. rw (place long) (found-by-index level side p I))
    (lt-or-le (length index / 6) (peak_in counts))

-- what is found has the tip, and lies below the peak
module _ (rows : List ℤ) (level : ℕ) (side : Side) (p : Place) (peak q : ℕ) where
  pub told_at : (o : ℕ) → told o rows peak level side p ≡ Some q → (has_tip_in rows level side p q ≡ true) × (q < peak)
  unfolding told look_at
  told_at zero e = let z : ◌≡◌ {A = ℕ} 0 1 = cc in absurd (omega arith)
  told_at (suc m) e = by (eqb m 65534) e
    where
      by : (t : Bool) → cond t (found_below (has_tip_in rows level side p) peak) (look_at rows peak level side p m) ≡ Some q → (has_tip_in rows level side p q ≡ true) × (q < peak)
      by true h = let f = found_at (has_tip_in rows level side p) peak q h in (f.1, f.0)
      by false h = look (ltb m peak && has_tip_in rows level side p m) refl h
        where
          look : (t : Bool) → (ltb m peak && has_tip_in rows level side p m) ≡ t → cond t (Some m) None ≡ Some q → (has_tip_in rows level side p q ≡ true) × (q < peak)
          look true t h =
              let b = both_true (ltb m peak) (has_tip_in rows level side p m) t in
              let s : m ≡ q = cc in
              (subst (λ (x : ℕ). has_tip_in rows level side p x ≡ true) s b.1, subst (λ (x : ℕ). x < peak) s (ltb-true _ _ b.0))
          look false t h = let z : ◌≡◌ {A = ℕ} 0 1 = cc in absurd (omega arith)

-- fewer tips need not be known
pub but-more : {number : Place → ℕ} {index : List ℕ} {rows : List ℤ} {counts : List ℕ} {but but₁ : Tips} → Indexed number index rows counts but →
    ((q : ℕ) (x : Side) → but q x → but₁ q x) → Indexed number index rows counts but₁
but-more I more = record { numbers = I.numbers; owners = λ long r l side b. I.owners long r l side (λ c. b (more r side c)); in_use = I.in_use }

-- a mark: the slot of row r's tip tells it, and every other live row that it told makes it crowded
module _ {number : Place → ℕ} {index : List ℕ} {rows : List ℤ} {counts : List ℕ} {but but₁ : Tips} (I : Indexed number index rows counts but) (r level : ℕ) (side : Side) {k : ℕ}
    (of-level : (look_row rows r).level ≡ level) (place : Long index counts → k ≡ number (tip_of rows r side)) (less : (q : ℕ) (x : Side) → but q x → but₁ q x ⊎ ((q ≡ r) × (x ≡ side))) where
  abbrev marked-slot : ℕ
  marked-slot = slot_of level side k

  abbrev after : List ℕ
  after = marked_in rows index level side k r

  after-size : length after ≡ length index
  unfolding marked_in
  after-size = length-set index _ _

  after-other : (j : ℕ) → (j ≡ marked-slot → ⊥) → get_or after j 0 ≡ get_or index j 0
  unfolding marked_in
  after-other j d = get_or-set_other index marked-slot j _ 0 d

  after-here : marked-slot < length index → get_or after marked-slot 0 ≡ cond (crowds rows index side marked-slot r (get_or index marked-slot 0)) crowded (row_owner r)
  unfolding marked_in
  after-here there = get_or-set_same index marked-slot _ 0 there

  owns-row : (t : Bool) → Owns (cond t crowded (row_owner r)) r
  owns-row true = inr refl
  owns-row false = by (ltb r 65534)
    where
      by : (t : Bool) → Owns (cond t (r + 1) crowded) r
      by true = inl refl
      by false = inr refl

  -- another row that the slot told, or one of several
  stays : (q o : ℕ) → Owns o q → (q ≡ r → ⊥) → live_in rows index side marked-slot q ≡ true → crowds rows index side marked-slot r o ≡ true
  unfolding crowds
  stays q zero (inl e) d l = absurd (omega (arith, e))
  stays q zero (inr e) d l = absurd (omega (arith, e))
  stays q (suc m) (inr e) d l = let c : m ≡ 65534 = omega (arith, e) in rw (eq-eqb m 65534 c)
  stays q (suc m) (inl e) d l = let c : m ≡ q = omega (arith, e) in rw (c, ne_eqb q r d, l, or-true)

  -- a live row of the side whose slot this is
  lives : Long index counts → (q : ℕ) → q < peak_in counts → (x : Side) → x ≡ side → live rows q x ≡ true →
      slot_of (look_row rows q).level x (number (tip_of rows q x)) ≡ marked-slot → live_in rows index side marked-slot q ≡ true
  unfolding live_in
  lives long q l x s a e =
      let in-slot : slot_of (look_row rows q).level side (get_or index (tip_at q side) 0) ≡ marked-slot = rw (I.numbers long q l side) (rw s at e) in
      true-both (rw s at a) (eq-eqb _ _ in-slot)

  pub indexed-marked : Indexed number after rows counts but₁
  indexed-marked = record {
    numbers = λ long q l x. after-other (tip_at q x) (λ e. slot-not-tip level k q side x (sym e)) ∙ I.numbers (rw after-size at long) q l x;
    owners = λ long q l x b a there. owner (rw after-size at long) q l x b a (rw after-size at there);
    in_use = I.in_use;
  }
    where
      mine : Long index counts → slot_of (look_row rows r).level side (number (tip_of rows r side)) ≡ marked-slot
      mine long = rw (of-level, ← place long)

      here : Long index counts → slot_of (look_row rows r).level side (number (tip_of rows r side)) < length index → Owns (get_or after (slot_of (look_row rows r).level side (number (tip_of rows r side))) 0) r
      here long there = rw (mine long, after-here (rw (mine long) at there)) (owns-row (crowds rows index side marked-slot r (get_or index marked-slot 0)))

      another : Long index counts → (q : ℕ) → q < peak_in counts → (x : Side) → (but q x → ⊥) → ((q ≡ r) × (x ≡ side) → ⊥) → live rows q x ≡ true →
          slot_of (look_row rows q).level x (number (tip_of rows q x)) < length index → Owns (get_or after (slot_of (look_row rows q).level x (number (tip_of rows q x))) 0) q
      another long q l x b apart a there =
          let old = I.owners long q l x b a there in
          ⊎_elim
          (λ e.
          let s = slot-side (look_row rows q).level level (number (tip_of rows q x)) k x side e in
          let in-slot : live_in rows index side marked-slot q ≡ true = lives long q l x s a e in
          let c = stays q (get_or index marked-slot 0) (rw e at old) (λ z. apart (z, s)) in-slot in
          rw (e, after-here (rw e at there), c) (inr refl))
          (λ d. rw (after-other (slot_of (look_row rows q).level x (number (tip_of rows q x))) d) old)
          (eq-or-ne (slot_of (look_row rows q).level x (number (tip_of rows q x))) marked-slot)

      owner : Long index counts → (q : ℕ) → q < peak_in counts → (x : Side) → (but₁ q x → ⊥) → live rows q x ≡ true →
          slot_of (look_row rows q).level x (number (tip_of rows q x)) < length index → Owns (get_or after (slot_of (look_row rows q).level x (number (tip_of rows q x))) 0) q
      owner long q l x b a there = ⊎_elim
          (λ (e : q ≡ r). ⊎_elim
          (λ (z : x ≡ side). rw (e, z) (here long (rw (e, z) at there)))
          (λ z. another long q l x (λ c. ⊎_elim b (λ w. z w.1) (less q x c)) (λ w. z w.1) a there)
          (same-side x side))
          (λ d. another long q l x (λ c. ⊎_elim b (λ w. d w.0) (less q x c)) (λ w. d w.0) a there)
          (eq-or-ne q r)

-- a row that is the same has the same tips, and is live or not as before
module _ (rows rows₁ : List ℤ) (q : ℕ) (e : look_row rows₁ q ≡ look_row rows q) (side : Side) where
  tip_same : tip_of rows₁ q side ≡ tip_of rows q side
  tip_same = ap (λ (row : Row Place). (on side row.branch).tip) e

  live_same : live rows₁ q side ≡ live rows q side
  unfolding live
  live_same = ap (λ (row : Row Place). row.used && not (on side row.branch).finished) e

-- rows₁ is rows but for row r, and the index and the counts have changed along with it: what holds of row r is shown, and of any other row it held before
module _ {number : Place → ℕ} {index : List ℕ} {rows : List ℤ} {counts : List ℕ} {but : Tips} (I : Indexed number index rows counts but) (r : ℕ)
    (index₁ : List ℕ) (rows₁ : List ℤ) (counts₁ : List ℕ) (but₁ : Tips)
    (o : OnlyRow rows rows₁ r) (size : length index₁ ≡ length index) (slots : (j : ℕ) → ((x : Side) → j ≡ tip_at r x → ⊥) → get_or index₁ j 0 ≡ get_or index j 0)
    (fewer : peak_in counts ≤ peak_in counts₁) (below : (q : ℕ) → (q ≡ r → ⊥) → q < peak_in counts₁ → q < peak_in counts)
    (more : (q : ℕ) (x : Side) → (q ≡ r → ⊥) → but q x → but₁ q x) (used : InUse counts₁ rows₁) where
  abbrev slot_now : ℕ → Side → ℕ
  slot_now q side = slot_of (look_row rows₁ q).level side (number (tip_of rows₁ q side))

  long-before : peak_in counts₁ ≤ length index₁ / 6 → Long index counts
  long-before long = let h : peak_in counts₁ ≤ length index / 6 = rw size at long in omega (arith, h, fewer)

  slots_kept : (level k : ℕ) (side : Side) → get_or index₁ (slot_of level side k) 0 ≡ get_or index (slot_of level side k) 0
  slots_kept level k side = slots (slot_of level side k) (λ x e. slot-not-tip level k r side x e)

  other-number : peak_in counts₁ ≤ length index₁ / 6 → (q : ℕ) → q < peak_in counts₁ → (side : Side) → (q ≡ r → ⊥) → get_or index₁ (tip_at q side) 0 ≡ number (tip_of rows₁ q side)
  other-number long q l side d =
      slots (tip_at q side) (λ x e. tip_other q r side x d e) ∙ I.numbers (long-before long) q (below q d l) side ∙ ap number (sym (tip_same rows rows₁ q (other_row o q d) side))

  slot_same : (q : ℕ) → (q ≡ r → ⊥) → (side : Side) → slot_now q side ≡ slot_of (look_row rows q).level side (number (tip_of rows q side))
  slot_same q d side = ap (λ (row : Row Place). slot_of row.level side (number (on side row.branch).tip)) (other_row o q d)

  other-owner : peak_in counts₁ ≤ length index₁ / 6 → (q : ℕ) → q < peak_in counts₁ → (side : Side) → (q ≡ r → ⊥) → (but₁ q side → ⊥) → live rows₁ q side ≡ true →
      slot_now q side < length index₁ → Owns (get_or index₁ (slot_now q side) 0) q
  other-owner long q l side d b a there =
      let old = I.owners (long-before long) q (below q d l) side (λ c. b (more q side d c)) (sym (live_same rows rows₁ q (other_row o q d) side) ∙ a) (subst (λ (j : ℕ). j < length index) (slot_same q d side) (rw size at there)) in
      subst (λ (j : ℕ). Owns j q) (sym (slots_kept (look_row rows₁ q).level (number (tip_of rows₁ q side)) side)) (subst (λ (j : ℕ). Owns (get_or index j 0) q) (sym (slot_same q d side)) old)

  row-changed : (peak_in counts₁ ≤ length index₁ / 6 → r < peak_in counts₁ → (side : Side) → get_or index₁ (tip_at r side) 0 ≡ number (tip_of rows₁ r side)) →
      (Long index counts → r < peak_in counts₁ → (side : Side) → (but₁ r side → ⊥) → live rows₁ r side ≡ true → slot_now r side < length index → Owns (get_or index (slot_now r side) 0) r) →
      Indexed number index₁ rows₁ counts₁ but₁
  row-changed number-here owner_here = record {
    numbers = λ long q l side. ⊎_elim (λ (e : q ≡ r). rw e (number-here long (rw e at l) side)) (other-number long q l side) (eq-or-ne q r);
    owners = λ long q l side b a there. ⊎_elim
        (λ (e : q ≡ r).
        subst (λ (x : ℕ). Owns (get_or index₁ (slot_now x side) 0) x) (sym e)
        (subst (λ (j : ℕ). Owns j r) (sym (slots_kept (look_row rows₁ r).level (number (tip_of rows₁ r side)) side))
        (owner_here (long-before long) (rw e at l) side (subst (λ (x : ℕ). but₁ x side → ⊥) e b) (subst (λ (x : ℕ). live rows₁ x side ≡ true) e a) (subst (λ (x : ℕ). slot_now x side < length index) e (rw size at there)))))
        (λ d. other-owner long q l side d b a there) (eq-or-ne q r);
    in_use = used;
  }

-- a tip's number set
module _ (index : List ℕ) (r : ℕ) (side : Side) (k : ℕ) where
  pub numbered-size : length (numbered_in index r side k) ≡ length index
  unfolding numbered_in
  numbered-size = length-set index _ _

  numbered-other : (j : ℕ) → (j ≡ tip_at r side → ⊥) → get_or (numbered_in index r side k) j 0 ≡ get_or index j 0
  unfolding numbered_in
  numbered-other j d = get_or-set_other index (tip_at r side) j _ 0 d

  numbered-here : tip_at r side < length index → get_or (numbered_in index r side k) (tip_at r side) 0 ≡ k
  unfolding numbered_in
  numbered-here there = get_or-set_same index (tip_at r side) _ 0 there

-- where the index is long enough for the rows, it has the numbers of a row below the peak
tip-fits : (index : List ℕ) (r peak : ℕ) (side : Side) → r < peak → peak ≤ length index / 6 → tip_at r side < length index
tip-fits index r peak side l long = omega (arith, l, long, tip-within r side)

module _ {number : Place → ℕ} {index : List ℕ} {rows : List ℤ} {counts : List ℕ} (r : ℕ) (has : HasRow rows r) where
  -- row r opened at a place: the index knows the place, and not yet the tips
  pub indexed-opened : {counts₁ : List ℕ} → Indexed number index rows counts none → (level : ℕ) (p : Place) {k : ℕ} → (Long index counts → k ≡ number p) →
      peak_in counts ≤ peak_in counts₁ → ((q : ℕ) → (q ≡ r → ⊥) → q < peak_in counts₁ → q < peak_in counts) → InUse counts₁ (opened_in rows r level p) →
      Indexed number (numbered_in (numbered_in index r Rising k) r Falling k) (opened_in rows r level p) counts₁ (λ q x. q ≡ r)
  indexed-opened {counts₁} I level p {k} place fewer below used = row-changed I r (numbered_in (numbered_in index r Rising k) r Falling k) (opened_in rows r level p) counts₁ (λ q x. q ≡ r) (opened-only rows r level p) size slots fewer below (λ q x d c. absurd c) used here (λ long l side b. absurd (b refl))
    where
      size : length (numbered_in (numbered_in index r Rising k) r Falling k) ≡ length index
      size = numbered-size (numbered_in index r Rising k) r Falling k ∙ numbered-size index r Rising k

      slots : (j : ℕ) → ((x : Side) → j ≡ tip_at r x → ⊥) → get_or (numbered_in (numbered_in index r Rising k) r Falling k) j 0 ≡ get_or index j 0
      slots j d = numbered-other (numbered_in index r Rising k) r Falling k j (d Falling) ∙ numbered-other index r Rising k j (d Rising)

      told-number : (side : Side) → tip_at r side < length index → get_or (numbered_in (numbered_in index r Rising k) r Falling k) (tip_at r side) 0 ≡ k
      told-number Rising there = numbered-other (numbered_in index r Rising k) r Falling k (tip_at r Rising) (tip-side r Rising Falling rising-falling) ∙ numbered-here index r Rising k there
      told-number Falling there = numbered-here (numbered_in index r Rising k) r Falling k (rw (numbered-size index r Rising k) there)

      tip-new : (side : Side) → tip_of (opened_in rows r level p) r side ≡ p
      tip-new Rising = ap (λ (row : Row Place). row.branch.rising.tip) (opened-here rows r has level p)
      tip-new Falling = ap (λ (row : Row Place). row.branch.falling.tip) (opened-here rows r has level p)

      here : peak_in counts₁ ≤ length (numbered_in (numbered_in index r Rising k) r Falling k) / 6 → r < peak_in counts₁ → (side : Side) →
          get_or (numbered_in (numbered_in index r Rising k) r Falling k) (tip_at r side) 0 ≡ number (tip_of (opened_in rows r level p) r side)
      here long l side = told-number side (tip-fits index r (peak_in counts₁) side l (rw size at long)) ∙ place (omega (arith, rw size at long, fewer)) ∙ ap number (sym (tip-new side))

  -- a tip moved to a place on its row's film: the index knows the place, and not yet the tip
  pub indexed-moved : (side : Side) → Indexed number index rows counts (only r side) → (p : Place) (n : ℕ) {k : ℕ} → (Long index counts → k ≡ number p) → film_in rows r ≡ p.film → InUse counts (moved_in rows r side p n) →
      Indexed number (numbered_in index r side k) (moved_in rows r side p n) counts (only r side)
  unfolding live
  indexed-moved side I p n {k} place film used =
      row-changed I r (numbered_in index r side k) (moved_in rows r side p n) counts (only r side) (moved-only rows r side p n) (numbered-size index r side k)
      (λ j d. numbered-other index r side k j (d side)) (omega arith) (λ q d l. l) (λ q x d c. c) used here there
    where
      row : look_row (moved_in rows r side p n) r ≡ with_branch (look_row rows r) side (record { tip = on_film (film_in rows r) p.point; length = n; finished = false })
      row = moved_here rows r has p n side

      -- the branch of the other side is what it was
      other : (a x : Side) → (x ≡ a → ⊥) → (b : Branch Place) → on x (with_branch (look_row rows r) a b).branch ≡ on x (look_row rows r).branch
      other Rising Rising d b = absurd (d refl)
      other Rising Falling d b = refl
      other Falling Rising d b = refl
      other Falling Falling d b = absurd (d refl)

      moved : (a : Side) (b : Branch Place) → on a (with_branch (look_row rows r) a b).branch ≡ b
      moved Rising b = refl
      moved Falling b = refl

      tip-new : tip_of (moved_in rows r side p n) r side ≡ p
      tip-new = ap (λ (z : Row Place). (on side z.branch).tip) row ∙ ap (λ (z : Branch Place). z.tip) (moved side (record { tip = on_film (film_in rows r) p.point; length = n; finished = false }))
          ∙ ap (λ (f : ℤ). on_film f p.point) film

      kept : (x : Side) → (x ≡ side → ⊥) → on x (look_row (moved_in rows r side p n) r).branch ≡ on x (look_row rows r).branch
      kept x d = ap (λ (z : Row Place). on x z.branch) row ∙ other side x d _

      here : peak_in counts ≤ length (numbered_in index r side k) / 6 → r < peak_in counts → (x : Side) → get_or (numbered_in index r side k) (tip_at r x) 0 ≡ number (tip_of (moved_in rows r side p n) r x)
      here long l x =
          let before : Long index counts = rw (numbered-size index r side k) at long in
          ⊎_elim
          (λ (e : x ≡ side). rw e (numbered-here index r side k (tip-fits index r (peak_in counts) side l before) ∙ place before ∙ ap number (sym tip-new)))
          (λ d. numbered-other index r side k (tip_at r x) (tip-side r x side d) ∙ I.numbers before r l x ∙ ap (λ (b : Branch Place). number b.tip) (sym (kept x d)))
          (same-side x side)

      there : Long index counts → r < peak_in counts → (x : Side) → (only r side r x → ⊥) → live (moved_in rows r side p n) r x ≡ true →
          slot_of (look_row (moved_in rows r side p n) r).level x (number (tip_of (moved_in rows r side p n) r x)) < length index →
          Owns (get_or index (slot_of (look_row (moved_in rows r side p n) r).level x (number (tip_of (moved_in rows r side p n) r x))) 0) r
      there long l x b a h =
          let d : x ≡ side → ⊥ = λ e. b (refl, e) in
          let level : (look_row (moved_in rows r side p n) r).level ≡ (look_row rows r).level = ap (λ (z : Row Place). z.level) row in
          let slot : slot_of (look_row (moved_in rows r side p n) r).level x (number (tip_of (moved_in rows r side p n) r x)) ≡ slot_of (look_row rows r).level x (number (tip_of rows r x)) =
          λ i. slot_of (level i) x (number (kept x d i).tip) in
          let alive : live rows r x ≡ true = sym (λ i. (row i).used && not (kept x d i).finished) ∙ a in
          subst (λ (j : ℕ). Owns (get_or index j 0) r) (sym slot) (I.owners long r l x b alive (subst (λ (j : ℕ). j < length index) slot h))

  -- a branch finished: its tip need not be known any more
  pub indexed-finished : {but but₁ : Tips} → Indexed number index rows counts but → (side : Side) → ((q : ℕ) (x : Side) → but q x → but₁ q x ⊎ ((q ≡ r) × (x ≡ side))) →
      InUse counts (finished_in rows r side) → Indexed number index (finished_in rows r side) counts but₁
  unfolding live
  indexed-finished {but} {but₁} I side less used =
      row-changed I r index (finished_in rows r side) counts but₁ (finished-only rows r side) refl (λ j d. refl) (omega arith) (λ q d l. l)
      (λ q x d c. ⊎_elim (λ b. b) (λ z. absurd (d z.0)) (less q x c)) used
      (λ long l x. I.numbers long r l x ∙ ap number (sym (tip-kept x)))
      there
    where
      row : look_row (finished_in rows r side) r ≡ with_branch (look_row rows r) side (finished_branch (on side (look_row rows r).branch))
      row = finished-here rows r has side

      tips : (a x : Side) → (on x (with_branch (look_row rows r) a (finished_branch (on a (look_row rows r).branch))).branch).tip ≡ (on x (look_row rows r).branch).tip
      tips Rising Rising = refl
      tips Rising Falling = refl
      tips Falling Rising = refl
      tips Falling Falling = refl

      tip-kept : (x : Side) → tip_of (finished_in rows r side) r x ≡ tip_of rows r x
      tip-kept x = ap (λ (z : Row Place). (on x z.branch).tip) row ∙ tips side x

      -- finished on the side, as before on the other
      ended : (a x : Side) → (x ≡ a) ⊎ ((on x (with_branch (look_row rows r) a (finished_branch (on a (look_row rows r).branch))).branch).finished ≡ (on x (look_row rows r).branch).finished)
      ended Rising Rising = inl refl
      ended Rising Falling = inr refl
      ended Falling Rising = inr refl
      ended Falling Falling = inl refl

      dead : (a : Side) → (on a (with_branch (look_row rows r) a (finished_branch (on a (look_row rows r).branch))).branch).finished ≡ true
      dead Rising = refl
      dead Falling = refl

      there : Long index counts → r < peak_in counts → (x : Side) → (but₁ r x → ⊥) → live (finished_in rows r side) r x ≡ true →
          slot_of (look_row (finished_in rows r side) r).level x (number (tip_of (finished_in rows r side) r x)) < length index →
          Owns (get_or index (slot_of (look_row (finished_in rows r side) r).level x (number (tip_of (finished_in rows r side) r x))) 0) r
      there long l x b a h = ⊎_elim
          (λ e. absurd (never x e a))
          (λ f.
          let level : (look_row (finished_in rows r side) r).level ≡ (look_row rows r).level = ap (λ (z : Row Place). z.level) row in
          let slot : slot_of (look_row (finished_in rows r side) r).level x (number (tip_of (finished_in rows r side) r x)) ≡ slot_of (look_row rows r).level x (number (tip_of rows r x)) =
          λ i. slot_of (level i) x (number (tip-kept x i)) in
          let g : (on x (look_row (finished_in rows r side) r).branch).finished ≡ (on x (look_row rows r).branch).finished = ap (λ (z : Row Place). (on x z.branch).finished) row ∙ f in
          let alive : live rows r x ≡ true = sym (λ i. (row i).used && not (g i)) ∙ a in
          let apart : but r x → ⊥ = λ c. ⊎_elim b (λ z. never x z.1 a) (less r x c) in
          subst (λ (j : ℕ). Owns (get_or index j 0) r) (sym slot) (I.owners long r l x apart alive (subst (λ (j : ℕ). j < length index) slot h)))
          (ended side x)
        where
          never : (y : Side) → y ≡ side → live (finished_in rows r side) r y ≡ true → ⊥
          never y e k =
              let f : (on side (look_row (finished_in rows r side) r).branch).finished ≡ true = ap (λ (z : Row Place). (on side z.branch).finished) row ∙ dead side in
              not-both (both_true (look_row (finished_in rows r side) r).used _ (subst (λ (y : Side). ((look_row (finished_in rows r side) r).used && not (on y (look_row (finished_in rows r side) r).branch).finished) ≡ true) e k)).1 (ap not f)

  -- a row freed is not live
  pub indexed-freed : {but : Tips} {counts₁ : List ℕ} → Indexed number index rows counts but → peak_in counts₁ ≡ peak_in counts → InUse counts₁ (freed_in rows r) → Indexed number index (freed_in rows r) counts₁ but
  unfolding live
  indexed-freed {but} {counts₁} I peak used =
      row-changed I r index (freed_in rows r) counts₁ but (freed-only rows r) refl (λ j d. refl) (omega (arith, peak)) (λ q d l. omega (arith, l, peak)) (λ q x d c. c) used
      (λ long l x. I.numbers (omega (arith, long, peak)) r (omega (arith, l, peak)) x ∙ ap (λ (z : Row Place). number (on x z.branch).tip) (sym (freed-here rows r has)))
      (λ long l x b a h. absurd (not-both (both_true (look_row (freed_in rows r) r).used _ a).0 (ap (λ (z : Row Place). z.used) (freed-here rows r has))))

-- counts that change but for the peak
pub indexed-counted : {number : Place → ℕ} {index : List ℕ} {rows : List ℤ} {counts counts₁ : List ℕ} {but : Tips} → Indexed number index rows counts but → peak_in counts₁ ≡ peak_in counts → InUse counts₁ rows →
    Indexed number index rows counts₁ but
indexed-counted I peak used = record {
  numbers = λ long r l. I.numbers (omega (arith, long, peak)) r (omega (arith, l, peak));
  owners = λ long r l. I.owners (omega (arith, long, peak)) r (omega (arith, l, peak));
  in_use = used;
}

-- before the first row is opened
pub indexed-none : {number : Place → ℕ} (index : List ℕ) (rows : List ℤ) {counts : List ℕ} → peak_in counts ≡ 0 → InUse counts rows → Indexed number index rows counts none
indexed-none index rows peak used = record {
  numbers = λ long r l. absurd (omega (arith, l, peak));
  owners = λ long r l. absurd (omega (arith, l, peak));
  in_use = used;
}

-- The slices and the plain tables hold the same: points in the range with their films and their place numbers compare alike, a row in the slice looks like the plain row
-- after each write, and the records written are read back. So the steps on slices end as the steps on plain tables do.
use mathlib.Core.Path.{◌≡◌, refl, sym, ap, ◌∙◌}
use mathlib.Core.Bool.{true, false, cond}
use mathlib.Core.Logic.{⊎_elim, inl, inr}
use mathlib.Core.List.{List, [], ◌∷◌}
use Prim.Native.Nat.{ℕ, ◌+◌, ◌*◌, ◌/◌, ◌≤◌, ◌<◌, max}
use native.Mathlib.Omega.{arith}
use lib.Dec.{eqb, ltb}
use lib.IntN.{ℤ, pos}
use lib.ListN.{length, get_or}
use borrow.Author.Tests.{eq-eqb, ne_eqb}
use Rattle.laws.proofs.Deciding.{eq-or-ne, lt-or-le, both_true}
use Rattle.laws.proofs.Sets.{get_or-sets-other, get_or-sets-in}
use Rattle.sheet.specs.Points.{same_z, in_range, is_film}
use Rattle.sheet.specs.Rank.{place_on}
use Rattle.sheet.specs.Amounts.{films}
use Rattle.sheet.specs.Edges.{drawing_of}
use Rattle.sheet.proofs.Signed.{same_z-true}
use Rattle.sheet.proofs.Places.{place-below, place_same}
use Rattle.steps.specs.declared.Side.{Side}
use Rattle.steps.specs.declared.Side.TheVariants.{Rising, Falling}
use Rattle.steps.specs.Rows.{on, with, Branch, Row, Chain, in_row, closing, Record, chain_number, record_numbers, Room}
use Rattle.steps.specs.Plain.{put, new_row, with_branch, finished_branch, free_row, plain_table, plain_journal}
use Rattle.steps.specs.Swept.{plain_room, numbers_per_row, numbers_per_record}
use Rattle.steps.proofs.Alike.{AlikeBranch, AlikeRow, SmallChain, SmallRecord, Match}
use Rattle.steps.proofs.Alone.{plain-alone}
use Rattle.rows.specs.declared.Place.{Place}
use Rattle.rows.specs.Layout as rows
use Rattle.rows.specs.Layout.{on_film, film_places, film_in, look_row, opened_in, moved_in, finished_in, freed_in}
use Rattle.rows.proofs.Looking.{tip_is, one_film}
use Rattle.rows.proofs.Searching.{slice-alone}
use Rattle.rows.proofs.Writing.{OnlyRow, other_row, opened-only, moved-only, finished-only, freed-only, opened-here, moved_here, finished-here, freed-here}
use Rattle.journal.specs.Layout as journal
use Rattle.journal.specs.Layout.{fitting, row_number, record_at, written_in}
use Rattle.journal.proofs.Writing.{ShortChain, length-written, written-here, written-elsewhere}

-- a place and its number
pub record Ranked (p : Place) (q : ℕ) : Type 0 where
  pub inside : in_range p.point ≡ true
  pub on_film : is_film p.film ≡ true
  pub is_place : place_on p.film p.point ≡ q

-- a slice of n rows holds a table in its first k rows; the other rows of the table are free
pub record HoldsRows (n k : ℕ) (s : List ℤ) (t : ℕ → Row ℕ) : Type 0 where
  pub long : numbers_per_row * n ≤ length s
  pub inside : k ≤ n
  pub row : (r : ℕ) → r < k → AlikeRow Ranked (look_row s r) (t r)
  pub free : (r : ℕ) → k ≤ r → r < n → (t r).used ≡ false

-- a slice holds the first k records, and has room for m
pub record HoldsRecords (m k : ℕ) (s : List ℤ) (j : ℕ → Record) : Type 0 where
  pub long : numbers_per_record * m ≤ length s
  pub entry : (i : ℕ) → i < k → record_at s i ≡ j i
  pub number : (i q : ℕ) → i < k → q < 4 → get_or s (numbers_per_record * i + q) (pos 0) ≡ get_or (record_numbers (j i)) q (pos 0)

new-alike : (level : ℕ) {p : Place} {q : ℕ} → Ranked p q → AlikeRow Ranked (new_row level p) (new_row level q)
new-alike level {p} {q} h = record { used = refl; level = refl; branch = λ s. by s }
  where
    by : (s : Side) → AlikeBranch Ranked (on s (new_row level p).branch) (on s (new_row level q).branch)
    by Rising = record { tip = h; length = refl; finished = refl }
    by Falling = record { tip = h; length = refl; finished = refl }

-- one branch changed alike
branch-alike : {row : Row Place} {row' : Row ℕ} → AlikeRow Ranked row row' → (s : Side) {b : Branch Place} {b' : Branch ℕ} → AlikeBranch Ranked b b' → AlikeRow Ranked (with_branch row s b) (with_branch row' s b')
branch-alike {row} {row'} a s {b} {b'} h = record { used = a.used; level = a.level; branch = λ u. by s u }
  where
    by : (v u : Side) → AlikeBranch Ranked (on u (with v b row.branch)) (on u (with v b' row'.branch))
    by Rising Rising = h
    by Rising Falling = a.branch Falling
    by Falling Rising = a.branch Rising
    by Falling Falling = h

-- one row changed on both sides, and so many rows held after it
one-row : {n k k' : ℕ} {s : List ℤ} {t : ℕ → Row ℕ} → HoldsRows n k s t → (r : ℕ) → k' ≤ n → r < k' → k ≤ k' → ((q : ℕ) → (q ≡ r → ⊥) → q < k' → q < k) → {u : List ℤ} → OnlyRow s u r → (row : Row ℕ) → AlikeRow Ranked (look_row u r) row → HoldsRows n k' u (put t r row)
one-row {t = t} H r m b c w {u} o row a =
    record {
      long = omega (arith, H.long, o.kept);
      inside = m;
      row = λ q h. ⊎_elim (λ e. rw (eq-eqb q r e, e) a) (λ d. rw (ne_eqb q r d, other_row o q d) (H.row q (w q d h))) (eq-or-ne q r);
      free = λ q h v. ap (λ z. (cond z row (t q)).used) (ne_eqb q r (λ e. omega arith)) ∙ H.free q (omega arith) v;
    }

opened-holds : {n k : ℕ} {s : List ℤ} {t : ℕ → Row ℕ} → HoldsRows n k s t → (r level : ℕ) → r ≤ k → r < n → {p : Place} {q : ℕ} → Ranked p q → HoldsRows n (max k (r + 1)) (opened_in s r level p) (put t r (new_row level q))
opened-holds {n} {k} {s} H r level l m {p} h =
    one-row H r (omega (arith, H.inside)) (omega arith) (omega arith) (λ q d u. omega (arith, d, u, l)) (opened-only s r level p) _ (rw (opened-here s r (omega (arith, H.long)) level p) (new-alike level h))

-- the tips of a row just opened are on its place's film
new-tip : (level : ℕ) (p : Place) (side : Side) → (on side (new_row level p).branch).tip.film ≡ p.film
new-tip level p Rising = refl
new-tip level p Falling = refl

opened-on-film : {n k : ℕ} {s : List ℤ} {t : ℕ → Row ℕ} → HoldsRows n k s t → (r level : ℕ) → r < n → (p : Place) (side : Side) → (on side (look_row (opened_in s r level p) r).branch).tip.film ≡ p.film
opened-on-film {s = s} H r level l p side = rw (opened-here s r (omega (arith, H.long)) level p) (new-tip level p side)

module _ {n k : ℕ} {s : List ℤ} {t : ℕ → Row ℕ} (H : HoldsRows n k s t) (r : ℕ) (l : r < k) where
  -- the row's film is written once
  film-stays : (side : Side) (p : Place) → (on side (look_row s r).branch).tip.film ≡ p.film → on_film (film_in s r) p.point ≡ p
  film-stays side p f = let e : film_in s r ≡ p.film = sym (ap (λ (t : Place). t.film) (tip_is s r side)) ∙ f in λ i. on_film (e i) p.point

  moved_holds : (side : Side) {p : Place} {q : ℕ} (m : ℕ) → Ranked p q → (on side (look_row s r).branch).tip.film ≡ p.film → HoldsRows n k (moved_in s r side p m) (put t r (with_branch (t r) side (record { tip = q; length = m; finished = false })))
  moved_holds side {p} m h f = one-row H r H.inside l (omega arith) (λ q d u. u) (moved-only s r side p m) _ (rw (moved_here s r (omega (arith, H.long, H.inside)) p m side, film-stays side p f) (branch-alike (H.row r l) side (record { tip = h; length = refl; finished = refl })))

  finished-holds : (side : Side) → HoldsRows n k (finished_in s r side) (put t r (with_branch (t r) side (finished_branch (on side (t r).branch))))
  finished-holds side =
      let b = (H.row r l).branch side in
      one-row H r H.inside l (omega arith) (λ q d u. u) (finished-only s r side) _ (rw (finished-here s r (omega (arith, H.long, H.inside)) side) (branch-alike (H.row r l) side (record { tip = b.tip; length = b.length; finished = refl })))

  freed-holds : HoldsRows n k (freed_in s r) (put t r (free_row (t r)))
  freed-holds =
      let a = H.row r l in
      one-row H r H.inside l (omega arith) (λ q d u. u) (freed-only s r) _ (rw (freed-here s r (omega (arith, H.long, H.inside))) (record { used = refl; level = a.level; branch = a.branch }))

short-chain : (c : Chain) {most : ℕ} → most < 2147483648 → SmallChain most c → ShortChain c
short-chain (in_row r) l h = omega arith
short-chain closing l h = tt

put-here : (j : ℕ → Record) (k : ℕ) (e : Record) (i : ℕ) → i ≡ k → put j k e i ≡ e
put-here j k e i h = ap (λ t. cond t e (j i)) (eq-eqb i k h)

put-there : (j : ℕ → Record) (k : ℕ) (e : Record) (i : ℕ) → (i ≡ k → ⊥) → put j k e i ≡ j i
put-there j k e i h = ap (λ t. cond t e (j i)) (ne_eqb i k h)

-- a record's numbers as they are written, and as they are where they are small
abbrev fitting_numbers : Record → List ℤ
fitting_numbers e = pos (fitting e.level) ∷ pos (fitting e.name) ∷ row_number e.chain ∷ e.offset ∷ []

fits-chain : (c : Chain) {most : ℕ} → most < 2147483648 → SmallChain most c → row_number c ≡ chain_number c
unfolding row_number
fits-chain (in_row r) l h = ap pos (omega arith)
fits-chain closing l h = refl

fitting-same : (e : Record) {most : ℕ} → most < 2147483648 → SmallRecord most e → fitting_numbers e ≡ record_numbers e
fitting-same e u h =
    let a : fitting e.level ≡ e.level = omega (arith, h.level) in
    let b : fitting e.name ≡ e.name = omega (arith, h.name) in
    λ i. pos (a i) ∷ pos (b i) ∷ fits-chain e.chain u h.chain i ∷ e.offset ∷ []

written-number : (s : List ℤ) (k : ℕ) (e : Record) {most : ℕ} → most < 2147483648 → SmallRecord most e → numbers_per_record * k + 4 ≤ length s → (q : ℕ) → q < 4 → get_or (written_in s k e) (numbers_per_record * k + q) (pos 0) ≡ get_or (record_numbers e) q (pos 0)
unfolding written_in
written-number s k e u m h q l = get_or-sets-in (pos 0) (fitting_numbers e) s (numbers_per_record * k) q l h ∙ ap (λ v. get_or v q (pos 0)) (fitting-same e u m)

other-number : (s : List ℤ) (k i : ℕ) (e : Record) → (i ≡ k → ⊥) → (q : ℕ) → q < 4 → get_or (written_in s k e) (numbers_per_record * i + q) (pos 0) ≡ get_or s (numbers_per_record * i + q) (pos 0)
unfolding written_in
other-number s k i e d q l = get_or-sets-other (pos 0) (fitting_numbers e) s (numbers_per_record * k) (numbers_per_record * i + q) (⊎_elim (λ b. inl (omega arith)) (λ b. inr (omega (arith, d))) (lt-or-le i k))

written-holds : {m k : ℕ} {s : List ℤ} {j : ℕ → Record} {entry : Record} {most : ℕ} → most < 2147483648 → HoldsRecords m k s j → k < m → SmallRecord most entry → HoldsRecords m (k + 1) (written_in s k entry) (put j k entry)
written-holds {m} {k} {s} {j} {entry} lm H l h =
    record {
      long = omega (arith, H.long, length-written s k entry);
      entry = λ i u. ⊎_elim
          (λ e. rw (eq-eqb i k e, e) (written-here s k entry (omega (arith, H.long)) (record { level = omega (arith, h.level); name = omega (arith, h.name); chain = short-chain entry.chain lm h.chain })))
          (λ d. rw (ne_eqb i k d, written-elsewhere s k entry i d) (H.entry i (omega (arith, d))))
          (eq-or-ne i k);
      number = λ i q u v. ⊎_elim
          (λ e. ap (λ x. get_or (written_in s k entry) (numbers_per_record * x + q) (pos 0)) e ∙ written-number s k entry lm h (omega (arith, H.long)) q v ∙ sym (ap (λ r. get_or (record_numbers r) q (pos 0)) (put-here j k entry i e)))
          (λ d. other-number s k i entry d q v ∙ H.number i q (omega (arith, d)) v ∙ sym (ap (λ r. get_or (record_numbers r) q (pos 0)) (put-there j k entry i d)))
          (eq-or-ne i k);
    }

-- the room of the slices, with so many rows and records, and that of the plain tables of a list
abbrev pub slice_room : ℕ → ℕ → Room Place (List ℤ) (List ℤ)
slice_room n m = record { places = film_places; table = rows.row_slice; journal = journal.record_slice; rows = n; share = n; records = m }

pub matched : (list : List ℤ) (n m m' most : ℕ) → m ≡ m' → m ≤ most → most < 2147483648 → Match (slice_room n m) (plain_room (drawing_of list) n m') Ranked (λ p. p.film) (HoldsRows n) (HoldsRecords m) most n
unfolding film_places rows.row_slice journal.record_slice plain_table plain_journal drawing_of
matched list n m m' most e l u =
    record {
      same_film = λ {p} {q} e. same_z-true _ _ (both_true (same_z p.film q.film) _ e).0;
      row_film = one_film;
      opened_film = λ H r level p l side. opened-on-film H r level l p side;
      same = λ h k. place_same _ _ _ _ h.on_film k.on_film h.inside k.inside ∙ λ i. eqb (h.is_place i) (k.is_place i);
      below = λ h k. place-below _ _ _ _ h.on_film k.on_film h.inside k.inside ∙ λ i. ltb (h.is_place i / films) (k.is_place i / films);
      look = λ H r v. H.row r v;
      unopened = λ H r v w. H.free r v w;
      opened = λ H h r level l v. opened-holds H r level l v h;
      moved = λ H h r side k v f. moved_holds H r v side k h f;
      finished = λ H r side v. finished-holds H r v side;
      freed = λ H r v. freed-holds H r v;
      written = λ H v h. written-holds u H v h;
      alone = slice-alone;
      alone' = plain-alone;
      rows = refl;
      share = refl;
      records = e;
      names = l;
    }

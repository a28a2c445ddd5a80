-- The sweep down as a law of every journal. A journal, newest record first, says where each edge of any level stands after it: with the edge or row it was put
-- into, so far from that one's reference point, or in an outline closed since. Reading the journal from a table gives each edge what its place says, read in
-- that table. Each record moves places just as reading it moves numbers, whatever rows it names; the law follows record by record.
use mathlib.Core.Path.{◌≡◌, refl, ◌∙◌}
use mathlib.Core.List.{List, [], ◌∷◌}
use Prim.Native.Nat.{ℕ, zero, suc, ◌+◌}
use native.Mathlib.Decide.{ℕ_discrete}
use native.Mathlib.Nat.{add-zero, suc-add, add-suc}
use lib.IntN.{ℤ, pos, ◌+ℤ◌, +ℤ_assoc, +ℤ_idr}
use Rattle.steps.specs.SweepDown.{Pair}

-- what the records call an edge of any level: an edge of the list, or the row that it came from
pub data Name : Type 0 where
  of_edge : ℕ → Name
  of_row : ℕ → Name
  deriving Discrete as Name-discrete

-- an edge of level 0 is one of the list, of a higher level a row's
abbrev pub name_at : ℕ → ℕ → Name
name_at zero a = of_edge a
name_at (suc l) r = of_row r

-- a record: the edge is put into the row at the offset, or closes
pub data Rec : Type 0 where
  put : Name → ℕ → ℤ → Rec
  close : Name → ℤ → Rec

-- where an edge stands: with an edge or a row, so far from its reference point, or in the k-th outline closed
pub data Place : Type 0 where
  at : Name → ℤ → Place
  done : ℕ → ℤ → Place

unfoldable pub same-name? : (x y : Name) → Dec (x ≡ y)
same-name? = Name-discrete ℕ_discrete

abbrev pub Table : Type 0
Table = Name → Pair

unfoldable pub pick : {P A : Type 0} → Dec P → A → A → A
pick (yes p) a b = a
pick (no p) a b = b

unfoldable pub write : Table → Name → Pair → Table
write T o v x = pick (same-name? x o) v (T x)

unfoldable pub shift : Pair → ℤ → Pair
shift a k = record { polygon = a.polygon; sequence = a.sequence +ℤ k }

unfoldable pub down : List Rec → Table → ℕ → Table
down [] T c = T
down (put o r k ∷ J) T c = down J (write T o (shift (T (of_row r)) k)) c
down (close o k ∷ J) T c = down J (write T o (record { polygon = c; sequence = k })) (suc c)

-- an outline that closes puts itself at 0 and those closed before it one further
unfoldable pub move : Rec → Place → Place
move (put o r k) (at x i) = pick (same-name? x o) (at (of_row r) (k +ℤ i)) (at x i)
move (close o k) (at x i) = pick (same-name? x o) (done 0 (k +ℤ i)) (at x i)
move (put o r k) (done m i) = done m i
move (close o k) (done m i) = done (suc m) i

-- the place of `x` after the journal (newest record first)
unfoldable pub place : List Rec → Name → Place
place [] x = at x (pos 0)
place (r ∷ J) x = move r (place J x)

-- what a place says, read from the table and the counter that the sweep down starts from
unfoldable pub eval : Table → ℕ → Place → Pair
eval T c (at x i) = shift (T x) i
eval T c (done k i) = record { polygon = c + k; sequence = i }

shift-shift : (a : Pair) (k i : ℤ) → shift (shift a k) i ≡ shift a (k +ℤ i)
unfolding shift
shift-shift a k i = rw (+ℤ_assoc a.sequence k i)

-- one record of each kind: the table after it read at a place, and the table before it at the place moved
put-law : (o : Name) (r : ℕ) (k : ℤ) (T : Table) (c : ℕ) (p : Place) → eval (write T o (shift (T (of_row r)) k)) c p ≡ eval T c (move (put o r k) p)
unfolding eval move write pick shift
put-law o r k T c (at x i) = go (same-name? x o)
  where
    go : (d : Dec (x ≡ o)) → shift (pick d (shift (T (of_row r)) k) (T x)) i ≡ eval T c (pick d (at (of_row r) (k +ℤ i)) (at x i))
    go (yes e) = shift-shift (T (of_row r)) k i
    go (no e) = refl
put-law o r k T c (done m i) = refl

close-law : (o : Name) (k : ℤ) (T : Table) (c : ℕ) (p : Place) → eval (write T o (record { polygon = c; sequence = k })) (suc c) p ≡ eval T c (move (close o k) p)
unfolding eval move write pick shift
close-law o k T c (at x i) = go (same-name? x o)
  where
    go : (d : Dec (x ≡ o)) → shift (pick d (record { polygon = c; sequence = k }) (T x)) i ≡ eval T c (pick d (done 0 (k +ℤ i)) (at x i))
    go (yes e) = rw (add-zero c)
    go (no e) = refl
close-law o k T c (done m i) = rw (suc-add c m, add-suc c m)

pub down-law : (J : List Rec) (T : Table) (c : ℕ) (x : Name) → down J T c x ≡ eval T c (place J x)
unfolding down place eval shift
down-law [] T c x = rw (+ℤ_idr (T x).sequence)
down-law (put o r k ∷ J) T c x = down-law J _ c x ∙ put-law o r k T c (place J x)
down-law (close o k ∷ J) T c x = down-law J _ (suc c) x ∙ close-law o k T c (place J x)

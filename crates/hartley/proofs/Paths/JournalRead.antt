-- The law of the sweep down, for the records of a journal as the steps write them. The journal is read as a list of puts and closings, newest
-- first; an owner's numbers are an edge's answer or a row's entry of the look-up table. Whatever stands in the journal, the table and the
-- answers, each owner ends up with what its place after the journal says (`reading-law`), and each closing takes one polygon number.
use mathlib.Core.Path.{◌≡◌, refl, ap, sym, ◌∙◌, fun_ext}
use mathlib.Core.List.{List, [], ◌∷◌}
use mathlib.Core.Logic.{⊎_elim}
use Prim.Native.Nat.{ℕ, zero, suc, ◌+◌, ◌≤◌}
use native.Mathlib.Numerals.{add-one}
use native.Mathlib.Omega.{arith}
use Rattle.laws.proofs.Deciding.{eq-or-ne}
use Rattle.steps.specs.Rows.{Chain, in_row, closing, Record}
use Rattle.steps.specs.SweepDown.{Pair, Reading, read_record, sweep_down}
use Rattle.steps.specs.Plain.{put, plain_tables, plain_journal}
use Rattle.hartley.proofs.Paths.TableWritten.{put-at, put-off}
use Rattle.hartley.proofs.Paths.DownLaw.{Name, of_edge, of_row, name_at, Rec, close, Table, same-name?, pick, write, shift, down, down-law, eval, place}
use Rattle.hartley.proofs.Paths.DownLaw as down
use Rattle.hartley.proofs.Paths.Paths.{pick_yes, pick_no}
use Rattle.hartley.proofs.Paths.RecordsCounted.{closes, records}

-- a closing record gives its numbers to a row always
abbrev pub rec_of : Record → Chain → Rec
rec_of entry (in_row r) = down.put (name_at entry.level entry.name) r entry.offset
rec_of entry closing = close (of_row entry.name) entry.offset

-- the first n records, newest first
unfoldable pub recs : (ℕ → Record) → ℕ → List Rec
recs j zero = []
recs j (suc n) = rec_of (j n) (j n).chain ∷ recs j n

abbrev pub numbers_of : Reading (ℕ → Pair) (ℕ → Pair) → Table
numbers_of d (of_edge e) = d.answers e
numbers_of d (of_row r) = d.table r

-- a list's edge answered, and a row given numbers, as a write for an owner
module _ (d : Reading (ℕ → Pair) (ℕ → Pair)) (a : ℕ) (v : Pair) where
  answered : numbers_of (record { table = d.table; answers = put d.answers a v; polygons = d.polygons }) ≡ write (numbers_of d) (of_edge a) v
  unfolding write
  answered = fun_ext to
    where
      to : (x : Name) → numbers_of (record { table = d.table; answers = put d.answers a v; polygons = d.polygons }) x ≡ pick (same-name? x (of_edge a)) v (numbers_of d x)
      to (of_row r) = sym (pick_no (same-name? (of_row r) (of_edge a)) _ _ (λ h. let z : ◌≡◌ {A = ℕ} 0 1 = cc in omega arith))
      to (of_edge e) = ⊎_elim
          (λ q. put-at d.answers a e v q ∙ sym (pick_yes (same-name? (of_edge e) (of_edge a)) _ _ (ap of_edge q)))
          (λ q. put-off d.answers a e v q ∙ sym (pick_no (same-name? (of_edge e) (of_edge a)) _ _ (λ h. q (cc))))
          (eq-or-ne e a)

  given : (n : ℕ) → numbers_of (record { table = put d.table a v; answers = d.answers; polygons = n }) ≡ write (numbers_of d) (of_row a) v
  unfolding write
  given n = fun_ext to
    where
      to : (x : Name) → numbers_of (record { table = put d.table a v; answers = d.answers; polygons = n }) x ≡ pick (same-name? x (of_row a)) v (numbers_of d x)
      to (of_edge e) = sym (pick_no (same-name? (of_edge e) (of_row a)) _ _ (λ h. let z : ◌≡◌ {A = ℕ} 0 1 = cc in omega arith))
      to (of_row r) = ⊎_elim
          (λ q. put-at d.table a r v q ∙ sym (pick_yes (same-name? (of_row r) (of_row a)) _ _ (ap of_row q)))
          (λ q. put-off d.table a r v q ∙ sym (pick_no (same-name? (of_row r) (of_row a)) _ _ (λ h. q (cc))))
          (eq-or-ne r a)

-- one record: what stands for each owner after it
module _ (d : Reading (ℕ → Pair) (ℕ → Pair)) (entry : Record) where
  put-read : (r l : ℕ) → entry.level ≡ l → numbers_of (read_record plain_tables d entry (in_row r)) ≡ write (numbers_of d) (name_at entry.level entry.name) (shift (d.table r) entry.offset)
  unfolding plain_tables shift
  put-read r zero e = rw e (answered d entry.name _)
  put-read r (suc l) e = rw e (given d entry.name _ d.polygons)

  close-read : numbers_of (read_record plain_tables d entry closing) ≡ write (numbers_of d) (of_row entry.name) (record { polygon = d.polygons + 1; sequence = entry.offset })
  unfolding plain_tables
  close-read = given d entry.name _ (d.polygons + 1)

  same-polygons : (r l : ℕ) → entry.level ≡ l → (read_record plain_tables d entry (in_row r)).polygons ≡ d.polygons
  same-polygons r zero e = rw e
  same-polygons r (suc l) e = rw e

  read_one : (J : List Rec) (c : Chain) (x : Name)
      → down J (numbers_of (read_record plain_tables d entry c)) ((read_record plain_tables d entry c).polygons + 1) x ≡ down (rec_of entry c ∷ J) (numbers_of d) (d.polygons + 1) x
  unfolding down
  read_one J (in_row r) x = rw (put-read r entry.level refl, same-polygons r entry.level refl)
  read_one J closing x = let e : d.polygons + 1 + 1 ≡ suc (d.polygons + 1) = omega arith in rw (close-read, e)

  closes-one : (J : List Rec) (c : Chain) → (read_record plain_tables d entry c).polygons + closes J ≡ d.polygons + closes (rec_of entry c ∷ J)
  unfolding closes
  closes-one J (in_row r) = rw (same-polygons r entry.level refl)
  closes-one J closing = omega arith

sweep-is : (j : ℕ → Record) (n : ℕ) (d : Reading (ℕ → Pair) (ℕ → Pair)) (x : Name) → numbers_of (sweep_down plain_tables plain_journal j n d) x ≡ down (recs j n) (numbers_of d) (d.polygons + 1) x
unfolding sweep_down recs down plain_journal
sweep-is j zero d x = refl
sweep-is j (suc n) d x = sweep-is j n (read_record plain_tables d (j n) (j n).chain) x ∙ read_one d (j n) (recs j n) (j n).chain x

-- the law of the sweep down
pub reading-law : (j : ℕ → Record) (n : ℕ) (d : Reading (ℕ → Pair) (ℕ → Pair)) (x : Name) → numbers_of (sweep_down plain_tables plain_journal j n d) x ≡ eval (numbers_of d) (d.polygons + 1) (place (recs j n) x)
reading-law j n d x = sweep-is j n d x ∙ down-law (recs j n) (numbers_of d) (d.polygons + 1) x

pub polygons-law : (j : ℕ → Record) (n : ℕ) (d : Reading (ℕ → Pair) (ℕ → Pair)) → (sweep_down plain_tables plain_journal j n d).polygons ≡ d.polygons + closes (recs j n)
unfolding sweep_down recs plain_journal
polygons-law j zero d = unfold closes in omega arith
polygons-law j (suc n) d = polygons-law j n (read_record plain_tables d (j n) (j n).chain) ∙ closes-one d (j n) (recs j n) (j n).chain

-- a journal with one record more
pub recs-older : (j : ℕ → Record) (n : ℕ) (entry : Record) (k : ℕ) → k ≤ n → recs (put j n entry) k ≡ recs j k
unfolding recs
recs-older j n entry zero l = refl
recs-older j n entry (suc k) l = rw (put-off j n k entry (λ q. omega arith)) (ap (λ J. rec_of (j k) (j k).chain ∷ J) (recs-older j n entry k (omega arith)))

pub recs-written : (j : ℕ → Record) (n : ℕ) (entry : Record) → recs (put j n entry) (n + 1) ≡ rec_of entry entry.chain ∷ recs j n
unfolding recs
recs-written j n entry = rw (add-one n, put-at j n n entry refl) (ap (λ J. rec_of entry entry.chain ∷ J) (recs-older j n entry n (omega arith)))

pub records-recs : (j : ℕ → Record) (n : ℕ) → records (recs j n) ≡ n
unfolding records recs
records-recs j zero = refl
records-recs j (suc n) = ap suc (records-recs j n)

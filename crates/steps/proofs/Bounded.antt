-- What every sweep that looks as far as rows have been opened keeps within, in any room of a sheet alone: the records stay within the journal's, the reach, which is the peak, within the records and the rows, the edge at which a
-- sweep up ends within the list, and a sweep down counts no more polygons than records. Running alike keeps the first two bounds, and a room runs like
-- itself, whatever the names in the list are.
use Rattle.std.specs.Prelude.{Result, ⊤, Ok, Err}
use mathlib.Core.Path.{◌≡◌, refl}
use Prim.Native.Nat.{ℕ, zero, suc, ◌+◌, ◌≤◌, ◌<◌}
use native.Mathlib.Omega.{arith}
use lib.IntN.{ℤ, pos}
use Rattle.laws.specs.Counting.{largest}
use Rattle.laws.proofs.Largest.{largest-bound}
use Rattle.steps.specs.Rows.{Chain, in_row, closing, Record, Row, LevelEdge, Room, Journal}
use Rattle.steps.specs.SweepUp.{State, Sweep, sweep_up, after_done, treat, levels, start}
use Rattle.steps.specs.SweepDown.{Tables, Reading, give, shifted, read_record, sweep_down}
use Rattle.steps.proofs.Alike.{AlikeRow, AlikeEdge, Match, start-alike, sweep-alike}
use Rattle.steps.proofs.Alone.{Alone}
use Rattle.steps.specs.declared.Halt.{Halt}

-- a room matches itself
row-self : {P : Type 0} (row : Row P) → AlikeRow (λ p q. p ≡ q) row row
row-self row = record { used = refl; level = refl; branch = λ s. record { tip = refl; length = refl; finished = refl } }

-- whatever films there are, here they do not matter
abbrev pub no_film : {P : Type 0} → P → ℤ
no_film p = pos 0

pub self : {P T J : Type 0} (room : Room P T J) → Alone room.table → (most : ℕ) → room.records ≤ most → Match room room (λ p q. p ≡ q) no_film (λ k t t'. t ≡ t') (λ k j j'. j ≡ j') most 0
self room alone most names =
    record {
      same_film = λ e. refl;
      row_film = λ t r. refl;
      opened_film = λ h r level p l s. refl;
      same = λ h k. λ i. room.places.same (h i) (k i);
      below = λ h k. λ i. room.places.below (h i) (k i);
      look = λ {k} {t} h r l. rw (← h) (row-self (room.table.look t r));
      unopened = λ h r l m. absurd (omega arith);
      opened = λ h e r level l m. λ i. room.table.opened (h i) r level (e i);
      moved = λ h e r s n l f. λ i. room.table.moved (h i) r s (e i) n;
      finished = λ h r s l. λ i. room.table.finished (h i) r s;
      freed = λ h r l. λ i. room.table.freed (h i) r;
      written = λ {j} {j'} {k} {entry} h l m. λ i. room.journal.written (h i) k entry;
      alone = alone;
      alone' = alone;
      rows = refl;
      share = refl;
      records = refl;
      names = names;
    }

pub record Within {P T J : Type 0} (room : Room P T J) (s : State T J) : Type 0 where
  pub kept : s.records ≤ room.records
  pub named : s.reach ≤ room.rows
  pub little : s.end ≡ Ok tt → s.reach ≤ s.records
  pub by_name : s.peak ≡ s.reach

-- no name in a list, or of a record, is above this
abbrev pub most_name : {P T J : Type 0} → Room P T J → (ℕ → LevelEdge P) → ℕ → ℕ
most_name room list n = room.records + largest (λ i. (list i).name) n

pub same_edges : {P T J : Type 0} (room : Room P T J) (list : ℕ → LevelEdge P) (n i : ℕ) → i < n → AlikeEdge (λ p q. p ≡ q) no_film (most_name room list n) (list i) (list i)
same_edges room list n i l = record { name = refl; small = omega (arith, largest-bound (λ k. (list k).name) n i l); tail = refl; head = refl; one_film = refl; length = refl; apart = refl }

pub sweep-within : {P T J : Type 0} (room : Room P T J) → Alone room.table → (list : ℕ → LevelEdge P) (n : ℕ) (t : T) (j : J) → Within room (sweep_up room list (start 0 t j) n).state
sweep-within room alone list n t j =
    let M = self room alone (most_name room list n) (omega arith) in
    let B = (sweep-alike M list list n (same_edges room list n) (start-alike M refl refl)).state in
    record { kept = B.kept; named = B.named; little = λ e. omega (arith, B.little e); by_name = B.by_name }

pub edge-within : {P T J : Type 0} (room : Room P T J) (list : ℕ → LevelEdge P) (s : State T J) (n : ℕ) → (sweep_up room list s n).edge ≤ n
unfolding sweep_up
edge-within room list s zero = omega arith
edge-within {P} {T} {J} room list s (suc n) = by (sweep_up room list s n).state.end (edge-within room list s n)
  where
    w : Sweep T J
    w = sweep_up room list s n

    by : (d : Result ⊤ Halt) → w.edge ≤ n → (after_done d w (record { state = treat room levels 0 w.state (list n); edge = n })).edge ≤ suc n
    by (Ok _) h = omega arith
    by (Err _) h = omega arith

-- one record counts one polygon or none
record-counts : {T A : Type 0} (tables : Tables T A) (d : Reading T A) (entry : Record) (c : Chain) → (read_record tables d entry c).polygons ≤ d.polygons + 1
record-counts tables d entry (in_row r) = by entry.level
  where
    by : (level : ℕ) → (give tables d level entry.name (shifted tables (tables.look d.table r) entry.offset)).polygons ≤ d.polygons + 1
    by zero = omega arith
    by (suc level) = omega arith
record-counts tables d entry closing = omega arith

pub polygons-within : {T A J : Type 0} (tables : Tables T A) (journal : Journal J) (j : J) (n : ℕ) (d : Reading T A) → (sweep_down tables journal j n d).polygons ≤ d.polygons + n
unfolding sweep_down
polygons-within tables journal j zero d = omega arith
polygons-within tables journal j (suc n) d =
    omega (arith, polygons-within tables journal j n (read_record tables d (journal.read j n) (journal.read j n).chain), record-counts tables d (journal.read j n) (journal.read j n).chain)

-- The sweep down on two kinds of tables: where every value that the records give can be held, both tables hold the same values all the way.
use mathlib.Core.Path.{◌≡◌, refl, ap}
use Prim.Native.Nat.{ℕ, zero, suc, ◌+◌, ◌<◌}
use native.Mathlib.Omega.{arith}
use Rattle.steps.specs.Rows.{Chain, in_row, closing, Record, Journal}
use Rattle.steps.specs.SweepDown.{Pair, Tables, Reading, give, shifted, read_record, sweep_down}

-- which rows are there, and which values a row and an answer can hold
pub record Holding : Type 1 where
  pub Row : ℕ → Type 0
  pub InRow : ℕ → Pair → Type 0
  pub InAnswer : ℕ → Pair → Type 0

pub record MatchDown {T A T' A' : Type 0} (tables : Tables T A) (tables' : Tables T' A') (Rows : T → T' → Type 0) (Answers : A → A' → Type 0) (H : Holding) : Type 0 where
  pub look : {t : T} {t' : T'} → Rows t t' → (r : ℕ) → H.Row r → tables.look t r ≡ tables'.look t' r
  pub given : {t : T} {t' : T'} → Rows t t' → (r : ℕ) (v : Pair) → H.InRow r v → Rows (tables.given t r v) (tables'.given t' r v)
  pub answered : {a : A} {a' : A'} → Answers a a' → (e : ℕ) (v : Pair) → H.InAnswer e v → Answers (tables.answered a e v) (tables'.answered a' e v)

-- what one record gives can be held
module _ {T A : Type 0} (tables : Tables T A) (H : Holding) where
  abbrev pub GiveHeld : ℕ → ℕ → Pair → Type 0
  GiveHeld zero name v = H.InAnswer name v
  GiveHeld (suc level) name v = H.InRow name v

  abbrev pub RecordHeld : Reading T A → Record → Chain → Type 0
  RecordHeld d entry (in_row r) = H.Row r × GiveHeld entry.level entry.name (shifted tables (tables.look d.table r) entry.offset)
  RecordHeld d entry closing = H.InRow entry.name (record { polygon = d.polygons + 1; sequence = entry.offset })

  -- what all the records below n give can be held, from the last to the first
  abbrev pub AllHeld : {J : Type 0} → Journal J → J → ℕ → Reading T A → Type 0
  AllHeld journal j zero d = Unit
  AllHeld journal j (suc n) d = RecordHeld d (journal.read j n) (journal.read j n).chain × AllHeld journal j n (read_record tables d (journal.read j n) (journal.read j n).chain)

module _ {T A T' A' : Type 0} {tables : Tables T A} {tables' : Tables T' A'} {Rows : T → T' → Type 0} {Answers : A → A' → Type 0} {H : Holding} (M : MatchDown tables tables' Rows Answers H) where
  pub record AlikeReading (d : Reading T A) (d' : Reading T' A') : Type 0 where
    pub table : Rows d.table d'.table
    pub answers : Answers d.answers d'.answers
    pub polygons : d.polygons ≡ d'.polygons

  give-alike : {d : Reading T A} {d' : Reading T' A'} → AlikeReading d d' → (level name : ℕ) {v v' : Pair} → v ≡ v' → GiveHeld tables H level name v → AlikeReading (give tables d level name v) (give tables' d' level name v')
  give-alike A zero name {v} e h = rw (← e) (record { table = A.table; answers = M.answered A.answers name v h; polygons = A.polygons })
  give-alike A (suc level) name {v} e h = rw (← e) (record { table = M.given A.table name v h; answers = A.answers; polygons = A.polygons })

  record-alike : {d : Reading T A} {d' : Reading T' A'} → AlikeReading d d' → (entry : Record) (c : Chain) → RecordHeld tables H d entry c → AlikeReading (read_record tables d entry c) (read_record tables' d' entry c)
  record-alike A entry (in_row r) h = give-alike A entry.level entry.name (ap (λ v. shifted tables v entry.offset) (M.look A.table r h.0)) h.1
  record-alike {d} A entry closing h =
      rw (← A.polygons) (record { table = M.given A.table entry.name (record { polygon = d.polygons + 1; sequence = entry.offset }) h; answers = A.answers; polygons = refl })

  pub down-alike : {J J' : Type 0} (journal : Journal J) (journal' : Journal J') (j : J) (j' : J') (n : ℕ) → ((k : ℕ) → k < n → journal.read j k ≡ journal'.read j' k) → {d : Reading T A} {d' : Reading T' A'} → AlikeReading d d' → AllHeld tables H journal j n d → AlikeReading (sweep_down tables journal j n d) (sweep_down tables' journal' j' n d')
  unfolding sweep_down
  down-alike journal journal' j j' zero same A h = A
  down-alike journal journal' j j' (suc n) same A h =
      down-alike journal journal' j j' n (λ k l. same k (omega arith)) (rw (← same n (omega arith)) (record-alike A (journal.read j n) (journal.read j n).chain h.0)) h.1

-- Rows, records, and the two lent rooms that hold them (01, "The sweep up", first paragraph and the one on records).
-- Places P, tables T and journals J are left open: the code has points and slices, the theory natural numbers and functions.
use Rattle.std.specs.Prelude.{ℕ, Bool, not, List, [], ◌∷◌, ℤ, pos, negsuc}
use Rattle.laws.specs.Counting.{first}
use Rattle.steps.specs.declared.Side.{Side}
use Rattle.steps.specs.declared.Side.TheVariants.{Rising, Falling}

abbrev pub other_side : Side → Side
other_side Rising = Falling
other_side Falling = Rising

-- what the rising and the falling side have, one for each
pub record Both (A : Type 0) : Type 0 where
  pub rising : A
  pub falling : A

abbrev pub on : {A : Type 0} → Side → Both A → A
on Rising b = b.rising
on Falling b = b.falling

abbrev pub with : {A : Type 0} → Side → A → Both A → Both A
with Rising a b = record { rising = a; falling = b.falling }
with Falling a b = record { rising = b.rising; falling = a }

-- a branch: its tip, its length, whether it is finished
pub record Branch (P : Type 0) : Type 0 where
  pub tip : P
  pub length : ℕ
  pub finished : Bool

-- a row: whether it is in use; its chain's level and two branches
pub record Row (P : Type 0) : Type 0 where
  pub used : Bool
  pub level : ℕ
  pub branch : Both (Branch P)

-- the row that a record puts its edge into, or none: a closing edge
pub data Chain : Type 0 where
  in_row : ℕ → Chain
  closing : Chain

pub record Record : Type 0 where
  pub level : ℕ
  pub name : ℕ
  pub chain : Chain
  pub offset : ℤ

-- a record is four numbers: level, name, row or -1 for a closing edge, offset
abbrev pub chain_number : Chain → ℤ
chain_number (in_row r) = pos r
chain_number closing = negsuc 0

abbrev pub record_numbers : Record → List ℤ
record_numbers e = pos e.level ∷ pos e.name ∷ chain_number e.chain ∷ e.offset ∷ []

-- an edge of any level: its name, its ends, its lengths (1 rising and 0 falling for an edge of the list), and whether the place of its top is apart
pub record LevelEdge (P : Type 0) : Type 0 where
  pub name : ℕ
  pub tail : P
  pub head : P
  pub length : Both ℕ
  pub apart : Bool

-- how places compare
pub record Places (P : Type 0) : Type 0 where
  pub same : P → P → Bool
  pub below : P → P → Bool

-- a table of rows: what stands in a row, which rows are in use and mine, which free row is opened where rows have been opened so far, and the four things that
-- are done to one
pub record Table (P T : Type 0) : Type 0 where
  pub look : T → ℕ → Row P
  pub mine : T → ℕ → Bool
  pub choose : T → ℕ → ℕ
  pub opened : T → ℕ → ℕ → P → T
  pub moved : T → ℕ → Side → P → ℕ → T
  pub finished : T → ℕ → Side → T
  pub freed : T → ℕ → T

-- a journal: what stands in it, and a record written
pub record Journal (J : Type 0) : Type 0 where
  pub read : J → ℕ → Record
  pub written : J → ℕ → Record → J

-- the lowest free row: within the reach, or the one just past it
unfoldable pub lowest_free : {P T : Type 0} → (T → ℕ → Row P) → T → ℕ → ℕ
lowest_free look t reach = first (λ r. not (look t r).used) reach

-- all of it, with how many rows and records the rooms have, and how many rows I may have in use
pub record Room (P T J : Type 0) : Type 0 where
  pub places : Places P
  pub table : Table P T
  pub journal : Journal J
  pub rows : ℕ
  pub share : ℕ
  pub records : ℕ

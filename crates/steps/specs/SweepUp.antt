-- The sweep up (01, "The sweep up", with M-103 of 02: a finished row is freed before it is passed up), step by step. An up edge works on the rising side of its
-- row, a down edge on the falling side; everything is said once, over the side. Rows are looked for within the reach: all the rows there are, as 01 has it, or
-- as far as rows have been opened, which comes to the same (proofs/Reaching.antt). Which rows are mine, which one is opened and how many I may have are the
-- room's: a sheet alone has every row in use, the lowest free one and all rows.
use Rattle.std.specs.Prelude.{ℕ, zero, suc, ◌+◌, max, Bool, true, false, cond, not, ◌&&◌, eqb, ltb, leb, ℤ, pos, neg_ℤ, Option, Some, None, Result, ⊤, Ok, Err}
use Rattle.laws.specs.Counting.{count, first}
use Rattle.steps.specs.declared.Side.{Side}
use Rattle.steps.specs.declared.Side.TheVariants.{Rising, Falling}
use Rattle.steps.specs.Rows.{other_side, on, Row, in_row, closing, Record, LevelEdge, Places, Room}
use Rattle.steps.specs.declared.Halt.{Halt}
use Rattle.steps.specs.declared.Halt.TheVariants.{NoFreeRow, Overrun}

-- the highest level that an edge may have, and the largest length that a row holds
abbrev pub levels : ℕ
levels = 12

abbrev pub most_length : ℕ
most_length = 2147483647

-- the two rooms, how many records are written, how far rows are looked for, the peak, and how the last treatment ended
pub record State (T J : Type 0) : Type 0 where
  pub rows : T
  pub journal : J
  pub records : ℕ
  pub reach : ℕ
  pub peak : ℕ
  pub end : Result ⊤ Halt

abbrev pub ended : {T J : Type 0} → Result ⊤ Halt → State T J → State T J
ended e s = record { rows = s.rows; journal = s.journal; records = s.records; reach = s.reach; peak = s.peak; end = e }

abbrev pub with_rows : {T J : Type 0} → T → State T J → State T J
with_rows t s = record { rows = t; journal = s.journal; records = s.records; reach = s.reach; peak = s.peak; end = s.end }

-- go on only where the treatment before is done
abbrev pub after_done : {A : Type 0} → Result ⊤ Halt → A → A → A
after_done (Ok _) s t = t
after_done (Err _) s t = s

-- the sweep so far: the state, and the edge of the list that is treated, or was when it ended
pub record Sweep (T J : Type 0) : Type 0 where
  pub state : State T J
  pub edge : ℕ

-- the first number below n that passes the test
unfoldable pub found_below : (ℕ → Bool) → ℕ → Option ℕ
found_below test n = cond (ltb (first test n) n) (Some (first test n)) None

-- nothing where the test holds, otherwise what is found
unfoldable pub pick_meeting : Bool → Option ℕ → Option ℕ
pick_meeting true f = None
pick_meeting false f = f

-- an offset's sign: 0 or more on a rising branch, below 0 on a falling one
abbrev pub signed : Side → ℕ → ℤ
signed Rising n = pos n
signed Falling n = neg_ℤ (pos n)

module _ {P : Type 0} where
  -- an up edge works on the rising side
  abbrev pub side_of : Places P → LevelEdge P → Side
  side_of places e = cond (places.below e.tail e.head) Rising Falling

  -- an edge's bottom and top: an up edge has its tail below
  abbrev pub bottom : Side → LevelEdge P → P
  bottom Rising e = e.tail
  bottom Falling e = e.head

  abbrev pub top : Side → LevelEdge P → P
  top s e = bottom (other_side s) e

  -- the row is of the level, and its branch on the side is unfinished with its tip at the place
  unfoldable pub has_tip : Places P → ℕ → Side → P → Row P → Bool
  has_tip places level s p row =
      eqb row.level level && (not (on s row.branch).finished && places.same (on s row.branch).tip p)

  abbrev pub both_finished : Row P → Bool
  both_finished row = row.branch.rising.finished && row.branch.falling.finished

  -- a finished row as an edge: tail at the falling tip, head at the rising tip, with the row's lengths and name. No branch is finished at a place that is apart.
  unfoldable pub as_edge : ℕ → Row P → LevelEdge P
  as_edge r row =
      record { name = r; tail = row.branch.falling.tip; head = row.branch.rising.tip; length = record { rising = row.branch.rising.length; falling = row.branch.falling.length }; apart = false }

module _ {P T J : Type 0} (room : Room P T J) where
  abbrev pub look : State T J → ℕ → Row P
  look s r = room.table.look s.rows r

  -- step 1, and step 4 with the other side: the row found, one of mine
  unfoldable pub find : State T J → ℕ → Side → P → Option ℕ
  find s level side p = found_below (λ r. room.table.mine s.rows r && has_tip room.places level side p (look s r)) s.reach

  -- the free row that would be opened
  unfoldable pub chosen : State T J → ℕ
  chosen s = room.table.choose s.rows s.reach

  -- how many rows I have in use now
  unfoldable pub in_use : State T J → ℕ
  in_use s = count (room.table.mine s.rows) s.reach

  -- whether a row may be opened: fewer are in use than I may have, and one is free
  unfoldable pub can_open : State T J → Bool
  can_open s = ltb (in_use s) room.share && ltb (chosen s) room.rows

  -- a row opened: both tips at the place, both lengths 0, both unfinished. The peak is the largest number of rows in use.
  unfoldable pub open_row : State T J → ℕ → ℕ → P → State T J
  open_row s r level p =
      record { rows = room.table.opened s.rows r level p; journal = s.journal; records = s.records; reach = max s.reach (r + 1); peak = max s.peak (in_use s + 1); end = s.end }

  -- step 2: a record in the journal
  unfoldable pub write : State T J → Record → State T J
  write s entry =
      record { rows = s.rows; journal = room.journal.written s.journal s.records entry; records = s.records + 1; reach = s.reach; peak = s.peak; end = s.end }

  abbrev pub longer : Side → Row P → LevelEdge P → ℕ
  longer side row e = (on side row.branch).length + e.length.falling + e.length.rising

  -- the offset is the branch's length before the edge plus the edge's length on the other side
  abbrev pub chain_record : ℕ → Side → Row P → LevelEdge P → ℕ → Record
  chain_record level side row e r =
      record { level = level; name = e.name; chain = in_row r; offset = signed side ((on side row.branch).length + on (other_side side) e.length) }

  -- step 3: the tip moved to the edge's top, the length with the edge's two lengths added
  unfoldable pub move : State T J → ℕ → Side → P → ℕ → State T J
  move s r side p n = with_rows (room.table.moved s.rows r side p n) s

  -- steps 2 and 3, where the journal has room and the length fits
  unfoldable pub attach : State T J → ℕ → Side → LevelEdge P → ℕ → State T J
  attach s level side e r =
      cond (ltb s.records room.records && leb (longer side (look s r) e) most_length)
      (move (write s (chain_record level side (look s r) e r)) r side (top side e) (longer side (look s r) e))
      (ended (Err Overrun) s)

  -- a closing edge only writes a record, its offset the falling length
  unfoldable pub close : State T J → ℕ → LevelEdge P → State T J
  close s level e =
      cond (ltb s.records room.records)
      (write s (record { level = level; name = e.name; chain = closing; offset = pos e.length.falling }))
      (ended (Err Overrun) s)

  -- step 4: the row whose other branch has its tip at the edge's top; where that place is apart there is none
  unfoldable pub meeting : State T J → ℕ → Side → LevelEdge P → Option ℕ
  meeting s level side e = pick_meeting e.apart (find s level (other_side side) (top side e))

  unfoldable pub finish : State T J → ℕ → Side → State T J
  finish s r side = with_rows (room.table.finished s.rows r side) s

  unfoldable pub free : State T J → ℕ → State T J
  free s r = with_rows (room.table.freed s.rows r) s

  -- a row with both branches finished is freed and then passed up (M-103); `next` is how an edge of the next level is treated
  unfoldable pub pass_up : (State T J → LevelEdge P → State T J) → State T J → ℕ → State T J
  pass_up next s r = cond (both_finished (look s r)) (next (free s r) (as_edge r (look s r))) s

  -- the found row q first, then this row r; once where they are one
  unfoldable pub pass_both : (State T J → LevelEdge P → State T J) → State T J → ℕ → ℕ → State T J
  pass_both next s q r =
      cond (eqb q r) (pass_up next s q)
      (after_done (pass_up next s q).end (pass_up next s q) (pass_up next (pass_up next s q) r))

  unfoldable pub meet : (State T J → LevelEdge P → State T J) → State T J → Side → ℕ → Option ℕ → State T J
  meet next s side r None = s
  meet next s side r (Some q) = pass_both next (finish (finish s q (other_side side)) r side) q r

  -- steps 2 to 4 on a row
  unfoldable pub on_row : (State T J → LevelEdge P → State T J) → State T J → ℕ → Side → LevelEdge P → ℕ → State T J
  on_row next s level side e r =
      after_done (attach s level side e r).end (attach s level side e r)
      (meet next (attach s level side e r) side r (meeting (attach s level side e r) level side e))

  -- step 1 and what follows: the row found, or a free row opened, or no row
  unfoldable pub in_chain : (State T J → LevelEdge P → State T J) → State T J → ℕ → Side → LevelEdge P → Option ℕ → State T J
  in_chain next s level side e (Some r) = on_row next s level side e r
  in_chain next s level side e None =
      cond (can_open s)
      (on_row next (open_row s (chosen s) level (bottom side e)) level side e (chosen s))
      (ended (Err NoFreeRow) s)

  unfoldable pub steps_on : (State T J → LevelEdge P → State T J) → State T J → ℕ → Side → LevelEdge P → State T J
  steps_on next s level side e = in_chain next s level side e (find s level side (bottom side e))

  -- an edge of a level with so many levels left above it: equal ends close an outline, otherwise the four steps
  unfoldable pub treat : ℕ → ℕ → State T J → LevelEdge P → State T J
  treat zero level s e = cond (room.places.same e.tail e.head) (close s level e) (ended (Err Overrun) s)
  treat (suc left) level s e =
      cond (room.places.same e.tail e.head) (close s level e)
      (steps_on (treat left (suc level)) s level (side_of room.places e) e)

  -- the first i edges of a list, treated in order at level 0
  unfoldable pub sweep_up : (ℕ → LevelEdge P) → State T J → ℕ → Sweep T J
  sweep_up list s zero = record { state = s; edge = 0 }
  sweep_up list s (suc i) =
      after_done (sweep_up list s i).state.end (sweep_up list s i) (record { state = treat levels 0 (sweep_up list s i).state (list i); edge = i })

-- an edge of the list at level 0: falling length 0, rising length 1; which places are apart is a matter of the list
abbrev pub list_edge : {P : Type 0} → Places P → (P → Bool) → ℕ → P → P → LevelEdge P
list_edge places apart i tail head =
    record { name = i; tail = tail; head = head; length = record { rising = 1; falling = 0 }; apart = apart (cond (places.below tail head) head tail) }

-- before the first edge nothing is written and no row was ever open; rows are looked for as far as said
abbrev pub start : {T J : Type 0} → ℕ → T → J → State T J
start reach t j = record { rows = t; journal = j; records = 0; reach = reach; peak = 0; end = Ok tt }

-- The index beside the rows, which spares searches. Places have numbers, any that tell them apart well. The index has six numbers for each k: four slots of the place with
-- the number k, for rising and for falling tips, of level 0 and of the levels above it; then the numbers of the places where row k has its tips. A slot tells the row that
-- has such a tip: 0 for none, r + 1 for row r, or that it is crowded, and then every row has to be looked at.
use Rattle.std.specs.Prelude.{ℕ, zero, suc, ◌+◌, ◌*◌, ◌/◌, ◌≤◌, ◌<◌, ◌≡◌, Bool, true, false, not, cond, ◌&&◌, ◌||◌, ◌⊎◌, List, eqb, ltb, leb, ℤ, length, get_or, set, Option, Some, None}
use Rattle.steps.specs.declared.Side.{Side}
use Rattle.steps.specs.declared.Side.TheVariants.{Rising, Falling}
use Rattle.steps.specs.Rows.{on}
use Rattle.rows.specs.declared.Place.{Place}
use Rattle.steps.specs.SweepUp.{found_below}
use Rattle.rows.specs.Layout.{look_row, has_tip_in}
use Rattle.finding.specs.Free.{peak_in, InUse}
use Rattle.finding.specs.declared.index.Told.{Told}
use Rattle.finding.specs.declared.index.Told.TheVariants.{Nobody, Row, Crowded}

abbrev pub crowded : ℕ
crowded = 65535

abbrev pub side_step : Side → ℕ
side_step Rising = 0
side_step Falling = 1

abbrev pub upper : ℕ → ℕ
upper zero = 0
upper (suc level) = 2

unfoldable pub slot_of : ℕ → Side → ℕ → ℕ
slot_of level side k = 6 * k + upper level + side_step side

-- where the number of the place of a row's tip stands
unfoldable pub tip_at : ℕ → Side → ℕ
tip_at r side = 6 * r + 4 + side_step side

abbrev pub tip_of : List ℤ → ℕ → Side → Place
tip_of rows r side = (on side (look_row rows r).branch).tip

-- row r is in use, and its branch on the side is unfinished
unfoldable pub live : List ℤ → ℕ → Side → Bool
live rows r side = (look_row rows r).used && not (on side (look_row rows r).branch).finished

-- what slot i tells; an index that is too short for it, or for the rows, tells nothing
unfoldable pub owner_in : List ℕ → ℕ → ℕ → ℕ
owner_in index peak i = cond (ltb i (length index) && leb peak (length index / 6)) (get_or index i 0) crowded

unfoldable pub numbered_in : List ℕ → ℕ → Side → ℕ → List ℕ
numbered_in index r side k = set index (tip_at r side) k

-- row q is live, with a tip in slot i
unfoldable pub live_in : List ℤ → List ℕ → Side → ℕ → ℕ → Bool
live_in rows index side i q = live rows q side && eqb (slot_of (look_row rows q).level side (get_or index (tip_at q side) 0)) i

-- what a slot tells of row r alone
abbrev pub row_owner : ℕ → ℕ
row_owner r = cond (ltb r 65534) (r + 1) crowded

-- what a number in a slot tells, and the number that tells it
abbrev pub told_by : ℕ → Told
told_by zero = Nobody
told_by (suc q) = cond (eqb q 65534) Crowded (Row q)

abbrev pub number_told : Told → ℕ
number_told Nobody = 0
number_told (Row r) = row_owner r
number_told Crowded = crowded

-- whether slot i, which told a number before, is crowded once row r has a tip there too: it was, or it told another row that is live there
unfoldable pub crowds : List ℤ → List ℕ → Side → ℕ → ℕ → ℕ → Bool
crowds rows index side i r zero = false
crowds rows index side i r (suc q) = eqb q 65534 || (not (eqb q r) && live_in rows index side i q)

unfoldable pub marked_in : List ℤ → List ℕ → ℕ → Side → ℕ → ℕ → List ℕ
marked_in rows index level side k r =
    set index (slot_of level side k) (cond (crowds rows index side (slot_of level side k) r (get_or index (slot_of level side k) 0)) crowded (row_owner r))

-- what a search finds by what a slot tells: nothing, the row that it tells where that has the tip, or, in a crowded slot, the first row below the peak that has it
unfoldable pub look_at : List ℤ → ℕ → ℕ → Side → Place → ℕ → Option ℕ
look_at rows peak level side p r = cond (ltb r peak && has_tip_in rows level side p r) (Some r) None

unfoldable pub told : ℕ → List ℤ → ℕ → ℕ → Side → Place → Option ℕ
told zero rows peak level side p = None
told (suc q) rows peak level side p = cond (eqb q 65534) (found_below (has_tip_in rows level side p) peak) (look_at rows peak level side p q)

abbrev pub Owns : ℕ → ℕ → Type 0
Owns owner r = (owner ≡ r + 1) ⊎ (owner ≡ crowded)

-- the tips that the index need not know of: none, one, those of one side
abbrev pub Tips : Type 1
Tips = ℕ → Side → Type 0

abbrev pub none : Tips
none r side = ⊥

abbrev pub only : ℕ → Side → Tips
only r side q x = (q ≡ r) × (x ≡ side)

abbrev pub all_on : Side → Tips
all_on side q x = x ≡ side

-- the index is long enough for the rows
abbrev pub Long : List ℕ → List ℕ → Type 0
Long index counts = peak_in counts ≤ length index / 6

-- What searches rest on: the index, where it is long enough for the rows, knows the place of every tip below the peak by its number, and the slot of every live tip tells its row,
-- but for some tips; and the rows that are noted as in use are.
pub record Indexed (number : Place → ℕ) (index : List ℕ) (rows : List ℤ) (counts : List ℕ) (but : Tips) : Type 0 where
  pub numbers : Long index counts → (r : ℕ) → r < peak_in counts → (side : Side) → get_or index (tip_at r side) 0 ≡ number (tip_of rows r side)
  pub owners : Long index counts → (r : ℕ) → r < peak_in counts → (side : Side) → (but r side → ⊥) → live rows r side ≡ true →
      slot_of (look_row rows r).level side (number (tip_of rows r side)) < length index →
      Owns (get_or index (slot_of (look_row rows r).level side (number (tip_of rows r side))) 0) r
  pub in_use : InUse counts rows

-- The turn list: refusals 11 to 14 in their order, and what an accepted one holds (01, the last paragraph of "The answer sheet").
use Rattle.std.specs.Prelude.{ℕ, ◌+◌, ◌≤◌, ◌<◌, ◌≡◌, Bool, true, false, not, ◌&&◌, ◌||◌, List, ◌⊎◌, eqb, ltb, length, get_or, Result, Ok, Err}
use Rattle.laws.specs.Counting.{some_below, first, largest}
use Rattle.sheet.specs.declared.TurnRefusal.{TurnRefusal}
use Rattle.sheet.specs.declared.TurnRefusal.TheVariants.{TurnLengths, NoPolygon, PairRepeated, Gap}
use Rattle.sheet.specs.Amounts.{most_edges}

abbrev pub turn_number_of : TurnRefusal → ℕ
turn_number_of TurnLengths = 11
turn_number_of (NoPolygon e) = 12
turn_number_of (PairRepeated e) = 13
turn_number_of (Gap e) = 14

abbrev pub turn_place_of : TurnRefusal → ℕ
turn_place_of TurnLengths = 0
turn_place_of (NoPolygon e) = e
turn_place_of (PairRepeated e) = e
turn_place_of (Gap e) = e

-- A numbering that is read: the polygon and the sequence number of each edge, and how many edges there are.
pub record NumberLists : Type 0 where
  pub polygon : ℕ → ℕ
  pub sequence : ℕ → ℕ
  pub edges : ℕ

unfoldable pub number_lists : List ℕ → List ℕ → NumberLists
number_lists polygons sequences = record { polygon = λ e. get_or polygons e 0; sequence = λ e. get_or sequences e 0; edges = length polygons }

-- 12: a polygon number is 0
unfoldable pub no_polygon : NumberLists → ℕ → Bool
no_polygon v e = eqb (v.polygon e) 0

-- 13: an earlier edge has the same polygon and sequence number
unfoldable pub pair_repeated : NumberLists → ℕ → Bool
pair_repeated v e = some_below (λ f. eqb (v.polygon f) (v.polygon e) && eqb (v.sequence f) (v.sequence e)) e

-- 14: the sequence number before is missing in the polygon, or the polygon before is missing
unfoldable pub gap : NumberLists → ℕ → Bool
gap v e =
    (ltb 0 (v.sequence e) && not (some_below (λ f. eqb (v.polygon f) (v.polygon e) && eqb (v.sequence f + 1) (v.sequence e)) v.edges))
    || (ltb 1 (v.polygon e) && not (some_below (λ f. eqb (v.polygon f + 1) (v.polygon e)) v.edges))

abbrev pub refuse_turn : Bool → TurnRefusal → Result ℕ TurnRefusal → Result ℕ TurnRefusal
refuse_turn true r rest = Err r
refuse_turn false r rest = rest

abbrev pub refuse_first_turn : NumberLists → (NumberLists → ℕ → Bool) → (ℕ → TurnRefusal) → Result ℕ TurnRefusal → Result ℕ TurnRefusal
refuse_first_turn v test refusal rest = refuse_turn (ltb (first (test v) v.edges) v.edges) (refusal (first (test v) v.edges)) rest

-- 11: not three lengths that are equal and at most 4,096
unfoldable pub lengths_differ : ℕ → ℕ → ℕ → Bool
lengths_differ polygons sequences turns = not (eqb polygons sequences && eqb polygons turns) || ltb most_edges polygons

-- the order of trying, 12 to 14 each over the whole list; what is accepted has as many polygons as its largest number
unfoldable pub turned : List ℕ → List ℕ → ℕ → Result ℕ TurnRefusal
turned polygons sequences turns =
    refuse_turn (lengths_differ (length polygons) (length sequences) turns) TurnLengths
    (refuse_first_turn (number_lists polygons sequences) no_polygon NoPolygon
    (refuse_first_turn (number_lists polygons sequences) pair_repeated PairRepeated
    (refuse_first_turn (number_lists polygons sequences) gap Gap
    (Ok (largest (λ e. get_or polygons e 0) (length polygons))))))

-- What is accepted, in 01's words. The polygon numbers run from 1 without a gap, and there are so many of them; in each polygon the sequence numbers
-- run from 0 without gap or repeat: no pair comes twice, and every number below an edge's is there.
pub record GoodNumbering (v : NumberLists) (polygons : ℕ) : Type 0 where
  pub from_one : (e : ℕ) → e < v.edges → (1 ≤ v.polygon e) × (v.polygon e ≤ polygons)
  pub no_gap : (k : ℕ) → 1 ≤ k → k ≤ polygons → (e : ℕ) × (e < v.edges) × (v.polygon e ≡ k)
  pub no_repeat : (e f : ℕ) → e < v.edges → f < v.edges → v.polygon e ≡ v.polygon f → v.sequence e ≡ v.sequence f → e ≡ f
  pub from_zero : (e i : ℕ) → e < v.edges → i < v.sequence e → (f : ℕ) × (f < v.edges) × (v.polygon f ≡ v.polygon e) × (v.sequence f ≡ i)

-- .. in three lists of one length, at most 4,096
pub record GoodLists (polygons sequences : List ℕ) (turns n : ℕ) : Type 0 where
  pub sequences_too : length sequences ≡ length polygons
  pub turns_too : turns ≡ length polygons
  pub few : length polygons ≤ most_edges
  pub numbering : GoodNumbering (number_lists polygons sequences) n

-- one edge comes before another: by polygon, and in a polygon by sequence
abbrev pub Before : NumberLists → ℕ → ℕ → Type 0
Before v e f = (v.polygon e < v.polygon f) ⊎ ((v.polygon e ≡ v.polygon f) × (v.sequence e < v.sequence f))

-- the places of all the edges in that order
pub record TurnList (v : NumberLists) (turns : List ℕ) : Type 0 where
  pub size : length turns ≡ v.edges
  pub places : (i : ℕ) → i < v.edges → get_or turns i 0 < v.edges
  pub in_order : (i j : ℕ) → i < j → j < v.edges → Before v (get_or turns i 0) (get_or turns j 0)

-- what stands in the turn list after the call: a refusal leaves what stood there
abbrev pub TurnsAfter : List ℕ → List ℕ → Result ℕ TurnRefusal → List ℕ → List ℕ → Type 0
TurnsAfter polygons sequences (Err r) before after = after ≡ before
TurnsAfter polygons sequences (Ok n) before after = TurnList (number_lists polygons sequences) after

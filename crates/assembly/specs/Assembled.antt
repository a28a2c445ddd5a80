-- What one call promises that numbers a sheet and lays its turn list (02, M-101): all that the numbering promises, and the turn list, by which outline after
-- outline is cut from point to point.
use Rattle.std.specs.Prelude.{ℕ, suc, ◌≤◌, ◌<◌, ◌≡◌, List, ◌↔◌, eqb, ℤ, length, get_or, Result, Ok, Err}
use Rattle.laws.specs.Counting.{count}
use Rattle.sheet.specs.declared.Edge.{Edge}
use Rattle.sheet.specs.declared.Refusal.{Refusal}
use Rattle.sheet.specs.Edges.{edge_at, edges_in, drawing_of}
use Rattle.sheet.specs.Joining.{InOutline}
use Rattle.sheet.specs.TurnList.{number_lists, turned, TurnList}
use Rattle.numbering.specs.Outcome.{Lent, Left}
use Rattle.numbering.specs.Promised.{Promised}
use Rattle.sheet.specs.declared.Numbered.{Numbered}
use Rattle.sheet.specs.Answers.{accepted}

-- the edge at a position of a turn list, and its number in a list of numbers
abbrev pub edge_cut : List ℤ → List ℕ → ℕ → Edge
edge_cut list turns i = edge_at list (get_or turns i 0)

abbrev pub number_cut : List ℕ → List ℕ → ℕ → ℕ
number_cut numbers turns i = get_or numbers (get_or turns i 0) 0

-- a position of a turn list after which another polygon comes, or nothing
abbrev pub LastOfPolygon : List ℕ → List ℕ → ℕ → Type 0
LastOfPolygon polygons turns i = suc i < length turns → number_cut polygons turns i ≡ number_cut polygons turns (suc i) → ⊥

-- what the three lists of an accepted sheet with n polygons are for those who cut by them
pub record CutInOrder (list : List ℤ) (polygons sequences turns : List ℕ) (n : ℕ) : Type 0 where
  -- one polygon number for exactly the edges of one closed outline, and these are of one film
  pub one_outline : (e f : ℕ) → e < edges_in list → f < edges_in list → (get_or polygons f 0 ≡ get_or polygons e 0) ↔ InOutline (drawing_of list) e f
  pub one_film : (e f : ℕ) → e < edges_in list → f < edges_in list → get_or polygons f 0 ≡ get_or polygons e 0 → (edge_at list e).film ≡ (edge_at list f).film
  -- the turn list is that of the two number lists, which are never refused one: 11 to 14 do not come
  pub never_refused : turned polygons sequences (length turns) ≡ Ok n
  pub turn_list : TurnList (number_lists polygons sequences) turns
  -- every edge of the list stands in it once
  pub edge_once : (e : ℕ) → e < edges_in list → count (λ i. eqb (get_or turns i 0) e) (length turns) ≡ 1
  -- in a polygon an edge's head is the tail of the next one, as points
  pub end_to_end : (i : ℕ) → suc i < length turns → number_cut polygons turns i ≡ number_cut polygons turns (suc i) → (edge_cut list turns i).head ≡ (edge_cut list turns (suc i)).tail
  -- and the head of its last edge is the tail of its edge 0
  pub back_to_first : (i : ℕ) → i < length turns → LastOfPolygon polygons turns i
      → (j : ℕ) × (j ≤ i) × (number_cut polygons turns j ≡ number_cut polygons turns i) × (number_cut sequences turns j ≡ 0) × ((edge_cut list turns i).head ≡ (edge_cut list turns j).tail)

-- the call, the turn list before and after it
pub record Assembled (l : Lent) (before : List ℕ) (x : Left (Result Numbered Refusal)) (after : List ℕ) : Type 0 where
  -- the answer, the two number lists, journal and rows: demands 2 and 3
  pub numbered : Promised l x
  -- a refusal leaves the turn list as it leaves the two number lists
  pub refused : (r : Refusal) → x.answer ≡ Err r → after ≡ before
  pub accepted : (polygons peak records : ℕ) → x.answer ≡ accepted polygons peak records → CutInOrder l.list x.polygons x.sequences after polygons

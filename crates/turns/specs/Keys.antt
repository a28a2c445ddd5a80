-- The key of an edge: its polygon and its sequence number as one number, the polygon above, so that the keys go in the order of the turn list.
-- Keys that rise, where a key stands among them, and the keys of all the edges of a numbering.
use Rattle.std.specs.Prelude.{ℕ, ◌+◌, ◌-◌, ◌*◌, ◌/◌, ◌%◌, ◌≤◌, ◌<◌, ◌≡◌, Bool, true, cond, ◌&&◌, List, eqb, leb, ltb, length, get_or}
use Rattle.laws.specs.Counting.{some_below, first}
use Rattle.sheet.specs.TurnList.{NumberLists}
use Rattle.sheet.specs.Amounts.{most_edges}

unfoldable pub key_of : ℕ → ℕ → ℕ
key_of polygon sequence = polygon * 4294967296 + sequence

abbrev pub key_at : NumberLists → ℕ → ℕ
key_at v e = key_of (v.polygon e) (v.sequence e)

-- a polygon list and a sequence list that pass 11
pub record Sizes (polygons sequences : List ℕ) : Type 0 where
  pub same : length sequences ≡ length polygons
  pub few : length polygons ≤ most_edges

-- the first n keys, none below the one before
pub record Rising (keys : List ℕ) (n : ℕ) : Type 0 where
  pub room : n ≤ length keys
  pub order : (a b : ℕ) → a ≤ b → b < n → get_or keys a 0 ≤ get_or keys b 0

-- the first of n keys that is not below a key
unfoldable pub place_from : List ℕ → ℕ → ℕ → ℕ
place_from keys n key = first (λ k. leb key (get_or keys k 0)) n

-- whether one of n keys is from low on and below high
unfoldable pub stands_between : List ℕ → ℕ → ℕ → ℕ → Bool
stands_between keys n low high = some_below (λ k. leb low (get_or keys k 0) && ltb (get_or keys k 0) high) n

-- The keys of all the edges, in order: each edge's key stands there, and each of them is an edge's. A sequence number has 32 bits, so that no two pairs
-- share a key.
pub record Keyed (v : NumberLists) (keys : List ℕ) : Type 0 where
  pub rising : Rising keys v.edges
  pub stands : (e : ℕ) → e < v.edges → (k : ℕ) × (k < v.edges) × (get_or keys k 0 ≡ key_at v e)
  pub held : (k : ℕ) → k < v.edges → (e : ℕ) × (e < v.edges) × (get_or keys k 0 ≡ key_at v e)
  pub narrow : (e : ℕ) → v.sequence e < 4294967296

-- whether a key goes on from the one before: to the next sequence number of its polygon, or to the next polygon's 0
unfoldable pub goes_on : ℕ → ℕ → Bool
goes_on key next = cond (eqb (next % 4294967296) 0) (eqb (next / 4294967296) (key / 4294967296 + 1)) (eqb (next - 1) key)

-- the first n keys leave no number out: they begin at polygon 1, sequence number 0, and each goes on from the one before
pub record Whole (keys : List ℕ) (n : ℕ) : Type 0 where
  pub begins : 0 < n → get_or keys 0 0 ≡ key_of 1 0
  pub next : (k : ℕ) → k + 1 < n → goes_on (get_or keys k 0) (get_or keys (k + 1) 0) ≡ true

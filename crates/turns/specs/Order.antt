-- The order that 13 writes beside the keys: at the place of an edge's key, the edge's place in the list.
use Rattle.std.specs.Prelude.{ℕ, ◌≤◌, ◌<◌, ◌≡◌, List, length, get_or}
use Rattle.sheet.specs.TurnList.{NumberLists}
use Rattle.turns.specs.Keys.{key_at}

-- each place has its edge, and no two keys are equal
pub record Ordered (v : NumberLists) (keys order : List ℕ) : Type 0 where
  pub room : v.edges ≤ length order
  pub edge : (p : ℕ) → p < v.edges → get_or order p 0 < v.edges
  pub key : (p : ℕ) → p < v.edges → get_or keys p 0 ≡ key_at v (get_or order p 0)
  pub strict : (p q : ℕ) → p < q → q < v.edges → get_or keys p 0 < get_or keys q 0

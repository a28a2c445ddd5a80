-- A right turn list is its own witness: along it the edges' numbers run from polygon 1, sequence 0, each pair to the next sequence number or to the next
-- polygon's 0.
use Rattle.std.specs.Prelude.{ℕ, suc, ◌<◌, ◌≡◌, ◌⊎◌, List, length, get_or}
use Rattle.sheet.specs.TurnList.{NumberLists}

-- edge f comes right behind edge e
abbrev pub Onward : NumberLists → ℕ → ℕ → Type 0
Onward v e f = ((v.polygon f ≡ v.polygon e) × (v.sequence f ≡ suc (v.sequence e))) ⊎ ((v.polygon f ≡ suc (v.polygon e)) × (v.sequence f ≡ 0))

-- the first n positions of a turn list are right
pub record RunsTo (v : NumberLists) (turns : List ℕ) (n : ℕ) : Type 0 where
  pub places : (i : ℕ) → i < n → get_or turns i 0 < v.edges
  pub begins : 0 < n → (v.polygon (get_or turns 0 0) ≡ 1) × (v.sequence (get_or turns 0 0) ≡ 0)
  pub onward : (i : ℕ) → suc i < n → Onward v (get_or turns i 0) (get_or turns (suc i) 0)

-- all of them are
pub record Runs (v : NumberLists) (turns : List ℕ) : Type 0 where
  pub size : length turns ≡ v.edges
  pub to_end : RunsTo v turns v.edges

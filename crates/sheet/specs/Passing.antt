-- C and L of demand 3, and the rows that are always enough.
use Rattle.std.specs.Prelude.{ℕ, suc, ◌*◌, ◌^◌, ◌≤◌, ◌<◌, ◌≡◌, Bool, ◌&&◌, eqb, ltb, leb}
use Rattle.laws.specs.Counting.{count}
use Rattle.sheet.specs.Edges.{Drawing, top_height, bottom_height}

-- an edge passes a place that lies above its lower end and not above its higher one
abbrev pub passes : Drawing → ℕ → ℕ → Bool
passes sh p e = ltb (bottom_height sh e) p && leb p (top_height sh e)

unfoldable pub passing : Drawing → ℕ → ℕ
passing sh p = count (passes sh p) sh.edges

-- how many edges have a polygon number
unfoldable pub outline_size : Drawing → (ℕ → ℕ) → ℕ → ℕ
outline_size sh polygon k = count (λ e. eqb (polygon e) k) sh.edges

-- m is the most that f has anywhere
pub record Most (f : ℕ → ℕ) (m : ℕ) : Type 0 where
  pub bound : (k : ℕ) → f k ≤ m
  pub reached : (k : ℕ) × (f k ≡ m)

-- l is the whole part of the binary logarithm of n
pub record WholeLog2 (n l : ℕ) : Type 0 where
  pub at_least : 2 ^ l ≤ n
  pub under : n < 2 ^ suc l

-- demand 3: C the most edges that pass any one place, L the edges of the longest outline; C times the whole part of log2 L
pub record Enough (sh : Drawing) (polygon : ℕ → ℕ) (rows : ℕ) : Type 0 where
  pub C : ℕ
  pub L : ℕ
  pub log : ℕ
  pub most_passing : Most (passing sh) C
  pub longest : Most (outline_size sh polygon) L
  pub whole_part : WholeLog2 L log
  pub rows_are : rows ≡ C * log

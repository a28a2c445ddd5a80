-- The walk over m ends in order, place by place, and what it looks for: the least edge that repeats a kind, and the least with an end at an uneven
-- place.
use Rattle.std.specs.Prelude.{◌≡◌, Bool, true, false, not, ◌&&◌, List, ℕ, ◌+◌, ◌-◌, ◌/◌, ◌%◌, ◌≤◌, ◌<◌, min, eqb, ltb, ℤ, length, get_or, Option, None, Some, MatchOption}
use Rattle.laws.specs.Counting.{count, IsFirst}
use Rattle.sheet.specs.Edges.{edges_in, drawing_of}
use Rattle.sheet.specs.Answers.{repeats, uneven}
use Rattle.checks.specs.declared.places.AtFault.{AtFault}
use Rattle.ends.specs.Ends.{key_in, place_in, edge_in, arrives_in}

-- the first edge that 8 is given for, and the first that 9 is
pub record FirstAtFault (s : List ℤ) (f : AtFault) : Type 0 where
  pub repeated : IsFirst (repeats (drawing_of s)) (edges_in s) f.repeated
  pub uneven : IsFirst (uneven (drawing_of s)) (edges_in s) f.uneven

-- the m words rise
pub record Walks (words : List ℕ) (m : ℕ) : Type 0 where
  pub room : m ≤ length words
  pub few : m ≤ 8192
  pub rising : (a b : ℕ) → a ≤ b → b < m → get_or words a 0 ≤ get_or words b 0

-- the ends before a have lower places than those from a on
abbrev pub Visited : List ℕ → ℕ → ℕ → Type 0
Visited words m a = (j k : ℕ) → j < a → a ≤ k → k < m → place_in words j < place_in words k

-- the ends from a to b are those of one place, all of them
pub record AtPlace (words : List ℕ) (m a b : ℕ) : Type 0 where
  pub some : a < b
  pub within : b ≤ m
  pub here : (k : ℕ) → a ≤ k → k < b → place_in words k ≡ place_in words a
  pub before : (k : ℕ) → k < a → place_in words k < place_in words a
  pub after : (k : ℕ) → b ≤ k → k < m → place_in words a < place_in words k

-- the end before has the same key: it is of an earlier edge, of the same kind at the same place
unfoldable pub repeats_in : List ℕ → ℕ → Bool
repeats_in words k = ltb 0 k && eqb (key_in words (k - 1)) (key_in words k)

-- an end at place p of an edge that arrives, or leaves
abbrev pub arrives_at : List ℕ → ℕ → ℕ → Bool
arrives_at words p k = eqb (place_in words k) p && arrives_in words k

abbrev pub leaves_at : List ℕ → ℕ → ℕ → Bool
leaves_at words p k = eqb (place_in words k) p && not (arrives_in words k)

-- at the place of the end at k these differ in number
unfoldable pub uneven_at : List ℕ → ℕ → ℕ → Bool
uneven_at words m k = not (eqb (count (arrives_at words (place_in words k)) m) (count (leaves_at words (place_in words k)) m))

-- the ends from a to b are two, of which one arrives and one leaves
unfoldable pub passed_through : List ℕ → ℕ → ℕ → Bool
passed_through words a b = eqb (b - a) 2 && not (eqb (get_or words a 0 / 8192 % 2) (get_or words (a + 1) 0 / 8192 % 2))

-- the test that every end passes
abbrev pub any_end : ℕ → Bool
any_end k = true

-- the lower of two edges, where there are two
abbrev pub lower : Option ℕ → Option ℕ → Option ℕ
lower None r = r
lower (Some e) None = Some e
lower (Some e) (Some f) = Some (min e f)

-- of the ends from a to b that pass a test, r is the least edge, where there is one
pub record Least (test : ℕ → Bool) (edge : ℕ → ℕ) (a b : ℕ) (r : Option ℕ) : Type 0 where
  pub least : MatchOption r ((k : ℕ) → a ≤ k → k < b → test k ≡ false) (λ e.
      ((k : ℕ) × (a ≤ k) × (k < b) × (test k ≡ true) × (edge k ≡ e)) × ((k : ℕ) → a ≤ k → k < b → test k ≡ true → e ≤ edge k))

-- what is found among the first b of m ends
pub record FoundSoFar (words : List ℕ) (m b : ℕ) (f : AtFault) : Type 0 where
  pub repeated : Least (repeats_in words) (edge_in words) 0 b f.repeated
  pub uneven : Least (uneven_at words m) (edge_in words) 0 b f.uneven

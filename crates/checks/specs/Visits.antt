-- A walk over the ends in order, place by place, as an iterator.
use Rattle.std.specs.Prelude.{◌≡◌, ℕ, ◌≤◌, length, Option, MatchOption}
use Rattle.checks.specs.declared.visits.Places.{Places}
use Rattle.checks.specs.Places.{Walks, Visited, AtPlace}

-- the words rise, and the ends before the next place have lower places than those from there on
pub record Walking (p : Places) : Type 0 where
  pub walks : Walks p.words.now (length p.words.now)
  pub visited : Visited p.words.now (length p.words.now) p.from
  pub within : p.from ≤ length p.words.now

-- the next place comes, from its first end to the first of the place after it; none comes after all the ends
abbrev pub NextPlace : Places → Option (ℕ × ℕ) → Places → Type 0
NextPlace s r t = (t.words ≡ s.words) × MatchOption r ((s.from ≡ length s.words.now) × (t.from ≡ s.from)) (λ at. (at.0 ≡ s.from) × (at.1 ≡ t.from) × AtPlace s.words.now (length s.words.now) at.0 at.1)

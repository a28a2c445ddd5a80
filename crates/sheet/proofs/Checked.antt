-- What the theory needs of a checked list, as one record, and the joins that it then has. Whoever changes what a place is or how edges join
-- proves `Checked` anew and nothing else.
use mathlib.Core.Path.{◌≡◌}
use mathlib.Core.Logic.{◌⊎◌, inl, inr}
use Prim.Native.Nat.{ℕ, zero, suc, ◌+◌, ◌-◌, ◌≤◌, ◌<◌}
use native.Mathlib.Omega.{arith}
use Rattle.laws.proofs.Deciding.{lt-or-le}
use Rattle.laws.proofs.Pigeonhole.{reached}
use Rattle.sheet.specs.Edges.{Drawing, top_height}
use Rattle.sheet.specs.Sound.{SweepOrder, Sound}
use Rattle.sheet.specs.Joining.{Follows}
use Rattle.sheet.proofs.Following.{TurnsBySides, next-exists, next-unique, next-one-to-one}

-- tops never fall, from edge to edge and so from any edge to any later one
rising-tops : (sh : Drawing) → SweepOrder sh → (d e : ℕ) → e + d < sh.edges → top_height sh e ≤ top_height sh (e + d)
rising-tops sh o zero e l = let q : e + 0 ≡ e = omega arith in rw q (omega arith)
rising-tops sh o (suc d) e l = let q : e + suc d ≡ (e + d) + 1 = omega arith in rw q (omega (arith, rising-tops sh o d e (omega arith), o (e + d) (omega arith)))

pub tops-rise : (sh : Drawing) → SweepOrder sh → (e f : ℕ) → e ≤ f → f < sh.edges → top_height sh e ≤ top_height sh f
tops-rise sh o e f h l = let q : e + (f - e) ≡ f = omega arith in rw q at (rising-tops sh o (f - e) e (omega arith))

pub record Checked (sh : Drawing) : Type 0 where
  -- places of one film and one height are one place, and an edge stays on its film
  pub flat : (p q : ℕ) → sh.film p ≡ sh.film q → sh.height p ≡ sh.height q → p ≡ q
  pub one_film : (e : ℕ) → e < sh.edges → sh.film (sh.tail e) ≡ sh.film (sh.head e)
  pub proper : (e : ℕ) → e < sh.edges → sh.tail e ≡ sh.head e → ⊥
  pub order : SweepOrder sh
  pub sound : Sound sh
  -- where four edges meet, the first one met turning clockwise is told by its side and by whether the place is apart
  pub turning : TurnsBySides sh

-- the joins of a list as functions
pub record Joins (sh : Drawing) : Type 0 where
  pub next : ℕ → ℕ
  pub prev : ℕ → ℕ
  pub follows : (e : ℕ) → e < sh.edges → Follows sh e (next e)
  pub only : (e f : ℕ) → Follows sh e f → f ≡ next e
  pub one_to_one : (e f : ℕ) → e < sh.edges → f < sh.edges → next e ≡ next f → e ≡ f
  pub before : (e : ℕ) → e < sh.edges → (prev e < sh.edges) × (next (prev e) ≡ e)

module _ {sh : Drawing} (K : Checked sh) where
  -- past the list the functions have no meaning and give 0
  pick_next : (e : ℕ) → (e < sh.edges) ⊎ (sh.edges ≤ e) → ℕ
  pick_next e (inl l) = (next-exists K.sound K.turning e l).0
  pick_next e (inr l) = 0

  picked : (e : ℕ) → e < sh.edges → (t : (e < sh.edges) ⊎ (sh.edges ≤ e)) → Follows sh e (pick_next e t)
  unfolding pick_next
  picked e l (inl h) = (next-exists K.sound K.turning e h).1
  picked e l (inr h) = absurd (omega arith)

  next_of : ℕ → ℕ
  next_of e = pick_next e (lt-or-le e sh.edges)

  next-follows : (e : ℕ) → e < sh.edges → Follows sh e (next_of e)
  unfolding next_of
  next-follows e l = picked e l (lt-or-le e sh.edges)

  next-inj : (e f : ℕ) → e < sh.edges → f < sh.edges → next_of e ≡ next_of f → e ≡ f
  next-inj e f el fl h = next-one-to-one K.sound K.turning e f (next_of e) (next-follows e el) (rw h (next-follows f fl))

  met : (e : ℕ) → e < sh.edges → (x : ℕ) × (x < sh.edges) × (next_of x ≡ e)
  met = reached next_of sh.edges (λ e l. (next-follows e l).next_is_edge) next-inj

  pick-prev : (e : ℕ) → (e < sh.edges) ⊎ (sh.edges ≤ e) → ℕ
  pick-prev e (inl l) = (met e l).0
  pick-prev e (inr l) = 0

  picked-before : (e : ℕ) → e < sh.edges → (t : (e < sh.edges) ⊎ (sh.edges ≤ e)) → (pick-prev e t < sh.edges) × (next_of (pick-prev e t) ≡ e)
  unfolding pick-prev
  picked-before e l (inl h) = ((met e h).1, (met e h).2)
  picked-before e l (inr h) = absurd (omega arith)

  pub joins : Joins sh
  joins = record {
    next = next_of;
    prev = λ e. pick-prev e (lt-or-le e sh.edges);
    follows = next-follows;
    only = λ e f a. next-unique K.sound K.turning e f (next_of e) a (next-follows e a.is_edge);
    one_to_one = next-inj;
    before = λ e l. picked-before e l (lt-or-le e sh.edges);
  }

-- The walk over words in order, whatever is done at a place: where the ends of a place stop, the next place begins. All ends of a place stand
-- between, so what is counted there is what the place has.
use mathlib.Core.Path.{◌≡◌, refl, sym, ap, ◌∙◌}
use mathlib.Core.Bool.{Bool, true, false, not, ◌&&◌}
use mathlib.Core.List.{List}
use mathlib.Core.Logic.{⊎_elim}
use Prim.Native.Nat.{ℕ, ◌+◌, ◌-◌, ◌*◌, ◌/◌, ◌%◌, ◌≤◌, ◌<◌}
use native.Mathlib.Omega.{arith}
use lib.Dec.{eqb}
use lib.ListN.{get_or}
use borrow.Author.Tests.{lt-ltb, le-ltb, eqb-true, eq-eqb, ne_eqb}
use Rattle.std.specs.Prelude.{Option, None}
use Rattle.laws.specs.Counting.{bit, count}
use Rattle.laws.proofs.Deciding.{lt-or-le, eq-or-ne, not-both, both_true}
use Rattle.laws.proofs.Tests.{not-true, eqb-agree}
use Rattle.laws.proofs.Counting.{count-more, count-all}
use Rattle.laws.proofs.Between.{count-between}
use Rattle.laws.proofs.Either.{count-either}
use Rattle.checks.specs.declared.places.AtFault.{AtFault}
use Rattle.ends.specs.Ends.{key_in, place_in, edge_in, arrives_in}
use Rattle.checks.specs.Places.{Walks, Visited, AtPlace, repeats_in, arrives_at, leaves_at, uneven_at, passed_through, any_end, Least, lower, FoundSoFar}
use Rattle.checks.proofs.LeastEdge.{least_start, least-before, least-join, least_on}

-- the ends from a on that have the place of the end at a
abbrev pub Here : List ℕ → ℕ → ℕ → Type 0
Here words a b = (k : ℕ) → a ≤ k → k < b → place_in words k ≡ place_in words a

pub here-one : (words : List ℕ) (a : ℕ) → Here words a (a + 1)
here-one words a k l h = let q : k ≡ a = omega arith in ap (place_in words) q

pub here-more : (words : List ℕ) (a b : ℕ) → Here words a b → place_in words b ≡ place_in words a → Here words a (b + 1)
here-more words a b h e k l m = ⊎_elim (h k l) (λ g. let q : k ≡ b = omega arith in ap (place_in words) q ∙ e) (lt-or-le k b)

pub visited-none : (words : List ℕ) (m : ℕ) → Visited words m 0
visited-none words m j k l = absurd (omega arith)

module _ {words : List ℕ} {m : ℕ} (W : Walks words m) where
  rises : (j k : ℕ) → j ≤ k → k < m → place_in words j ≤ place_in words k
  rises j k l h = omega (arith, W.rising j k l h)

  -- the end at b has another place, or there is none
  pub place_found : (a b : ℕ) → Visited words m a → a < b → b ≤ m → Here words a b → (b < m → place_in words b ≡ place_in words a → ⊥) → AtPlace words m a b
  place_found a b seen ab bm here other = record {
    some = ab;
    within = bm;
    here = here;
    before = λ k l. seen k a l (omega arith) (omega arith);
    after = λ k l h. ⊎_elim (λ g. omega (arith, g, rises b k l h)) (λ g. absurd (other (omega arith) (omega (arith, g, rises a b (omega arith) (omega arith))))) (lt-or-le (place_in words a) (place_in words b));
  }

-- one more end is counted
pub arrival-is : (words : List ℕ) (k : ℕ) → bit (arrives_in words k) ≡ get_or words k 0 / 8192 % 2
arrival-is words k = ⊎_elim (λ q. rw (eq-eqb (get_or words k 0 / 8192 % 2) 1 q) (omega arith)) (λ q. rw (ne_eqb (get_or words k 0 / 8192 % 2) 1 q) (omega arith)) (eq-or-ne (get_or words k 0 / 8192 % 2) 1)

pub arriving-more : (words : List ℕ) (a k number : ℕ) {more : ℕ} → number + count (arrives_in words) a ≡ count (arrives_in words) k → more ≡ get_or words k 0 / 8192 % 2 → number + more + count (arrives_in words) a ≡ count (arrives_in words) (k + 1)
arriving-more words a k number h q = omega (arith, h, q, count-more (arrives_in words) k, arrival-is words k)

pub repeats-told : (words : List ℕ) (k : ℕ) → 0 < k → eqb (key_in words (k - 1)) (key_in words k) ≡ repeats_in words k
unfolding repeats_in
repeats-told words k l = rw (lt-ltb 0 k l)

through-told : (words : List ℕ) (a b : ℕ) → passed_through words a b ≡ true → (b - a ≡ 2) × (get_or words a 0 / 8192 % 2 ≡ get_or words (a + 1) 0 / 8192 % 2 → ⊥)
unfolding passed_through
through-told words a b t = let v = both_true _ _ t in (eqb-true _ _ v.0, λ q. not-both (eq-eqb _ _ q) (not-true _ v.1))

module _ {words : List ℕ} {m a b : ℕ} (P : AtPlace words m a b) where
  pub visited-more : Visited words m b
  visited-more j k l h g = ⊎_elim (λ i. omega (arith, P.before j i, P.after k h g)) (λ i. omega (arith, P.here j i l, P.after k h g)) (lt-or-le j a)

  -- a test of the ends at the place, over all ends: it comes down to the ends between
  counted : (test : ℕ → Bool) → count (λ k. eqb (place_in words k) (place_in words a) && test k) m + count test a ≡ count test b
  counted test = count-between _ test a b m (omega (arith, P.some)) P.within
      (λ k l. ap (λ (x : Bool). x && test k) (ne_eqb (place_in words k) (place_in words a) (λ q. omega (arith, q, P.before k l))))
      (λ k l h. ap (λ (x : Bool). x && test k) (eq-eqb (place_in words k) (place_in words a) (P.here k l h)))
      (λ k l h. ap (λ (x : Bool). x && test k) (ne_eqb (place_in words k) (place_in words a) (λ q. omega (arith, q, P.after k l h))))

  arrive : count (arrives_at words (place_in words a)) m + count (arrives_in words) a ≡ count (arrives_in words) b
  arrive = counted (arrives_in words)

  leave : count (leaves_at words (place_in words a)) m + count (λ i. not (arrives_in words i)) a ≡ count (λ i. not (arrives_in words i)) b
  leave = counted (λ i. not (arrives_in words i))

  all : (n : ℕ) → n ≡ count (arrives_in words) n + count (λ i. not (arrives_in words i)) n
  all n = sym (count-all any_end n (λ i g. refl)) ∙ count-either (arrives_in words) (λ i. not (arrives_in words i)) any_end n (λ i g. one (arrives_in words i))
    where
      one : (x : Bool) → 1 ≡ bit x + bit (not x)
      one true = refl
      one false = refl

  -- the ends between are those that arrive at the place and those that leave it
  pub ends-between : count (arrives_at words (place_in words a)) m + count (leaves_at words (place_in words a)) m + a ≡ b
  ends-between = omega (arith, arrive, leave, all a, all b)

  -- of the ends between, as many arrive as leave where twice the arriving ones are all
  pub uneven-is : (number : ℕ) → number + count (arrives_in words) a ≡ count (arrives_in words) b → (k : ℕ) → a ≤ k → k < b → uneven_at words m k ≡ not (eqb (2 * number) (b - a))
  unfolding uneven_at
  uneven-is number told k l h =
      ap (λ (q : ℕ). not (eqb (count (arrives_at words q) m) (count (leaves_at words q) m))) (P.here k l h)
      ∙ ap not (eqb-agree (count (arrives_at words (place_in words a)) m) (count (leaves_at words (place_in words a)) m) (2 * number) (b - a) (λ q. omega (arith, q, told, arrive, leave, all a, all b)) (λ q. omega (arith, q, told, arrive, leave, all a, all b)))

  -- the end before the first one has another place
  first-new : repeats_in words a ≡ false
  unfolding repeats_in
  first-new = ⊎_elim
      (λ l. rw (lt-ltb 0 a l) (ne_eqb (key_in words (a - 1)) (key_in words a) (λ q. omega (arith, q, P.before (a - 1) (omega arith)))))
      (λ l. rw (le-ltb 0 a l))
      (lt-or-le 0 a)

  -- what is found at the place, put together with what was found before
  pub found-more : {x y : Option ℕ} {f : AtFault} → FoundSoFar words m a f → Least (repeats_in words) (edge_in words) (a + 1) b x → Least (uneven_at words m) (edge_in words) a b y → FoundSoFar words m b (record { repeated = lower f.repeated x; uneven = lower f.uneven y })
  found-more {x} {y} {f} F u v = record {
    repeated = least-join f.repeated x (omega arith) (omega (arith, P.some)) F.repeated (least-before x P.some first-new u);
    uneven = least-join f.uneven y (omega arith) (omega (arith, P.some)) F.uneven v;
  }

  -- two ends, one that arrives and one that leaves: no kind stands twice, and as many arrive as leave
  pub found-on : {f : AtFault} → passed_through words a b ≡ true → FoundSoFar words m a f → FoundSoFar words m b f
  found-on {f} t F = record {
    repeated = least_on f.repeated (omega arith) (omega (arith, P.some)) no_repeat F.repeated;
    uneven = least_on f.uneven (omega arith) (omega (arith, P.some)) level F.uneven;
  }
    where
      w : (b - a ≡ 2) × (get_or words a 0 / 8192 % 2 ≡ get_or words (a + 1) 0 / 8192 % 2 → ⊥)
      w = through-told words a b t

      next-new : repeats_in words (a + 1) ≡ false
      next-new = let back : a + 1 - 1 ≡ a = omega arith in rw (sym (repeats-told words (a + 1) (omega arith))) (ne_eqb (key_in words (a + 1 - 1)) (key_in words (a + 1)) (λ q. w.1 (omega (arith, sym (ap (key_in words) back) ∙ q))))

      no_repeat : (k : ℕ) → a ≤ k → k < b → repeats_in words k ≡ false
      no_repeat k l h = ⊎_elim (λ g. let q : k ≡ a = omega (arith, w.0) in rw q first-new) (λ g. let q : k ≡ a + 1 = omega (arith, w.0) in rw q next-new) (lt-or-le k (a + 1))

      counted-one : 1 + count (arrives_in words) a ≡ count (arrives_in words) b
      counted-one =
          let q : b ≡ a + 1 + 1 = omega (arith, w.0) in
          omega (arith, ap (count (arrives_in words)) q, count-more (arrives_in words) a, count-more (arrives_in words) (a + 1), arrival-is words a, arrival-is words (a + 1), w.1)

      level : (k : ℕ) → a ≤ k → k < b → uneven_at words m k ≡ false
      level k l h = uneven-is 1 counted-one k l h ∙ ap not (eq-eqb 2 (b - a) (sym w.0))

pub found_none : (words : List ℕ) (m : ℕ) → FoundSoFar words m 0 (record { repeated = None; uneven = None })
found_none words m = record { repeated = least_start; uneven = least_start }

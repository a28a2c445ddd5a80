-- Demand 3 is about something: every drawing with an edge has rows that are enough, they are computed, and they are one number.
-- Of the edges that pass a place take one whose top is lowest: all of them pass that top too, since it is not below the place and not above their own
-- tops. So C is the most edges that pass the top of an edge. A polygon number with no edges is not the longest outline's, so L is the most edges that
-- have the polygon number of an edge; that is at least 1, and has a logarithm. Of two numbers that are the most, each is reached and so not above the
-- other; of two whole parts of one logarithm neither is above the other.
use mathlib.Core.Path.{◌≡◌, refl, ap₂}
use mathlib.Core.Bool.{true}
use mathlib.Core.Logic.{⊎_elim}
use Prim.Native.Nat.{ℕ, ◌*◌, ◌≤◌, ◌<◌}
use native.Mathlib.Omega.{arith}
use lib.Dec.{eqb, ltb, leb}
use borrow.Author.Tests.{lt-ltb, ltb-true, le-leb, leb-true, eq-eqb, eqb-true}
use Rattle.laws.specs.Counting.{largest}
use Rattle.laws.proofs.Deciding.{lt-or-le, both_true}
use Rattle.laws.proofs.Counting.{count-find, count-some, count-implies}
use Rattle.laws.proofs.Largest.{largest-bound, largest-met}
use Rattle.laws.proofs.Least.{least-passing}
use Rattle.laws.proofs.Logarithm.{whole_log2, log2-at-least, log2-under, log2-ordered}
use Rattle.sheet.specs.Edges.{Drawing, top_height, bottom_height}
use Rattle.sheet.specs.Passing.{passes, passing, outline_size, Most, WholeLog2, Enough}

-- C, L and the rows, computed
unfoldable pub most_passing : Drawing → ℕ
most_passing sh = largest (λ e. passing sh (top_height sh e)) sh.edges

unfoldable pub longest_outline : Drawing → (ℕ → ℕ) → ℕ
longest_outline sh polygon = largest (λ e. outline_size sh polygon (polygon e)) sh.edges

unfoldable pub rows_enough : Drawing → (ℕ → ℕ) → ℕ
rows_enough sh polygon = most_passing sh * whole_log2 (longest_outline sh polygon)

-- where nothing that f has is above all of the f (g e), the largest of them is the most
largest-is-most : (f g : ℕ → ℕ) (n : ℕ) → 0 < n → ((k : ℕ) → 0 < f k → (e : ℕ) × (e < n) × (f k ≤ f (g e))) → Most f (largest (λ e. f (g e)) n)
largest-is-most f g n some above =
    record {
      bound = λ k. ⊎_elim (λ h. let v = above k h in omega (arith, v.2, largest-bound (λ e. f (g e)) n v.0 v.1)) (λ h. omega arith) (lt-or-le 0 (f k));
      reached = let v = largest-met (λ e. f (g e)) n some in (g v.0, v.2);
    }

module _ (sh : Drawing) where
  passes-between : (p e : ℕ) → passes sh p e ≡ true → (bottom_height sh e < p) × (p ≤ top_height sh e)
  passes-between p e h = let b = both_true (ltb (bottom_height sh e) p) (leb p (top_height sh e)) h in (ltb-true _ _ b.0, leb-true _ _ b.1)

  between-passes : (p e : ℕ) → bottom_height sh e < p → p ≤ top_height sh e → passes sh p e ≡ true
  between-passes p e l h = rw (lt-ltb (bottom_height sh e) p l, le-leb p (top_height sh e) h)

  -- the edges that pass p pass the lowest of their tops
  lowest-top : (p : ℕ) → 0 < passing sh p → (e : ℕ) × (e < sh.edges) × (passing sh p ≤ passing sh (top_height sh e))
  unfolding passing
  lowest-top p h =
      let v = count-find (passes sh p) sh.edges h in
      let w = least-passing (passes sh p) (top_height sh) sh.edges v.0 v.1 v.2 in
      let t = top_height sh w.0 in
      let too : (f : ℕ) → f < sh.edges → passes sh p f ≡ true → passes sh t f ≡ true = λ f l e. between-passes t f (omega (arith, passes-between p f e, passes-between p w.0 w.2)) (w.3 f l e) in
      (w.0, w.1, count-implies (passes sh p) (passes sh t) sh.edges too)

  module _ (polygon : ℕ → ℕ) where
    own-outline : (k : ℕ) → 0 < outline_size sh polygon k → (e : ℕ) × (e < sh.edges) × (outline_size sh polygon k ≤ outline_size sh polygon (polygon e))
    unfolding outline_size
    own-outline k h =
        let v = count-find (λ e. eqb (polygon e) k) sh.edges h in
        let q : polygon v.0 ≡ k = eqb-true _ _ v.2 in
        (v.0, v.1, rw q (omega arith))

    module _ (some : 0 < sh.edges) where
      longest-some : 0 < longest_outline sh polygon
      unfolding longest_outline outline_size
      longest-some = omega (arith, count-some (λ e. eqb (polygon e) (polygon 0)) sh.edges 0 some (eq-eqb (polygon 0) (polygon 0) refl), largest-bound (λ e. outline_size sh polygon (polygon e)) sh.edges 0 some)

      pub rows-enough : Enough sh polygon (rows_enough sh polygon)
      unfolding most_passing longest_outline rows_enough
      rows-enough =
          record {
            C = most_passing sh;
            L = longest_outline sh polygon;
            log = whole_log2 (longest_outline sh polygon);
            most_passing = largest-is-most (passing sh) (top_height sh) sh.edges some lowest-top;
            longest = largest-is-most (outline_size sh polygon) polygon sh.edges some own-outline;
            whole_part = record { at_least = log2-at-least _ longest-some; under = log2-under _ longest-some };
            rows_are = omega arith;
          }

pub enough-exists : (sh : Drawing) (polygon : ℕ → ℕ) → 0 < sh.edges → (rows : ℕ) × Enough sh polygon rows
enough-exists sh polygon some = (rows_enough sh polygon, rows-enough sh polygon some)

pub one-most : {f : ℕ → ℕ} {m n : ℕ} → Most f m → Most f n → m ≡ n
one-most a b = omega (arith, a.reached.1, b.bound a.reached.0, b.reached.1, a.bound b.reached.0)

pub one-whole-log2 : {n l m : ℕ} → WholeLog2 n l → WholeLog2 n m → l ≡ m
one-whole-log2 {n} {l} {m} a b = omega (arith, log2-ordered n l m a.at_least b.under, log2-ordered n m l b.at_least a.under)

pub one-enough : {sh : Drawing} {polygon : ℕ → ℕ} {rows rows' : ℕ} (a : Enough sh polygon rows) (b : Enough sh polygon rows') → (a.C ≡ b.C) × (a.L ≡ b.L) × (a.log ≡ b.log) × (rows ≡ rows')
one-enough a b =
    let c : a.C ≡ b.C = one-most a.most_passing b.most_passing in
    let l : a.L ≡ b.L = one-most a.longest b.longest in
    let g : a.log ≡ b.log = one-whole-log2 (rw l at a.whole_part) b.whole_part in
    (c, l, g, omega (arith, c, a.rows_are, b.rows_are, ap₂ ◌*◌ c g))

-- the computed numbers are those of demand 3
pub enough-is : (sh : Drawing) (polygon : ℕ → ℕ) → 0 < sh.edges → {rows : ℕ} (a : Enough sh polygon rows) → (a.C ≡ most_passing sh) × (a.L ≡ longest_outline sh polygon) × (a.log ≡ whole_log2 (longest_outline sh polygon)) × (rows ≡ rows_enough sh polygon)
unfolding rows-enough
enough-is sh polygon some a = one-enough a (rows-enough sh polygon some)

-- Looking further than a bound: where a test says nothing new past it, the first number that passes and how many pass stay what they are.
use mathlib.Core.Path.{◌≡◌, sym, ◌∙◌}
use mathlib.Core.Bool.{Bool, true, false}
use mathlib.Core.Logic.{⊎_elim}
use Prim.Native.Nat.{ℕ, ◌+◌, ◌-◌, ◌≤◌, ◌<◌, max}
use native.Mathlib.Omega.{arith}
use Rattle.laws.specs.Counting.{count, first}
use Rattle.laws.proofs.Deciding.{lt-or-le}
use Rattle.laws.proofs.Counting.{count_same, count_none, count-from}
use Rattle.laws.proofs.First.{first-le, first_holds, first-least, first-is}

module _ (p q : ℕ → Bool) (n m : ℕ) (same : (r : ℕ) → r < n → p r ≡ q r) where
  least : (k : ℕ) → k < first p n → q k ≡ false
  least k l = sym (same k (omega (arith, l, first-le p n))) ∙ first-least p n k l

  -- everything past the bound passes
  pub first-further : ((r : ℕ) → n ≤ r → r < m → q r ≡ true) → first p n ≡ first q (max n m)
  first-further all = first-is q (max n m) (first p n) (omega (arith, first-le p n)) holds least
    where
      holds : first p n < max n m → q (first p n) ≡ true
      holds l = ⊎_elim (λ h. sym (same (first p n) h) ∙ first_holds p n h) (λ h. all (first p n) h (omega arith)) (lt-or-le (first p n) n)

  -- nothing past the bound passes
  pub first-no-further : first p n < n → first p n ≡ first q (max n m)
  first-no-further h = first-is q (max n m) (first p n) (omega (arith, first-le p n)) (λ l. sym (same (first p n) h) ∙ first_holds p n h) least

  pub count-further : ((r : ℕ) → n ≤ r → r < m → q r ≡ false) → count p n ≡ count q (max n m)
  count-further none =
      omega (arith, count_same p q n same, count-from q n (max n m) (omega arith), count_none (λ i. q (n + i)) (max n m - n) (λ i l. none (n + i) (omega arith) (omega arith)))

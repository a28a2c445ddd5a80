-- A test that at most one number passes: how many pass is 1 or 0, as some number passes or none.
use mathlib.Core.Path.{◌≡◌, ap}
use mathlib.Core.Bool.{Bool, true}
use mathlib.Core.Logic.{⊎_elim}
use Prim.Native.Nat.{ℕ, ◌<◌}
use native.Mathlib.Omega.{arith}
use Rattle.laws.specs.Counting.{bit, count, some_below}
use Rattle.laws.proofs.Deciding.{lt-or-le, true-or-false}
use Rattle.laws.proofs.Counting.{count_none, count-some, count-other}
use Rattle.laws.proofs.First.{some-below-true, none_below}

pub count-once : (p : ℕ → Bool) (n : ℕ) → ((i j : ℕ) → i < n → j < n → p i ≡ true → p j ≡ true → i ≡ j) → count p n ≡ bit (some_below p n)
count-once p n once = ⊎_elim one (λ e. rw e (count_none p n (none_below p n e))) (true-or-false (some_below p n))
  where
    one : some_below p n ≡ true → count p n ≡ bit (some_below p n)
    one e =
        let v = some-below-true p n e in
        let few : count p n < 2 = ⊎_elim (λ l. l) (λ l. let w = count-other p n v.0 v.1 v.2 l in absurd (w.2 (once w.0 v.0 w.1 v.1 w.3 v.2))) (lt-or-le (count p n) 2) in
        omega (arith, few, count-some p n v.0 v.1 v.2, ap bit e)

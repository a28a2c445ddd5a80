-- What the library's `position` answers over a list: the first place whose element passes a test.
use Rattle.std.specs.Prelude.{◌≡◌, Bool, true, false, ℕ, ◌<◌, List, length, Option, MatchOption}
use Rattle.std.specs.List.{AllWithin, HoldsAt}
use mathlib.Core.Path.{sym}
use native.Mathlib.Omega.{arith}
use lib.ListN.{get_or}
use Rattle.std.specs.declared.option.Option.TheVariants.{None, Some}
use Rattle.laws.specs.Counting.{IsFirst}
use Rattle.laws.proofs.Searching.{found_first, found_none}

module _ {X : Type 0} (p : ℕ → Bool) (xs : List X) (d : X) (Yes No : X → Type 0)
    (passes : (k : ℕ) → Yes (get_or xs k d) → p k ≡ true)
    (fails : (k : ℕ) → k < length xs → No (get_or xs k d) → p k ≡ false) where
  pub first-positioned : (r : Option ℕ) → MatchOption r (AllWithin No xs 0 (length xs)) (λ i. (i < length xs) × HoldsAt Yes xs i × AllWithin No xs 0 i) → IsFirst p (length xs) r
  first-positioned None h = sym (found_none p (λ k l. fails k l (h k d (omega arith) l)) (omega arith))
  first-positioned (Some i) h = (h.0, found_first p (λ k l. fails k (omega (arith, h.0, l)) (h.2 k d (omega arith) l)) h.0 (passes i (h.1 d)))

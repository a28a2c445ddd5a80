-- What a search finds: a number that passes, below the bound; nothing, where none does; and the same where it looks further and nothing there passes.
use Rattle.std.specs.Prelude.{Some, None}
use mathlib.Core.Path.{◌≡◌, refl, sym, ap, ◌∙◌}
use mathlib.Core.Bool.{Bool, true, false, cond}
use mathlib.Core.Logic.{⊎_elim}
use Prim.Native.Nat.{ℕ, max, ◌≤◌, ◌<◌}
use native.Mathlib.Omega.{arith}
use lib.Dec.{ltb}
use borrow.Author.Tests.{lt-ltb, le-ltb, ltb-true, ltb-false}
use Rattle.laws.specs.Counting.{first}
use Rattle.laws.proofs.Deciding.{lt-or-le}
use Rattle.laws.proofs.First.{first_holds, first-least, first-none}
use Rattle.laws.proofs.Further.{first-no-further}
use Rattle.steps.specs.SweepUp.{found_below}

module _ (test : ℕ → Bool) (n : ℕ) where
  pub found_at : (r : ℕ) → found_below test n ≡ Some r → (r < n) × (test r ≡ true)
  unfolding found_below
  found_at r e = by (ltb (first test n) n) refl e
    where
      by : (b : Bool) → ltb (first test n) n ≡ b → cond b (Some (first test n)) None ≡ Some r → (r < n) × (test r ≡ true)
      by false f h = let z : ◌≡◌ {A = ℕ} 0 1 = cc in absurd (omega arith)
      by true f h = let q : first test n ≡ r = cc in let l = ltb-true (first test n) n f in (omega arith, ap test (sym q) ∙ first_holds test n l)

  pub found_none : found_below test n ≡ None → (r : ℕ) → r < n → test r ≡ false
  unfolding found_below
  found_none e r l = by (ltb (first test n) n) refl e
    where
      by : (b : Bool) → ltb (first test n) n ≡ b → cond b (Some (first test n)) None ≡ None → test r ≡ false
      by true f h = let z : ◌≡◌ {A = ℕ} 0 1 = cc in absurd (omega arith)
      by false f h = first-least test n r (omega (arith, ltb-false (first test n) n f))

pub found-same : (p q : ℕ → Bool) (n m : ℕ) → ((r : ℕ) → r < n → p r ≡ q r) → ((r : ℕ) → n ≤ r → r < m → q r ≡ false) → found_below p n ≡ found_below q (max n m)
unfolding found_below
found-same p q n m same none = ⊎_elim some nothing (lt-or-le (first p n) n)
  where
    some : first p n < n → cond (ltb (first p n) n) (Some (first p n)) None ≡ cond (ltb (first q (max n m)) (max n m)) (Some (first q (max n m))) None
    some l =
        let e = first-no-further p q n m same l in
        rw (lt-ltb (first p n) n l, lt-ltb (first q (max n m)) (max n m) (omega (arith, l, e)), e)

    nothing : n ≤ first p n → cond (ltb (first p n) n) (Some (first p n)) None ≡ cond (ltb (first q (max n m)) (max n m)) (Some (first q (max n m))) None
    nothing l =
        let e = first-none q (max n m) (λ r h. ⊎_elim (λ a. sym (same r a) ∙ first-least p n r (omega (arith, a, l))) (λ a. none r a (omega arith)) (lt-or-le r n)) in
        rw (le-ltb (first p n) n l, le-ltb (first q (max n m)) (max n m) (omega (arith, e)))

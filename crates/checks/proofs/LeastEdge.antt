-- `Least` in a loop: none tried, one more tried, two stretches of ends put together. Where a number passes a test as an end of it does, the least edge
-- of all ends is the first number that passes.
use mathlib.Core.Path.{◌≡◌, refl, sym, ap, ◌∙◌}
use mathlib.Core.Bool.{Bool, true, false}
use mathlib.Core.Logic.{⊎_elim}
use Prim.Native.Nat.{ℕ, ◌+◌, ◌≤◌, ◌<◌, min}
use native.Mathlib.Omega.{arith}
use Rattle.std.specs.Prelude.{Option, None, Some}
use Rattle.laws.specs.Counting.{IsFirst}
use Rattle.laws.proofs.Deciding.{lt-or-le, true-or-false, not-both}
use Rattle.laws.proofs.Searching.{found_first, found_none}
use Rattle.checks.specs.Places.{Least, lower}

-- of the ends from a to b none passes, or e is the least edge of those that do
record Nowhere (test : ℕ → Bool) (a b : ℕ) : Type 0 where
  fails : (k : ℕ) → a ≤ k → k < b → test k ≡ false

record Lowest (test : ℕ → Bool) (edge : ℕ → ℕ) (a b e : ℕ) : Type 0 where
  end : (k : ℕ) × (a ≤ k) × (k < b) × (test k ≡ true) × (edge k ≡ e)
  under : (k : ℕ) → a ≤ k → k < b → test k ≡ true → e ≤ edge k

module _ {test : ℕ → Bool} where
  nowhere-join : {a b c : ℕ} → Nowhere test a b → Nowhere test b c → Nowhere test a c
  nowhere-join {b = b} f g = record { fails = λ k m h. ⊎_elim (f.fails k m) (λ i. g.fails k i h) (lt-or-le k b) }

  nowhere-none : {a : ℕ} → Nowhere test a a
  nowhere-none = record { fails = λ k m h. absurd (omega arith) }

module _ {test : ℕ → Bool} {edge : ℕ → ℕ} where
  -- no end passes
  pub least-none : {a b : ℕ} → ((k : ℕ) → a ≤ k → k < b → test k ≡ false) → Least test edge a b None
  least-none f = record { least = f }

  pub least_start : {a : ℕ} → Least test edge a a None
  least_start = least-none (λ k l h. absurd (omega arith))

  nowhere : {a b : ℕ} → Least test edge a b None → Nowhere test a b
  nowhere x = record { fails = x.least }

  no-end : {a b : ℕ} → Nowhere test a b → Least test edge a b None
  no-end f = record { least = f.fails }

  lowest : {a b e : ℕ} → Least test edge a b (Some e) → Lowest test edge a b e
  lowest x = record { end = x.least.0; under = x.least.1 }

  told : {a b e : ℕ} → Lowest test edge a b e → Least test edge a b (Some e)
  told l = record { least = (l.end, l.under) }

  -- the stretch made longer by ends that fail
  lowest-in : {a b c d e : ℕ} → a ≤ b → c ≤ d → Nowhere test a b → Nowhere test c d → Lowest test edge b c e → Lowest test edge a d e
  lowest-in {a} {b} {c} {d} ab cd f g l = record {
    end = let v = l.end in (v.0, omega (arith, v.1), omega (arith, v.2), v.3, v.4);
    under = λ k m h t. ⊎_elim (λ i. absurd (not-both t (f.fails k m i))) (λ i. ⊎_elim (λ j. l.under k i j t) (λ j. absurd (not-both t (g.fails k j h))) (lt-or-le k c)) (lt-or-le k b);
  }

  -- the end at a fails
  pub least-before : {a b : ℕ} (r : Option ℕ) → a < b → test a ≡ false → Least test edge (a + 1) b r → Least test edge a b r
  least-before {a} {b} r ab f x = by r x
    where
      here : Nowhere test a (a + 1)
      here = record { fails = λ k m h. let q : k ≡ a = omega arith in ap test q ∙ f }

      by : (r : Option ℕ) → Least test edge (a + 1) b r → Least test edge a b r
      by None x = no-end (nowhere-join here (nowhere x))
      by (Some e) x = told (lowest-in (omega arith) (omega arith) here nowhere-none (lowest x))

  lowest-join : {a b c e f : ℕ} → a ≤ b → b ≤ c → Lowest test edge a b e → Lowest test edge b c f → Lowest test edge a c (min e f)
  lowest-join {b = b} {e = e} {f = f} ab bc x y = record {
    end = ⊎_elim
        (λ h. let v = x.end in (v.0, v.1, omega (arith, v.2), v.3, omega (arith, v.4)))
        (λ h. let v = y.end in (v.0, omega (arith, v.1), v.2, v.3, omega (arith, v.4)))
        (lt-or-le e f);
    under = λ k l h t. ⊎_elim (λ g. omega (arith, x.under k l g t)) (λ g. omega (arith, y.under k g h t)) (lt-or-le k b);
  }

  pub least-join : {a b c : ℕ} (q r : Option ℕ) → a ≤ b → b ≤ c → Least test edge a b q → Least test edge b c r → Least test edge a c (lower q r)
  least-join None None ab bc x y = no-end (nowhere-join (nowhere x) (nowhere y))
  least-join None (Some f) ab bc x y = told (lowest-in ab (omega arith) (nowhere x) nowhere-none (lowest y))
  least-join (Some e) None ab bc x y = told (lowest-in (omega arith) bc nowhere-none (nowhere y) (lowest x))
  least-join (Some e) (Some f) ab bc x y = told (lowest-join ab bc (lowest x) (lowest y))

  -- one more end tried
  pub least-passed : {a b : ℕ} (r : Option ℕ) → a ≤ b → test b ≡ true → Least test edge a b r → Least test edge a (b + 1) (lower r (Some (edge b)))
  least-passed {a} {b} r ab t x = least-join r (Some (edge b)) ab (omega arith) x (told (record { end = (b, omega arith, omega arith, t, refl); under = λ k m h t. let q : k ≡ b = omega arith in omega (arith, ap edge q) }))

  -- no further end passes
  pub least_on : {a b c : ℕ} (r : Option ℕ) → a ≤ b → b ≤ c → ((k : ℕ) → b ≤ k → k < c → test k ≡ false) → Least test edge a b r → Least test edge a c r
  least_on None ab bc f x = no-end (nowhere-join (nowhere x) (record { fails = f }))
  least_on (Some e) ab bc f x = told (lowest-in (omega arith) bc nowhere-none (record { fails = f }) (lowest x))

  -- one more end tried that fails
  pub least-failed : {a b : ℕ} (r : Option ℕ) → a ≤ b → test b ≡ false → Least test edge a b r → Least test edge a (b + 1) r
  least-failed {b = b} r ab t x = least_on r ab (omega arith) (λ k m h. let q : k ≡ b = omega arith in ap test q ∙ t) x

  -- another test that the ends between pass alike
  pub least-same : (test' : ℕ → Bool) {a b : ℕ} (r : Option ℕ) → ((k : ℕ) → a ≤ k → k < b → test' k ≡ test k) → Least test edge a b r → Least test' edge a b r
  least-same test' None e x = record { least = λ k l h. e k l h ∙ x.least k l h }
  least-same test' (Some f) e x = record { least = (let v = x.least.0 in (v.0, v.1, v.2, e v.0 v.1 v.2 ∙ v.3, v.4), λ k l h t. x.least.1 k l h (sym (e k l h) ∙ t)) }

  -- of numbers below n that pass as an end of theirs does the least edge is the first
  module _ (p : ℕ → Bool) {m n : ℕ} (small : (k : ℕ) → k < m → edge k < n) (to : (k : ℕ) → k < m → test k ≡ true → p (edge k) ≡ true) (from : (e : ℕ) → e < n → p e ≡ true → (k : ℕ) × (k < m) × (test k ≡ true) × (edge k ≡ e)) where
    pub least_first : (r : Option ℕ) → Least test edge 0 m r → IsFirst p n r
    least_first None x = sym (found_none p (λ e l. ⊎_elim (λ t. let v = from e l t in absurd (not-both v.2 (x.least v.0 (omega arith) v.1))) (λ t. t) (true-or-false (p e))) (omega arith))
    least_first (Some r) x = let v = x.least.0 in let l : r < n = omega (arith, small v.0 v.2, v.4) in (l, found_first p least l (ap p (sym v.4) ∙ to v.0 v.2 v.3))
      where
        least : (e : ℕ) → e < r → p e ≡ false
        least e l = let v = x.least.0 in ⊎_elim (λ t. let w = from e (omega (arith, small v.0 v.2, v.4)) t in absurd (omega (arith, w.3, x.least.1 w.0 (omega arith) w.1 w.2))) (λ t. t) (true-or-false (p e))

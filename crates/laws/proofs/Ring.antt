-- Identities over the integers, by computation. Both sides are written as expressions over a list of numbers; they are equal where their difference,
-- multiplied out, has no term left: `ring (x ∷ y ∷ []) (v 0 ⊠ v 1) (v 1 ⊠ v 0) refl : x *ℤ y ≡ y *ℤ x`.
use mathlib.Core.Path.{◌≡◌, refl, sym, ap, ◌∙◌}
use mathlib.Core.Bool.{Bool, true, false, cond, ◌&&◌}
use mathlib.Core.List.{List, [], ◌∷◌}
use Prim.Native.Nat.{ℕ, zero, suc}
use lib.Dec.{eqb, leb}
use lib.IntN.{ℤ, pos, negsuc, neg_ℤ, ◌+ℤ◌, ◌*ℤ◌, +ℤ_idl, +ℤ_idr, +ℤ_assoc, +ℤ_comm, -ℤ-+ℤ_cancel, zero-*ℤ, *ℤ-zero, *ℤ_comm, *ℤ-one, one}
use borrow.Author.Tests.{eqb-true}
use Rattle.laws.proofs.Deciding.{both_true, not-both}
use Rattle.laws.proofs.Integers.{sum-times, times-sum, times-assoc, neg_is}

infixl 6 ◌⊞◌ ◌⊟◌
infixl 7 ◌⊠◌
pub data Ex : Type 0 where
  -- the number at a place of the list, a number, a sum, a product, minus
  v : ℕ → Ex
  num : ℤ → Ex
  ◌⊞◌ : Ex → Ex → Ex
  ◌⊠◌ : Ex → Ex → Ex
  opp : Ex → Ex

abbrev pub ◌⊟◌ : Ex → Ex → Ex
a ⊟ b = a ⊞ opp b

abbrev pub nth : List ℤ → ℕ → ℤ
nth [] i = pos 0
nth (x ∷ ρ) zero = x
nth (x ∷ ρ) (suc i) = nth ρ i

-- what an expression means
abbrev pub den : List ℤ → Ex → ℤ
den ρ (v i) = nth ρ i
den ρ (num z) = z
den ρ (a ⊞ b) = den ρ a +ℤ den ρ b
den ρ (a ⊠ b) = den ρ a *ℤ den ρ b
den ρ (opp a) = neg_ℤ (den ρ a)

-- a term: a coefficient and the places of its factors, in order
pub record Term : Type 0 where
  pub coef : ℤ
  pub vars : List ℕ

abbrev pub insert : ℕ → List ℕ → List ℕ
insert i [] = i ∷ []
insert i (j ∷ js) = cond (leb i j) (i ∷ j ∷ js) (j ∷ insert i js)

abbrev pub merge : List ℕ → List ℕ → List ℕ
merge [] ks = ks
merge (i ∷ is) ks = insert i (merge is ks)

abbrev pub same : List ℕ → List ℕ → Bool
same [] [] = true
same [] (k ∷ ks) = false
same (i ∷ is) [] = false
same (i ∷ is) (k ∷ ks) = eqb i k && same is ks

-- one more term: to the one with its factors, or at the end
abbrev pub plus : ℤ → List ℕ → List Term → List Term
plus c m [] = record { coef = c; vars = m } ∷ []
plus c m (t ∷ p) = cond (same m t.vars) (record { coef = c +ℤ t.coef; vars = t.vars } ∷ p) (t ∷ plus c m p)

abbrev pub add : List Term → List Term → List Term
add [] q = q
add (t ∷ p) q = plus t.coef t.vars (add p q)

abbrev pub times : ℤ → List ℕ → List Term → List Term
times c m [] = []
times c m (t ∷ p) = plus (c *ℤ t.coef) (merge m t.vars) (times c m p)

abbrev pub mult : List Term → List Term → List Term
mult [] q = []
mult (t ∷ p) q = add (times t.coef t.vars q) (mult p q)

-- an expression multiplied out
abbrev pub norm : Ex → List Term
norm (v i) = record { coef = pos 1; vars = i ∷ [] } ∷ []
norm (num z) = record { coef = z; vars = [] } ∷ []
norm (a ⊞ b) = add (norm a) (norm b)
norm (a ⊠ b) = mult (norm a) (norm b)
norm (opp a) = times (negsuc 0) [] (norm a)

abbrev pub is_zero : ℤ → Bool
is_zero (pos n) = eqb n 0
is_zero (negsuc n) = false

abbrev pub all_zero : List Term → Bool
all_zero [] = true
all_zero (t ∷ p) = is_zero t.coef && all_zero p

same_true : (m k : List ℕ) → same m k ≡ true → m ≡ k
same_true [] [] h = refl
same_true [] (k ∷ ks) h = absurd (not-both h refl)
same_true (i ∷ is) [] h = absurd (not-both h refl)
same_true (i ∷ is) (k ∷ ks) h =
    let b = both_true (eqb i k) (same is ks) h in
    let e : i ≡ k = eqb-true i k b.0 in
    let f : is ≡ ks = same_true is ks b.1 in
    cc

is_zero-true : (z : ℤ) → is_zero z ≡ true → z ≡ pos 0
is_zero-true (pos n) h = ap pos (eqb-true n 0 h)
is_zero-true (negsuc n) h = absurd (not-both h refl)

one-times : (a : ℤ) → pos 1 *ℤ a ≡ a
unfolding one
one-times a = *ℤ_comm (pos 1) a ∙ *ℤ-one a

left_comm : (a b c : ℤ) → a *ℤ (b *ℤ c) ≡ b *ℤ (a *ℤ c)
left_comm a b c = sym (times-assoc a b c) ∙ ap (λ (x : ℤ). x *ℤ c) (*ℤ_comm a b) ∙ times-assoc b a c

left-swap : (a b c : ℤ) → a +ℤ (b +ℤ c) ≡ b +ℤ (a +ℤ c)
left-swap a b c = sym (+ℤ_assoc a b c) ∙ ap (λ (x : ℤ). x +ℤ c) (+ℤ_comm a b) ∙ +ℤ_assoc b a c

module _ (ρ : List ℤ) where
  -- what a product of factors means, and a sum of terms
  abbrev pub evm : List ℕ → ℤ
  evm [] = pos 1
  evm (i ∷ is) = nth ρ i *ℤ evm is

  abbrev pub evp : List Term → ℤ
  evp [] = pos 0
  evp (t ∷ p) = t.coef *ℤ evm t.vars +ℤ evp p

  insert-is : (i : ℕ) (js : List ℕ) → evm (insert i js) ≡ nth ρ i *ℤ evm js
  insert-is i [] = refl
  insert-is i (j ∷ js) = by (insert-is i js) (leb i j)
    where
      by : evm (insert i js) ≡ nth ρ i *ℤ evm js → (t : Bool) → evm (cond t (i ∷ j ∷ js) (j ∷ insert i js)) ≡ nth ρ i *ℤ evm (j ∷ js)
      by h true = refl
      by h false = ap (λ (x : ℤ). nth ρ j *ℤ x) h ∙ left_comm (nth ρ j) (nth ρ i) (evm js)

  merge-is : (is ks : List ℕ) → evm (merge is ks) ≡ evm is *ℤ evm ks
  merge-is [] ks = sym (one-times (evm ks))
  merge-is (i ∷ is) ks = insert-is i (merge is ks) ∙ ap (λ (x : ℤ). nth ρ i *ℤ x) (merge-is is ks) ∙ sym (times-assoc (nth ρ i) (evm is) (evm ks))

  plus-is : (c : ℤ) (m : List ℕ) (p : List Term) → evp (plus c m p) ≡ c *ℤ evm m +ℤ evp p
  plus-is c m [] = refl
  plus-is c m (t ∷ p) = by (plus-is c m p) (same m t.vars) refl
    where
      by : evp (plus c m p) ≡ c *ℤ evm m +ℤ evp p → (b : Bool) → same m t.vars ≡ b →
          evp (cond b (record { coef = c +ℤ t.coef; vars = t.vars } ∷ p) (t ∷ plus c m p)) ≡ c *ℤ evm m +ℤ evp (t ∷ p)
      by h true e =
          ap (λ (x : ℤ). x +ℤ evp p) (sum-times c t.coef (evm t.vars)) ∙ +ℤ_assoc (c *ℤ evm t.vars) (t.coef *ℤ evm t.vars) (evp p) ∙
          ap (λ (k : List ℕ). c *ℤ evm k +ℤ evp (t ∷ p)) (sym (same_true m t.vars e))
      by h false e = ap (λ (x : ℤ). t.coef *ℤ evm t.vars +ℤ x) h ∙ left-swap (t.coef *ℤ evm t.vars) (c *ℤ evm m) (evp p)

  add_is : (p q : List Term) → evp (add p q) ≡ evp p +ℤ evp q
  add_is [] q = sym (+ℤ_idl (evp q))
  add_is (t ∷ p) q =
      plus-is t.coef t.vars (add p q) ∙ ap (λ (x : ℤ). t.coef *ℤ evm t.vars +ℤ x) (add_is p q) ∙
      sym (+ℤ_assoc (t.coef *ℤ evm t.vars) (evp p) (evp q))

  times-is : (c : ℤ) (m : List ℕ) (p : List Term) → evp (times c m p) ≡ (c *ℤ evm m) *ℤ evp p
  times-is c m [] = sym (*ℤ-zero (c *ℤ evm m))
  times-is c m (t ∷ p) =
      plus-is (c *ℤ t.coef) (merge m t.vars) (times c m p) ∙
      ap (λ (x : ℤ). c *ℤ t.coef *ℤ x +ℤ evp (times c m p)) (merge-is m t.vars) ∙
      ap (λ (x : ℤ). c *ℤ t.coef *ℤ (evm m *ℤ evm t.vars) +ℤ x) (times-is c m p) ∙
      ap (λ (x : ℤ). x +ℤ c *ℤ evm m *ℤ evp p) (four c t.coef (evm m) (evm t.vars)) ∙
      sym (times-sum (c *ℤ evm m) (t.coef *ℤ evm t.vars) (evp p))
    where
      four : (a b x y : ℤ) → a *ℤ b *ℤ (x *ℤ y) ≡ a *ℤ x *ℤ (b *ℤ y)
      four a b x y = times-assoc a b (x *ℤ y) ∙ ap (λ (z : ℤ). a *ℤ z) (left_comm b x y) ∙ sym (times-assoc a x (b *ℤ y))

  mult-is : (p q : List Term) → evp (mult p q) ≡ evp p *ℤ evp q
  mult-is [] q = sym (zero-*ℤ (evp q))
  mult-is (t ∷ p) q =
      add_is (times t.coef t.vars q) (mult p q) ∙ ap (λ (x : ℤ). x +ℤ evp (mult p q)) (times-is t.coef t.vars q) ∙
      ap (λ (x : ℤ). t.coef *ℤ evm t.vars *ℤ evp q +ℤ x) (mult-is p q) ∙ sym (sum-times (t.coef *ℤ evm t.vars) (evp p) (evp q))

  norm-is : (e : Ex) → evp (norm e) ≡ den ρ e
  norm-is (v i) = +ℤ_idr (pos 1 *ℤ (nth ρ i *ℤ pos 1)) ∙ one-times (nth ρ i *ℤ pos 1) ∙ *ℤ_comm (nth ρ i) (pos 1) ∙ one-times (nth ρ i)
  norm-is (num z) = +ℤ_idr (z *ℤ pos 1) ∙ *ℤ_comm z (pos 1) ∙ one-times z
  norm-is (a ⊞ b) = add_is (norm a) (norm b) ∙ ap (λ (x : ℤ). x +ℤ evp (norm b)) (norm-is a) ∙ ap (λ (x : ℤ). den ρ a +ℤ x) (norm-is b)
  norm-is (a ⊠ b) = mult-is (norm a) (norm b) ∙ ap (λ (x : ℤ). x *ℤ evp (norm b)) (norm-is a) ∙ ap (λ (x : ℤ). den ρ a *ℤ x) (norm-is b)
  norm-is (opp a) = times-is (negsuc 0) [] (norm a) ∙ sym (neg_is (evp (norm a))) ∙ ap neg_ℤ (norm-is a)

  zero_is : (p : List Term) → all_zero p ≡ true → evp p ≡ pos 0
  zero_is [] h = refl
  zero_is (t ∷ p) h =
      let b = both_true (is_zero t.coef) (all_zero p) h in
      ap (λ (x : ℤ). x *ℤ evm t.vars +ℤ evp p) (is_zero-true t.coef b.0) ∙
      ap (λ (x : ℤ). x +ℤ evp p) (zero-*ℤ (evm t.vars)) ∙ +ℤ_idl (evp p) ∙ zero_is p b.1

  -- equal where nothing is left of the difference
  pub ring : (e f : Ex) → all_zero (norm (e ⊟ f)) ≡ true → den ρ e ≡ den ρ f
  ring e f h =
      sym (-ℤ-+ℤ_cancel (den ρ e) (den ρ f)) ∙
      ap (λ (x : ℤ). x +ℤ den ρ f) (sym (norm-is (e ⊟ f)) ∙ zero_is (norm (e ⊟ f)) h) ∙
      +ℤ_idl (den ρ f)

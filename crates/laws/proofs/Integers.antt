-- What the toolchain's integers lack of a ring: the product goes over sums and is associative, and minus is a product. A law of three numbers is
-- shown of 0, then from a number to the next and to the one before.
use mathlib.Core.Path.{◌≡◌, sym, ap, ◌∙◌}
use Prim.Native.Nat.{ℕ, suc}
use native.Mathlib.Nat.{one-mul}
use lib.IntN.{ℤ, pos, negsuc, neg_ℤ, suc_ℤ, pred_ℤ, ◌+ℤ◌, ◌-ℤ◌, ◌*ℤ◌, ℤ_ind, zero-*ℤ, suc_ℤ-*ℤ, pred_ℤ-*ℤ, *ℤ_comm}
use lib.IntN.{+ℤ_idl, +ℤ_idr, +ℤ_one, -ℤ_one, +ℤ_assoc, +ℤ_comm, +ℤ_invr, +ℤ-neg_ℤ_cancel, +ℤ-suc_ℤ, +ℤ-pred_ℤ}

-- what holds of 0, and with a number of the next and of the one before, holds of all
by-steps : (P : ℤ → Type 0) → P (pos 0) → ((k : ℤ) → P k → P (suc_ℤ k)) → ((k : ℤ) → P k → P (pred_ℤ k)) → (k : ℤ) → P k
by-steps P z s p = ℤ_ind P z (λ n h. rw +ℤ_one (s (pos n) h)) (λ n h. rw -ℤ_one (p (neg_ℤ (pos n)) h))

-- (a + b) c = a c + b c
pub sum-times : (a b c : ℤ) → (a +ℤ b) *ℤ c ≡ a *ℤ c +ℤ b *ℤ c
sum-times a b c = by-steps (λ k. (a +ℤ k) *ℤ c ≡ a *ℤ c +ℤ k *ℤ c) none more less b
  where
    none : (a +ℤ pos 0) *ℤ c ≡ a *ℤ c +ℤ pos 0 *ℤ c
    none = rw (+ℤ_idr a, zero-*ℤ c, +ℤ_idr (a *ℤ c))

    more : (k : ℤ) → (a +ℤ k) *ℤ c ≡ a *ℤ c +ℤ k *ℤ c → (a +ℤ suc_ℤ k) *ℤ c ≡ a *ℤ c +ℤ suc_ℤ k *ℤ c
    more k h =
        ap (λ (x : ℤ). x *ℤ c) (+ℤ-suc_ℤ a k) ∙ suc_ℤ-*ℤ (a +ℤ k) c ∙ ap (λ (x : ℤ). x +ℤ c) h ∙
        +ℤ_assoc (a *ℤ c) (k *ℤ c) c ∙ ap (λ (x : ℤ). a *ℤ c +ℤ x) (sym (suc_ℤ-*ℤ k c))

    less : (k : ℤ) → (a +ℤ k) *ℤ c ≡ a *ℤ c +ℤ k *ℤ c → (a +ℤ pred_ℤ k) *ℤ c ≡ a *ℤ c +ℤ pred_ℤ k *ℤ c
    less k h =
        ap (λ (x : ℤ). x *ℤ c) (+ℤ-pred_ℤ a k) ∙ pred_ℤ-*ℤ (a +ℤ k) c ∙ ap (λ (x : ℤ). x -ℤ c) h ∙
        +ℤ_assoc (a *ℤ c) (k *ℤ c) (neg_ℤ c) ∙ ap (λ (x : ℤ). a *ℤ c +ℤ x) (sym (pred_ℤ-*ℤ k c))

pub times-sum : (a b c : ℤ) → a *ℤ (b +ℤ c) ≡ a *ℤ b +ℤ a *ℤ c
times-sum a b c = *ℤ_comm a (b +ℤ c) ∙ sum-times b c a ∙ ap (λ (x : ℤ). x +ℤ c *ℤ a) (*ℤ_comm b a) ∙ ap (λ (x : ℤ). a *ℤ b +ℤ x) (*ℤ_comm c a)

-- -a = (-1) a
pub neg_is : (a : ℤ) → neg_ℤ a ≡ negsuc 0 *ℤ a
neg_is (pos n) = ap (λ (k : ℕ). neg_ℤ (pos k)) (sym (one-mul n))
neg_is (negsuc n) = ap pos (sym (one-mul (suc n)))

-- numbers that add up to 0 are each other's negatives
pub adds-up : (x y : ℤ) → x +ℤ y ≡ pos 0 → y ≡ neg_ℤ x
adds-up x y h = sym (+ℤ-neg_ℤ_cancel y x) ∙ ap (λ (z : ℤ). z -ℤ x) (+ℤ_comm y x ∙ h) ∙ +ℤ_idl (neg_ℤ x)

neg-times : (a b : ℤ) → neg_ℤ a *ℤ b ≡ neg_ℤ (a *ℤ b)
neg-times a b = adds-up (a *ℤ b) (neg_ℤ a *ℤ b) (sym (sum-times a (neg_ℤ a) b) ∙ ap (λ (x : ℤ). x *ℤ b) (+ℤ_invr a) ∙ zero-*ℤ b)

pub times-assoc : (a b c : ℤ) → (a *ℤ b) *ℤ c ≡ a *ℤ (b *ℤ c)
times-assoc a b c = by-steps (λ k. (k *ℤ b) *ℤ c ≡ k *ℤ (b *ℤ c)) none more less a
  where
    none : (pos 0 *ℤ b) *ℤ c ≡ pos 0 *ℤ (b *ℤ c)
    none = ap (λ (x : ℤ). x *ℤ c) (zero-*ℤ b) ∙ zero-*ℤ c ∙ sym (zero-*ℤ (b *ℤ c))

    more : (k : ℤ) → (k *ℤ b) *ℤ c ≡ k *ℤ (b *ℤ c) → (suc_ℤ k *ℤ b) *ℤ c ≡ suc_ℤ k *ℤ (b *ℤ c)
    more k h = ap (λ (x : ℤ). x *ℤ c) (suc_ℤ-*ℤ k b) ∙ sum-times (k *ℤ b) b c ∙ ap (λ (x : ℤ). x +ℤ b *ℤ c) h ∙ sym (suc_ℤ-*ℤ k (b *ℤ c))

    less : (k : ℤ) → (k *ℤ b) *ℤ c ≡ k *ℤ (b *ℤ c) → (pred_ℤ k *ℤ b) *ℤ c ≡ pred_ℤ k *ℤ (b *ℤ c)
    less k h =
        ap (λ (x : ℤ). x *ℤ c) (pred_ℤ-*ℤ k b) ∙ sum-times (k *ℤ b) (neg_ℤ b) c ∙
        ap (λ (x : ℤ). k *ℤ b *ℤ c +ℤ x) (neg-times b c) ∙ ap (λ (x : ℤ). x -ℤ b *ℤ c) h ∙ sym (pred_ℤ-*ℤ k (b *ℤ c))

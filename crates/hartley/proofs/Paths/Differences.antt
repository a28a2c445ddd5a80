-- Differences of two natural numbers, which is all of ℤ that the sweeps need: adding them adds both parts, and two are equal where a sum of parts in ℕ is.
use mathlib.Core.Path.{◌≡◌, ap, sym, ◌∙◌}
use Prim.Native.Nat.{ℕ, ◌+◌}
use native.Mathlib.Nat.{add_comm}
use native.Mathlib.Omega.{arith}
use lib.IntN.{ℤ, pos, neg_ℤ, ◌+ℤ◌, +ℤ_assoc, +ℤ_comm, +ℤ_idr, +ℤ_idl, +ℤ_invr, neg_ℤ-+ℤ}

unfoldable pub diff : ℕ → ℕ → ℤ
diff a b = pos a +ℤ neg_ℤ (pos b)

left_comm : (a b c : ℤ) → a +ℤ (b +ℤ c) ≡ b +ℤ (a +ℤ c)
left_comm a b c = sym (+ℤ_assoc a b c) ∙ ap (λ x. x +ℤ c) (+ℤ_comm a b) ∙ +ℤ_assoc b a c

pub pos-diff : (n : ℕ) → pos n ≡ diff n 0
unfolding diff
pos-diff n = sym (+ℤ_idr (pos n))

pub neg-diff : (n : ℕ) → neg_ℤ (pos n) ≡ diff 0 n
unfolding diff
neg-diff n = sym (+ℤ_idl (neg_ℤ (pos n)))

pub diff-add : (a b c d : ℕ) → diff a b +ℤ diff c d ≡ diff (a + c) (b + d)
unfolding diff
diff-add a b c d = lemma (pos a) (neg_ℤ (pos b)) (pos c) (neg_ℤ (pos d)) ∙ ap (λ x. pos (a + c) +ℤ x) (sym (neg_ℤ-+ℤ (pos b) (pos d)))
  where
    lemma : (x y z w : ℤ) → (x +ℤ y) +ℤ (z +ℤ w) ≡ (x +ℤ z) +ℤ (y +ℤ w)
    lemma x y z w = +ℤ_assoc x y (z +ℤ w) ∙ ap (λ u. x +ℤ u) (left_comm y z w) ∙ sym (+ℤ_assoc x z (y +ℤ w))

pub diff-self : (n : ℕ) → diff n n ≡ pos 0
unfolding diff
diff-self n = +ℤ_invr (pos n)

diff-pad : (a b n : ℕ) → diff a b ≡ diff (a + n) (b + n)
diff-pad a b n = sym (+ℤ_idr (diff a b)) ∙ ap (λ x. diff a b +ℤ x) (sym (diff-self n)) ∙ diff-add a b n n

pub diff-eq : (a b c d : ℕ) → a + d ≡ c + b → diff a b ≡ diff c d
diff-eq a b c d e = diff-pad a b d ∙ ap (λ x. diff x (b + d)) e ∙ ap (λ x. diff (c + b) x) (add_comm b d) ∙ sym (diff-pad c d b)

-- the two offsets: a number forward, a number back
pub pos_plus : (k a b c d : ℕ) → k + a + d ≡ c + b → pos k +ℤ diff a b ≡ diff c d
pos_plus k a b c d e = ap (λ x. x +ℤ diff a b) (pos-diff k) ∙ diff-add k 0 a b ∙ diff-eq (k + a) (0 + b) c d (omega arith)

pub neg-plus : (k a b c d : ℕ) → a + d ≡ c + (k + b) → neg_ℤ (pos k) +ℤ diff a b ≡ diff c d
neg-plus k a b c d e = ap (λ x. x +ℤ diff a b) (neg-diff k) ∙ diff-add 0 k a b ∙ diff-eq (0 + a) (k + b) c d (omega arith)

-- a number that a number back leads to
pub after-back : (x : ℤ) (f i : ℕ) → x +ℤ diff 0 f ≡ pos i → x ≡ pos (i + f)
after-back x f i e =
    sym (+ℤ_idr x) ∙ ap (λ y. x +ℤ y) (sym (diff-self f) ∙ diff-eq f f (0 + f) (f + 0) (omega arith) ∙ sym (diff-add 0 f f 0)) ∙ sym (+ℤ_assoc x (diff 0 f) (diff f 0))
    ∙ ap (λ y. y +ℤ diff f 0) (e ∙ pos-diff i) ∙ diff-add i 0 f 0 ∙ sym (pos-diff (i + f))

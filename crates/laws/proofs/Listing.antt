-- A list that holds f 0, f 1 and so on in parts of one length is the list made of them.
use mathlib.Core.Path.{◌≡◌, refl, sym, ap, ◌∙◌}
use mathlib.Core.Logic.{⊎_elim}
use mathlib.Core.List.{List, [], ◌∷◌, ◌++◌}
use Prim.Native.Nat.{ℕ, zero, suc, ◌*◌, ◌<◌}
use native.Mathlib.Nat.{mul-suc}
use native.Mathlib.Omega.{arith}
use lib.ListN.{length, get_or, take, drop, length-append, get_or-append}
use lib.Seq.{take-add, take_all, drop-cons, get_or-append_seam}
use Rattle.laws.proofs.Deciding.{lt-or-le}
use Rattle.laws.specs.Listing.{listed, list_of}

module _ {A : Type 0} where
  -- parts of w numbers
  pub listed_is : (w : ℕ) (f : ℕ → List A) (s : List A) (n : ℕ) → ((i : ℕ) → i < n → take w (drop (w * i) s) ≡ f i) → take (w * n) s ≡ listed f n
  unfolding listed
  listed_is w f s zero h = let z : w * 0 ≡ 0 = omega arith in ap (λ k. take k s) z
  listed_is w f s (suc n) h =
      ap (λ k. take k s) (mul-suc w n) ∙ take-add (w * n) w s ∙ (λ i. listed_is w f s n (λ k l. h k (omega arith)) i ++ h n (omega arith) i)

  -- a list of n values
  pub list-is : (d : A) (f : ℕ → A) (s : List A) (n : ℕ) → length s ≡ n → ((i : ℕ) → i < n → get_or s i d ≡ f i) → s ≡ list_of f n
  list-is d f s n l h = sym (take_all (1 * n) s (omega arith)) ∙ listed_is 1 (λ i. f i ∷ []) s n part
    where
      part : (i : ℕ) → i < n → take 1 (drop (1 * i) s) ≡ f i ∷ []
      part i m = let e : 1 * i ≡ i = omega arith in ap (λ k. take 1 (drop k s)) e ∙ ap (take 1) (drop-cons s i d (omega arith)) ∙ ap (λ v. v ∷ []) (h i m)

  -- .. and its values are read back
  pub length-list_of : (f : ℕ → A) (n : ℕ) → length (list_of f n) ≡ n
  unfolding listed
  length-list_of f zero = refl
  length-list_of f (suc n) = length-append (list_of f n) (f n ∷ []) ∙ omega (arith, length-list_of f n)

  pub get_or-list_of : (d : A) (f : ℕ → A) (n i : ℕ) → i < n → get_or (list_of f n) i d ≡ f i
  unfolding listed
  get_or-list_of d f zero i l = absurd (omega arith)
  get_or-list_of d f (suc n) i l = ⊎_elim
      (λ h. get_or-append (list_of f n) (f n ∷ []) d i (omega (arith, length-list_of f n)) ∙ get_or-list_of d f n i h)
      (λ h. let e : i ≡ n = omega arith in ap (λ k. get_or (list_of f n ++ (f n ∷ [])) k d) (e ∙ sym (length-list_of f n)) ∙ get_or-append_seam (list_of f n) (f n) [] d ∙ ap f (sym e))
      (lt-or-le i n)

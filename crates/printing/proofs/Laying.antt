-- Bytes laid at a place of a list: none, one, one list after another; and what a list that is laid at the front leaves.
use mathlib.Core.Path.{◌≡◌, refl, sym, ap, ◌∙◌}
use mathlib.Core.List.{List, [], ◌∷◌, ◌++◌, append_assoc}
use Prim.Native.Nat.{ℕ, suc, ◌+◌, ◌≤◌, ◌<◌}
use native.Mathlib.Omega.{arith}
use native.Mathlib.Numerals.{add-one}
use lib.ListN.{get_or, length, length-append, take, drop, set}
use lib.Seq.{sets, length-sets, set_out, set-append_seam, take-nil, take-suc, take_all}
use Rattle.printing.specs.declared.bytes.Output.{Output}
use Rattle.printing.specs.Laid.{Laid, Put}

sets-append : (l : List ℕ) (i : ℕ) (v w : List ℕ) → sets l i (v ++ w) ≡ sets (sets l i v) (i + length v) w
sets-append l i [] w = let e : i + 0 ≡ i = omega arith in rw e
sets-append l i (a ∷ v) w =
    let e : i + suc (length v) ≡ suc i + length v = omega arith in
    rw e (sets-append (set l i a) (suc i) v w)

pub none-laid : (l : List ℕ) (at : ℕ) → Laid l at [] l at
none-laid l at = record { bytes = refl; place = omega arith }

module _ {x y z v w : List ℕ} {at n m : ℕ} where
  pub laid_then : Laid x at v y n → Laid y n w z m → Laid x at (v ++ w) z m
  laid_then a b = record {
    bytes = b.bytes ∙ (λ i. sets (a.bytes i) (a.place i) w) ∙ sym (sets-append x at v w);
    place = omega (arith, a.place, b.place, length-append v w);
  }

pub laid-length : {x w y : List ℕ} {at n : ℕ} → Laid x at w y n → length y ≡ length x
laid-length {x} {w} {y} {at} a = ap length a.bytes ∙ length-sets x at w

sets-out : (l : List ℕ) (i : ℕ) (w : List ℕ) → length l ≤ i → sets l i w ≡ l
sets-out l i [] h = refl
sets-out l i (b ∷ w) h = rw (set_out l i b h) (sets-out l (suc i) w (omega arith))

-- from the seam of two lists on, the second is overwritten as far as it goes
sets-seam : (p q w : List ℕ) → sets (p ++ q) (length p) w ≡ p ++ (take (length q) w ++ drop (length w) q)
sets-seam p q [] = rw take-nil
sets-seam p [] (b ∷ w) = sets-out (p ++ []) (length p) (b ∷ w) (omega (arith, length-append p []))
sets-seam p (c ∷ q) (b ∷ w) =
    let e : length (p ++ (b ∷ [])) ≡ suc (length p) = length-append p (b ∷ []) ∙ omega arith in
    ap (λ l. sets l (suc (length p)) w) (set-append_seam p c q b ∙ sym (append_assoc p (b ∷ []) q))
    ∙ ap (λ k. sets ((p ++ (b ∷ [])) ++ q) k w) (sym e)
    ∙ sets-seam (p ++ (b ∷ [])) q w
    ∙ append_assoc p (b ∷ []) (take (length q) w ++ drop (length w) q)

pub laid-in-front : {x w y : List ℕ} {n : ℕ} → Laid x 0 w y n → y ≡ take (length x) w ++ drop (length w) x
laid-in-front {x} {w} a = a.bytes ∙ sets-seam [] x w

-- the front of a word grows by a byte
pub one-more-laid : (word : List ℕ) (i : ℕ) {x y z : List ℕ} {at n m : ℕ} → i < length word → Laid x at (take i word) y n → Laid y n (get_or word i 0 ∷ []) z m → Laid x at (take (i + 1) word) z m
one-more-laid word i h a b =
    let e : take (i + 1) word ≡ take i word ++ (get_or word i 0 ∷ []) = ap (λ k. take k word) (add-one i) ∙ take-suc word i 0 h in
    rw e (laid_then a b)

-- the same on a page
pub none-put : (x : Output) → Put x [] x
none-put x = record { same_page = refl; laid = none-laid x.page.now x.at }

module _ {x y z : Output} where
  pub put_then : {v w : List ℕ} → Put x v y → Put y w z → Put x (v ++ w) z
  put_then a b = record { same_page = b.same_page ∙ a.same_page; laid = laid_then a.laid b.laid }

  pub one-more-put : (word : List ℕ) (i : ℕ) → i < length word → Put x (take i word) y → Put y (get_or word i 0 ∷ []) z → Put x (take (i + 1) word) z
  one-more-put word i h a b = record { same_page = b.same_page ∙ a.same_page; laid = one-more-laid word i h a.laid b.laid }

pub front-put : (word : List ℕ) (i : ℕ) {x y : Output} → length word ≤ i → Put x (take i word) y → Put x word y
front-put word i h a = rw (take_all i word h) at a

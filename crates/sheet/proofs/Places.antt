-- A place tells its point and its film: its height is the point's rank, and places of one height and one film are one.
use mathlib.Core.Path.{◌≡◌, refl, sym, ap, ◌∙◌}
use mathlib.Core.Bool.{true, false, ◌&&◌}
use mathlib.Core.Logic.{⊎_elim}
use Prim.Native.Nat.{ℕ, ◌/◌, ◌%◌, ◌<◌}
use native.Mathlib.Omega.{arith}
use lib.Dec.{eqb, ltb, leb}
use lib.IntN.{ℤ, pos, negsuc}
use lib.Signed.{mag}
use borrow.Author.Tests.{ltb-true, eq-eqb, eqb-true}
use Rattle.laws.proofs.Deciding.{true-or-false, both_true, not-both}
use Rattle.sheet.specs.declared.Point.{Point}
use Rattle.sheet.specs.Points.{same_z, in_range, is_film, is_below, is_same}
use Rattle.sheet.specs.Rank.{rank, place_on}
use Rattle.sheet.specs.Amounts.{films}
use Rattle.sheet.proofs.Signed.{same_z-yes, same_z-true}
use Rattle.sheet.proofs.Ranks.{rank-inj, rank_below, same_point}

pub film-small : (z : ℤ) → is_film z ≡ true → (mag z < films) × (z ≡ pos (mag z))
unfolding is_film
film-small (pos n) h = (ltb-true n films (both_true (leb 0 n) (ltb n films) h).1, refl)
film-small (negsuc n) h = absurd (not-both h refl)

-- places of one height and one film are one place
pub place_is : (p q : ℕ) → p % films ≡ q % films → p / films ≡ q / films → p ≡ q
place_is p q f h = omega arith

module _ (f : ℤ) (p : Point) (hf : is_film f ≡ true) where
  pub height-of : place_on f p / films ≡ rank p
  unfolding place_on
  height-of = omega (arith, (film-small f hf).0)

  pub film-of : place_on f p % films ≡ mag f
  unfolding place_on
  film-of = omega (arith, (film-small f hf).0)

-- places compare as points with films do
module _ (f g : ℤ) (p q : Point) (hf : is_film f ≡ true) (hg : is_film g ≡ true) (hp : in_range p ≡ true) (hq : in_range q ≡ true) where
  pub place-below : is_below p q ≡ ltb (place_on f p / films) (place_on g q / films)
  place-below = rw (height-of f p hf, height-of g q hg) (rank_below p q hp hq)

  -- one place is of one film and one point
  pub place-parts : place_on f p ≡ place_on g q → (f ≡ g) × (p ≡ q)
  place-parts e =
      let m : mag f ≡ mag g = sym (film-of f p hf) ∙ ap (λ n. n % films) e ∙ film-of g q hg in
      let r : rank p ≡ rank q = sym (height-of f p hf) ∙ ap (λ n. n / films) e ∙ height-of g q hg in
      ((film-small f hf).1 ∙ ap pos m ∙ sym (film-small g hg).1, rank-inj p q hp hq r)

  pub place_same : (same_z f g && is_same p q) ≡ eqb (place_on f p) (place_on g q)
  unfolding is_same
  place_same = ⊎_elim yes no (true-or-false (eqb (place_on f p) (place_on g q)))
    where
      yes : eqb (place_on f p) (place_on g q) ≡ true → (same_z f g && is_same p q) ≡ eqb (place_on f p) (place_on g q)
      yes e =
          let w = place-parts (eqb-true _ _ e) in
          rw (e, same_z-yes f g w.0, same_z-yes p.y q.y (ap (λ (o : Point). o.y) w.1)) (same_z-yes p.x q.x (ap (λ (o : Point). o.x) w.1))

      no : eqb (place_on f p) (place_on g q) ≡ false → (same_z f g && is_same p q) ≡ eqb (place_on f p) (place_on g q)
      no e = rw e (⊎_elim (λ t. let b = both_true (same_z f g) (is_same p q) t in let one : place_on f p ≡ place_on g q = (λ i. place_on (same_z-true f g b.0 i) (same_point p q b.1 i)) in absurd (not-both (eq-eqb _ _ one) e)) (λ t. t) (true-or-false (same_z f g && is_same p q)))

-- Four edges at a point, one of each kind: when they alternate, and which leaving edge follows each arriving one. Both are read off the signs of the six
-- turns between the four: a and l, the arriving and the leaving edge below, A and L, those above.
use mathlib.Core.Path.{◌≡◌, refl, sym, ap, ◌∙◌}
use mathlib.Core.Bool.{Bool, true, false}
use Rattle.sheet.specs.Kinds.{arriving, leaving, From, below, above, other_from, same_from}
use Rattle.sheet.specs.Turning.{plus, is_sign, Direction, turn, sooner}
use Rattle.sheet.specs.Corners.{Corner, two_in_one, leaving_first, alternate, lower_apart}
use Rattle.sheet.proofs.Following.{goes_on}
use Rattle.corner.specs.Turns.{alike}
use Rattle.corner.proofs.Sides.{Sided}
use Rattle.corner.proofs.Directions.{turn-back, two-below, one_below_lem, same-way-beside, same-way-across}
use Rattle.corner.proofs.FourSigns.{possible, alternate_by, leaves_first, alternate-alike, rule-apart}

crosses : (t : Bool) → same_from above (goes_on t below) ≡ t
crosses true = refl
crosses false = refl

module _ (k : Corner) (S : Sided k) where
  a : Direction
  a = k arriving below

  l : Direction
  l = k leaving below

  A : Direction
  A = k arriving above

  L : Direction
  L = k leaving above

  allowed : possible (turn a l) (turn A L) (turn a A) (turn a L) (turn l A) (turn l L) ≡ true
  unfolding a l A L
  allowed =
      rw (
        two-below a l A (S.sided arriving below) (S.sided leaving below) (S.sided arriving above),
        two-below a l L (S.sided arriving below) (S.sided leaving below) (S.sided leaving above),
        one_below_lem a A L (S.sided arriving below) (S.sided arriving above) (S.sided leaving above),
        one_below_lem l A L (S.sided leaving below) (S.sided arriving above) (S.sided leaving above),
      )

  by-signs : alternate k ≡ alternate_by (turn a l) (turn A L) (turn a A) (turn a L) (turn l A) (turn l L)
  unfolding alternate two_in_one leaving_first sooner a l A L
  by-signs =
      rw (
        same-way-beside a l (S.sided arriving below ∙ sym (S.sided leaving below)),
        same-way-beside A L (S.sided arriving above ∙ sym (S.sided leaving above)),
        same-way-across a A (S.sided arriving below) (S.sided arriving above),
        same-way-across a L (S.sided arriving below) (S.sided leaving above),
        same-way-across l A (S.sided leaving below) (S.sided arriving above),
        same-way-across l L (S.sided leaving below) (S.sided leaving above),
        turn-back A L,
        turn-back l A,
        turn-back a A,
        turn-back a l,
        turn-back a L,
      )

  -- refusal 17: the four alternate exactly when, from arriving to leaving, one turns the same way below and above
  pub alternate-is : alternate k ≡ alike (turn (k arriving below) (k leaving below)) (turn (k arriving above) (k leaving above))
  unfolding a l A L
  alternate-is = by-signs ∙ alternate-alike (turn a l) (turn A L) (turn a A) (turn a L) (turn l A) (turn l L) allowed

  -- turning clockwise from an arriving edge, the leaving ones by the six signs
  first-by-signs : (s t : From) →
      sooner (k arriving s) (k leaving t) (k leaving (other_from t)) ≡ leaves_first s t (turn a l) (turn A L) (turn a A) (turn a L) (turn l A) (turn l L)
  unfolding sooner a l A L
  first-by-signs below below = refl
  first-by-signs below above = rw (turn-back l L)
  first-by-signs above below = rw (turn-back l A)
  first-by-signs above above = rw (turn-back l A, turn-back l L)

  module _ (h : alternate k ≡ true) where
    followed : (s t : From) → sooner (k arriving s) (k leaving t) (k leaving (other_from t)) ≡ same_from t (goes_on (is_sign (turn a l) plus) s)
    unfolding a l A L
    followed s t = first-by-signs s t ∙ rule-apart (turn a l) (turn A L) (turn a A) (turn a L) (turn l A) (turn l L) allowed (sym alternate-is ∙ h) s t

    -- the two lower edges do not join exactly when, from arriving to leaving below, one turns the other way than clockwise
    pub apart-is : lower_apart k ≡ is_sign (turn (k arriving below) (k leaving below)) plus
    unfolding lower_apart a l
    apart-is = followed below above ∙ crosses (is_sign (turn a l) plus)

    -- the rule: where the four alternate, an arriving edge goes on on its own side, and at a point that is apart on the other
    pub rule-is : (s t : From) → sooner (k arriving s) (k leaving t) (k leaving (other_from t)) ≡ same_from t (goes_on (lower_apart k) s)
    unfolding a l
    rule-is s t = followed s t ∙ ap (λ (b : Bool). same_from t (goes_on b s)) (sym apart-is)

-- Four directions, two below and two above, by the signs of the six turns between them: arriving to leaving below (al) and above (AL), and from those
-- below to those above. Each three of the four say what the turns can be; then every case is tried.
use mathlib.Core.Path.{◌≡◌, refl}
use mathlib.Core.Bool.{Bool, true, not, ◌&&◌, ◌||◌}
use Rattle.sheet.specs.Turning.{Sign, nought, plus, is_sign, sooner_by}
use Rattle.sheet.specs.Kinds.{From, below, above, same_from}
use Rattle.sheet.proofs.Following.{goes_on}
use Rattle.corner.specs.Turns.{alike}
use Rattle.corner.proofs.AllSigns.{all3, all-signs3, implies, then, agree, agreed}
use Rattle.corner.proofs.Signs.{flip}
use Rattle.corner.proofs.Directions.{two_below, one_below}

-- what each three of the four allow
abbrev pub possible : (al AL a_a a_l l_a l_l : Sign) → Bool
possible al AL a_a a_l l_a l_l = two_below al a_a l_a && (two_below al a_l l_l && (one_below a_a a_l AL && one_below l_a l_l AL))

-- `alternate` by the six signs
abbrev pub alternate_by : (al AL a_a a_l l_a l_l : Sign) → Bool
alternate_by al AL a_a a_l l_a l_l =
    not (is_sign al nought || is_sign AL nought)
    && ((sooner_by al a_a l_a || sooner_by a_l a_a (flip AL)) && (sooner_by (flip l_a) (flip a_a) (flip al) || sooner_by AL (flip a_a) (flip a_l)))

-- turning clockwise from the arriving edge of one side, the leaving one of a side is met before the other leaving one
abbrev pub leaves_first : From → From → (al AL a_a a_l l_a l_l : Sign) → Bool
leaves_first below below al AL a_a a_l l_a l_l = sooner_by al a_l l_l
leaves_first below above al AL a_a a_l l_a l_l = sooner_by a_l al (flip l_l)
leaves_first above below al AL a_a a_l l_a l_l = sooner_by (flip l_a) AL l_l
leaves_first above above al AL a_a a_l l_a l_l = sooner_by AL (flip l_a) (flip l_l)

-- they alternate exactly when the turns below and above go the same way
abbrev alternate_test : (al AL a_a a_l l_a l_l : Sign) → Bool
alternate_test al AL a_a a_l l_a l_l = implies (possible al AL a_a a_l l_a l_l) (agree (alternate_by al AL a_a a_l l_a l_l) (alike al AL))

-- the first that follows is on the other side exactly when al is plus
abbrev rule_test : From → From → (al AL a_a a_l l_a l_l : Sign) → Bool
rule_test s t al AL a_a a_l l_a l_l =
    implies (possible al AL a_a a_l l_a l_l)
    (implies (alike al AL) (agree (leaves_first s t al AL a_a a_l l_a l_l) (same_from t (goes_on (is_sign al plus) s))))

all-alternate : all3 (λ al AL a_a. all3 (alternate_test al AL a_a)) ≡ true
unfolding alike
all-alternate = refl

all-follow : (s t : From) → all3 (λ al AL a_a. all3 (rule_test s t al AL a_a)) ≡ true
unfolding alike
all-follow below below = refl
all-follow below above = refl
all-follow above below = refl
all-follow above above = refl

module _ (al AL a_a a_l l_a l_l : Sign) (p : possible al AL a_a a_l l_a l_l ≡ true) where
  -- the case in hand, of all those tried
  this : (test : (al AL a_a a_l l_a l_l : Sign) → Bool) → all3 (λ al AL a_a. all3 (test al AL a_a)) ≡ true → test al AL a_a a_l l_a l_l ≡ true
  this test h = all-signs3 (test al AL a_a) (all-signs3 (λ al AL a_a. all3 (test al AL a_a)) h al AL a_a) a_l l_a l_l

  pub alternate-alike : alternate_by al AL a_a a_l l_a l_l ≡ alike al AL
  alternate-alike = agreed _ _ (then (possible al AL a_a a_l l_a l_l) (this alternate_test all-alternate) p)

  pub rule-apart : alike al AL ≡ true → (s t : From) → leaves_first s t al AL a_a a_l l_a l_l ≡ same_from t (goes_on (is_sign al plus) s)
  rule-apart h s t =
      agreed (leaves_first s t al AL a_a a_l l_a l_l) (same_from t (goes_on (is_sign al plus) s))
      (then (alike al AL) (then (possible al AL a_a a_l l_a l_l) (this (rule_test s t) (all-follow s t)) p) h)

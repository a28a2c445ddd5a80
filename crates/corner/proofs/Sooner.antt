-- `sooner` is an order: where no two are in one direction, of two exactly one is met first (`one-first`), and what is met before something that is met
-- before a third is met before the third (`first-stays`).
use mathlib.Core.Path.{◌≡◌, refl}
use mathlib.Core.Bool.{Bool, true, false, not, ◌&&◌}
use Rattle.laws.proofs.Deciding.{true-both}
use Rattle.sheet.specs.Turning.{Sign, nought, is_sign, Direction, turn, same_way, sooner_by, sooner}
use Rattle.corner.proofs.AllSigns.{all, all3, all-signs, all-signs3, implies, then, agree, agreed}
use Rattle.corner.proofs.Signs.{flip, times, balanced}
use Rattle.corner.proofs.Sides.{side}
use Rattle.corner.proofs.Directions.{turn-back, around, same_way_lem}

-- ---- of two exactly one is met first: by the sides of d, b and c, and the turns between them
-- no two are in one direction
abbrev different : (sd sb sc db dc bc : Sign) → Bool
different sd sb sc db dc bc =
    not (is_sign db nought && is_sign sd sb) && (not (is_sign dc nought && is_sign sd sc) && not (is_sign bc nought && is_sign sb sc))

-- the turns, weighed by the sides, can add up to 0
abbrev weighed : (sd sb sc db dc bc : Sign) → Bool
weighed sd sb sc db dc bc = balanced (times sd bc) (times sb (flip dc)) (times sc db)

-- there is a way to go in each direction
abbrev real : (sd sb sc : Sign) → Bool
real sd sb sc = not (is_sign sd nought) && (not (is_sign sb nought) && not (is_sign sc nought))

abbrev test : (sd sb sc db dc bc : Sign) → Bool
test sd sb sc db dc bc =
    implies (real sd sb sc && weighed sd sb sc db dc bc)
    (implies (different sd sb sc db dc bc) (agree (sooner_by dc db (flip bc)) (not (sooner_by db dc bc))))

all_pass : (sd sb sc db dc bc : Sign) → test sd sb sc db dc bc ≡ true
all_pass sd sb sc db dc bc = all-signs3 (test sd sb sc) (all-signs3 (λ sd sb sc. all3 (test sd sb sc)) refl sd sb sc) db dc bc

weighed-sides : (d b c : Direction) → weighed (side d) (side b) (side c) (turn d b) (turn d c) (turn b c) ≡ true
weighed-sides d b c = rw (turn-back d c) at (around d b c)

no-two : (d b c : Direction) → same_way d b ≡ false → same_way d c ≡ false → same_way b c ≡ false →
    different (side d) (side b) (side c) (turn d b) (turn d c) (turn b c) ≡ true
no-two d b c h k m = rw (← same_way_lem d b, ← same_way_lem d c, ← same_way_lem b c, h, k, m)

module _ (d b c : Direction) (hd : is_sign (side d) nought ≡ false) (hb : is_sign (side b) nought ≡ false) (hc : is_sign (side c) nought ≡ false) where
  pub one-first : same_way d b ≡ false → same_way d c ≡ false → same_way b c ≡ false → sooner d c b ≡ not (sooner d b c)
  unfolding sooner
  one-first h k m =
      let r : real (side d) (side b) (side c) ≡ true = rw (hd, hb, hc) in
      let t : agree (sooner_by (turn d c) (turn d b) (flip (turn b c))) (not (sooner_by (turn d b) (turn d c) (turn b c))) ≡ true =
      then _ (then _ (all_pass (side d) (side b) (side c) (turn d b) (turn d c) (turn b c)) (true-both r (weighed-sides d b c))) (no-two d b c h k m) in
      rw (turn-back b c) (agreed _ _ t)

-- ---- what is met before something that is met before a third, is met before the third
abbrev trial : (sd sb sc se db dc de bc be ce : Sign) → Bool
trial sd sb sc se db dc de bc be ce =
    implies (weighed sd sb sc db dc bc) (implies (weighed sd sc se dc de ce) (implies (weighed sd sb se db de be) (implies (weighed sb sc se bc be ce)
    (implies (different sd sb sc db dc bc && (different sd sc se dc de ce && different sd sb se db de be))
    (implies (sooner_by db dc bc && sooner_by dc de ce) (sooner_by db de be))))))

abbrev trials : Sign → Sign → Sign → Sign → Bool
trials sd sb sc se = implies (real sd sb sc) (implies (not (is_sign se nought)) (all3 (λ db dc de. all3 (trial sd sb sc se db dc de))))

all-tried : (sd sb sc se : Sign) → trials sd sb sc se ≡ true
all-tried sd sb sc se = all-signs (trials sd sb sc) (all-signs3 (λ sd sb sc. all (trials sd sb sc)) refl sd sb sc) se

module _ (d b c e : Direction) (hd : is_sign (side d) nought ≡ false) (hb : is_sign (side b) nought ≡ false) (hc : is_sign (side c) nought ≡ false)
    (he : is_sign (side e) nought ≡ false) where
  tried : trial (side d) (side b) (side c) (side e) (turn d b) (turn d c) (turn d e) (turn b c) (turn b e) (turn c e) ≡ true
  tried =
      let r : real (side d) (side b) (side c) ≡ true = rw (hd, hb, hc) in
      let s : not (is_sign (side e) nought) ≡ true = rw he in
      let t = then _ (then _ (all-tried (side d) (side b) (side c) (side e)) r) s in
      all-signs3 (trial (side d) (side b) (side c) (side e) (turn d b) (turn d c) (turn d e))
      (all-signs3 (λ db dc de. all3 (trial (side d) (side b) (side c) (side e) db dc de)) t (turn d b) (turn d c) (turn d e))
      (turn b c) (turn b e) (turn c e)

  pub first-stays : same_way d b ≡ false → same_way d c ≡ false → same_way d e ≡ false → same_way b c ≡ false → same_way b e ≡ false → same_way c e ≡ false →
      sooner d b c ≡ true → sooner d c e ≡ true → sooner d b e ≡ true
  unfolding sooner
  first-stays db dc de bc be ce h k =
      let t = then _ (then _ tried (weighed-sides d b c)) (weighed-sides d c e) in
      let u = then _ (then _ t (weighed-sides d b e)) (weighed-sides b c e) in
      then _ (then _ u (true-both (no-two d b c db dc bc) (true-both (no-two d c e dc de ce) (no-two d b e db de be)))) (true-both h k)

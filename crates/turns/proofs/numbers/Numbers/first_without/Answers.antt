-- `Numbers::first_without` meets its contract: the library's `position` tests each polygon number.
use Rattle.std.proofs.Common.{◌≡◌, rules, eq-eqb, ne_eqb}
use Rattle.std.proofs.lemmas.Iterator.{IsFirst-from_position, YieldsList-from_slice}
use Rattle.laws.proofs.Positions.{first-positioned}
use Rattle.turns.specs.Answers.{without_polygon}
use Rattle.turns.proofs.numbers.Numbers.first_without.Goals as goal

pub returns : goal.returns
unfolding without_polygon
returns c = let polygons = c.args.self.now.polygons.now in
    first-positioned (without_polygon polygons) polygons 0 (λ x. x ≡ 0) (λ x. x ≡ 0 → ⊥) (λ k. eq-eqb _ _) (λ k l. ne_eqb _ _) _
    (IsFirst-from_position _ _ _ (λ x. x ≡ 0) (λ x. x ≡ 0 → ⊥) c.position.ensures.ran (YieldsList-from_slice polygons cc) (λ x q k. search rules) (λ x q k. search rules))

-- `Point::in_range` meets its contract: both coordinates are between the limits.
use mathlib.Core.Path.{◌∙◌, sym, ap}
use mathlib.Core.Bool.{Bool, ◌&&◌}
use Rattle.sheet.specs.Points.{within, in_range}
use Rattle.sheet.proofs.Signed.{read_back}
use Rattle.sheet.proofs.Point.in_range.Goals as goal

-- x lies between the limits: y decides
pub returns-then-between_limits : goal.returns-then-between_limits
unfolding in_range
returns-then-between_limits c = let x = ap within (sym (read_back c.args.self.x c.struct_told-1.given.1.0.1)) ∙ sym c.between_limits.ensures ∙ c.if-between_limits.true in
    c.between_limits-then-between_limits.ensures ∙ ap within (read_back c.args.self.y c.struct_told-1.given.0.1) ∙ sym (ap (λ (t : Bool). t && within c.args.self.y) x)

pub returns-else-between_limits : goal.returns-else-between_limits
unfolding in_range
returns-else-between_limits c = let x = ap within (sym (read_back c.args.self.x c.struct_told-1.given.1.0.1)) ∙ sym c.between_limits.ensures ∙ c.if-between_limits.false in
    c.if-between_limits.false ∙ sym (ap (λ (t : Bool). t && within c.args.self.y) x)

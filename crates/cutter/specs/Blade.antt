-- The three instructions to a place, and what they make of the head (02, M-102).
use Rattle.std.specs.Prelude.{Bool, true, false, List, [], ◌∷◌}
use Rattle.cutter.specs.declared.machines.Place.{Place}
use Rattle.cutter.specs.declared.blade.Head.{Head}
use Rattle.cutter.specs.declared.blade.Instruction.{Instruction}
use Rattle.cutter.specs.declared.blade.Instruction.TheVariants.{Travel, Cut, Lift}

abbrev pub travel_to : Place → Instruction
travel_to p = Travel p

abbrev pub cut_to : Place → Instruction
cut_to p = Cut p

-- over a place, blade down or up
abbrev pub head_over : Place → Bool → Head
head_over p down = record { x = p.first; y = p.second; down = down }

-- travel leaves the blade up, cut down; lift raises it in place
abbrev pub advanced : Head → Instruction → Head
advanced h (Travel p) = head_over p false
advanced h (Cut p) = head_over p true
advanced h Lift = record { x = h.x; y = h.y; down = false }

-- the head after a list of instructions
unfoldable pub ran : Head → List Instruction → Head
ran h [] = h
ran h (i ∷ is) = ran (advanced h i) is

-- over a place, blade up
abbrev pub raised_at : Place → Head
raised_at p = head_over p false

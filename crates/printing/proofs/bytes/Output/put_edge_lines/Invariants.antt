-- `put_edge_lines` goes from the last edge to the first: at every step of the loop the lines of the edges below the place are to come, and make all of them.
use Rattle.std.proofs.Common.{◌+◌, ◌*◌, ◌≤◌, length}
use Rattle.printing.specs.declared.bytes.Output.{Output}
use Rattle.printing.specs.Output.{edge_lines}
use Rattle.printing.specs.Laid.{Put}
use Rattle.printing.proofs.bytes.Output.put_edge_lines.Given as goal

abbrev pub invariant-loop-place : goal.invariant-loop-place
invariant-loop-place l = (l.self.at + 33 * l.place ≤ l.initial.self.at + 33 * length l.polygons)
    × ((z : Output) → Put l.self (edge_lines l.polygons l.sequences l.place) z → Put l.initial.self (edge_lines l.polygons l.sequences (length l.polygons)) z)

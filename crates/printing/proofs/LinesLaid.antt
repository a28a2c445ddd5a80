-- The lines of the output put on a page, word by word: each word with the byte after it.
use mathlib.Core.List.{List, [], ◌∷◌, ◌++◌, append_assoc}
use Prim.Native.Nat.{ℕ, zero, suc, ◌≤◌}
use native.Mathlib.Omega.{arith}
use lib.ListN.{get_or}
use Rattle.sheet.specs.declared.Numbered.{Numbered}
use Rattle.text.specs.Lines.{space, newline}
use Rattle.printing.specs.declared.bytes.Output.{Output}
use Rattle.printing.specs.Output.{bytes, decimal, line, accepted, refused, edge_line, edge_lines}
use Rattle.printing.specs.Laid.{Put}
use Rattle.printing.proofs.Laying.{none-put, put_then}

-- a word and the byte after it
abbrev pub ended : List ℕ → ℕ → List ℕ
ended word end = word ++ (end ∷ [])

one_word_more : (word next : List ℕ) (more : List (List ℕ)) {x y z : Output} → Put x (ended word space) y → Put y (line next more) z → Put x (line word (next ∷ more)) z
one_word_more word next more a b = rw append_assoc at (put_then a b)

module _ {x y z u : Output} where
  pub refused-put : (number place : ℕ) → Put x (bytes "refused ") y → Put y (ended (decimal number) space) z → Put z (ended (decimal place) newline) u → Put x (refused number place) u
  unfolding refused
  refused-put number place a b c =
      one_word_more (bytes "refused") (decimal number) (decimal place ∷ []) a (one_word_more (decimal number) (decimal place) [] b c)

  pub edge-put : (place polygon sequence : ℕ) → Put x (ended (decimal place) space) y → Put y (ended (decimal polygon) space) z → Put z (ended (decimal sequence) newline) u → Put x (edge_line place polygon sequence) u
  unfolding edge_line
  edge-put place polygon sequence a b c =
      one_word_more (decimal place) (decimal polygon) (decimal sequence ∷ []) a (one_word_more (decimal polygon) (decimal sequence) [] b c)

  pub accepted-put : (n : Numbered) {v : Output} → Put x (bytes "accepted ") y → Put y (ended (decimal n.polygons) space) z → Put z (ended (decimal n.peak) space) v → Put v (ended (decimal n.records) newline) u → Put x (accepted n) u
  unfolding accepted
  accepted-put n a b c d =
      one_word_more (bytes "accepted") (decimal n.polygons) (decimal n.peak ∷ decimal n.records ∷ []) a
      (one_word_more (decimal n.polygons) (decimal n.peak) (decimal n.records ∷ []) b
      (one_word_more (decimal n.peak) (decimal n.records) [] c d))

-- the line of the last edge and those of the edges before it
pub edge-lines-put : (polygons sequences : List ℕ) (place : ℕ) {x y z : Output} → Put x (edge_line place (get_or polygons place 0) (get_or sequences place 0)) y → Put y (edge_lines polygons sequences place) z → Put x (edge_lines polygons sequences (suc place)) z
unfolding edge_lines
edge-lines-put polygons sequences place a b = put_then a b

pub no-lines-put : (polygons sequences : List ℕ) (place : ℕ) (x : Output) → place ≤ 0 → Put x (edge_lines polygons sequences place) x
unfolding edge_lines
no-lines-put polygons sequences zero x h = none-put x
no-lines-put polygons sequences (suc e) x h = absurd (omega arith)

-- Whole outputs worked by the definition: one table of texts with what is printed for each, and one test that is computed over all of it.
use Prim.Native.Nat.{ℕ}
use mathlib.Core.Path.{◌≡◌, refl}
use mathlib.Core.Bool.{Bool, true, false, ◌&&◌}
use Prim.Native.String.{String}
use mathlib.Core.List.{List, [], ◌∷◌}
use lib.Dec.{eqb}
use Rattle.text.specs.Lines as lines
use Rattle.text.specs.Written as written
use Rattle.printing.specs.Output.{bytes, decimal, accepted, refused, edge_line, edge_lines, outcome_lines, printed}
use Rattle.numbering.proofs.Computing.{numbering_computed}
use Rattle.text.proofs.Computing.{texts_computed}

record Expected : Type 0 where
  text : String
  output : String

case : String → String → Expected
case text output = record { text = text; output = output }

abbrev same_list : List ℕ → List ℕ → Bool
same_list [] [] = true
same_list [] (b ∷ l) = false
same_list (a ∷ k) [] = false
same_list (a ∷ k) (b ∷ l) = eqb a b && same_list k l

all_right : List Expected → Bool
all_right [] = true
all_right (w ∷ rest) = same_list (printed (bytes w.text)) (bytes w.output) && all_right rest

table : List Expected
table =
    case "" "accepted 0 0 0\n"
    -- 01's triangle
    ∷ case "0 0 4 2 0\n4 2 1 5 0\n1 5 0 0 0\n" "accepted 1 1 4\n2 1 0\n1 1 2\n0 1 1\n"
    -- below 0, and records of two digits
    ∷ case "-1 2 -3 6 7\n-3 6 -1 0 7\n-3 6 -2 7 7\n-1 0 2 8 7\n2 8 -1 2 7\n-2 7 -4 9 7\n-4 9 -3 6 7\n" "accepted 2 3 11\n6 1 0\n5 1 2\n4 2 0\n3 2 3\n2 1 1\n1 2 2\n0 2 1\n"
    -- two films that share both their sides: the last edge is the one that leaves the top of outline 1
    ∷ case "0 0 1 1 3\n1 1 0 0 255\n0 0 1 1 255\n1 1 0 0 3\n" "accepted 2 2 6\n3 1 0\n2 2 1\n1 2 0\n0 1 1\n"
    -- refused by the numbering: equal ends, a film past the range, which is tried before them, two films that do not meet
    ∷ case "5 5 5 5 0\n" "refused 6 0\n"
    ∷ case "0 0 1 1 255\n5 5 5 5 256\n" "refused 16 1\n"
    ∷ case "0 0 1 1 3\n1 1 0 0 4\n" "refused 9 0\n"
    -- four edges of one film at (-1,6) that do not alternate
    ∷ case "-3 2 -1 6 7\n-1 6 -3 0 7\n-1 6 0 7 7\n-3 0 6 8 7\n6 8 -3 2 7\n0 7 -2 9 7\n-2 9 -1 6 7\n" "refused 17 0\n"
    -- refused by the reading: four numbers, no newline
    ∷ case "0 0 4 2\n" "refused 15 1\n"
    ∷ case "0 0 4 2 0\n4 2 1 5 0\n1 5 0 0 0" "refused 15 3\n"
    ∷ []

worked : all_right table ≡ true
unfolding
    all_right
    case
    table
    decimal
    accepted
    refused
    edge_line
    edge_lines
    outcome_lines
    printed
    written.decimal
    lines.edge_in
    numbering_computed
    texts_computed
worked = refl

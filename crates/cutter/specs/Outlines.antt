-- The outlines that a list of edges, its sequence numbers and its turn list draw; and which edge comes next round an outline.
use Rattle.std.specs.Prelude.{ℕ, suc, ◌-◌, Bool, cond, not, ◌&&◌, List, [], ◌∷◌, eqb, ltb, ℤ, length, get_or}
use Rattle.sheet.specs.declared.Point.{Point}
use Rattle.sheet.specs.Points.{is_same}
use Rattle.sheet.specs.Edges.{edge_at}
use Rattle.cutter.specs.Programme.{Outline, Stroke}

-- along a turn list, the heads of the edges before the next edge 0
unfoldable pub heads_on : List ℤ → List ℕ → List ℕ → List Point
heads_on list sequences [] = []
heads_on list sequences (e ∷ es) = cond (eqb (get_or sequences e 0) 0) [] ((edge_at list e).head ∷ heads_on list sequences es)

-- along a turn list, an outline begins with each edge 0; a turn list that passes 24 begins with one
unfoldable pub outlines_of : List ℤ → List ℕ → List ℕ → List Outline
outlines_of list sequences [] = []
outlines_of list sequences (e ∷ es) =
    cond (eqb (get_or sequences e 0) 0)
    (record { start = (edge_at list e).tail; heads = (edge_at list e).head ∷ heads_on list sequences es } ∷ outlines_of list sequences es)
    (outlines_of list sequences es)

-- an edge's ends, as the blade cuts it
abbrev pub stroke_of : List ℤ → ℕ → Stroke
stroke_of list e = record { tail = (edge_at list e).tail; head = (edge_at list e).head }

-- Where the next edge of its outline stands, of the edge at position i of a turn list: behind it, unless an edge 0 or nothing stands there. Then it is its
-- outline's edge 0, which stands as many positions before it as its sequence number says.
unfoldable pub next_at : List ℕ → List ℕ → ℕ → ℕ
next_at sequences turns i = cond (ltb (suc i) (length turns) && not (eqb (get_or sequences (get_or turns (suc i) 0) 0) 0)) (suc i) (i - get_or sequences (get_or turns i 0) 0)

-- 25: its head is not the tail of the next
unfoldable pub head_not_tail : List ℤ → List ℕ → List ℕ → ℕ → Bool
head_not_tail list sequences turns i = not (is_same (edge_at list (get_or turns i 0)).head (edge_at list (get_or turns (next_at sequences turns i) 0)).tail)

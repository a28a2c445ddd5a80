-- A list of numbers as edges, and as the sweep sees it: places, compared by their heights.
use Rattle.std.specs.Prelude.{ℕ, ◌+◌, ◌*◌, ◌/◌, ◌%◌, min, max, List, ℤ, pos, get_or, length}
use Rattle.sheet.specs.declared.Edge.{Edge}
use Rattle.sheet.specs.Rank.{place_on}
use Rattle.sheet.specs.Turning.{Direction, towards}
use Rattle.sheet.specs.Amounts.{numbers_per_edge, films}

-- 01 Points 1.1 and 02 M-100: the five numbers of an edge in their order
unfoldable pub edge_at : List ℤ → ℕ → Edge
edge_at s e =
    record {
      tail = record { x = get_or s (numbers_per_edge * e) (pos 0); y = get_or s (numbers_per_edge * e + 1) (pos 0) };
      head = record { x = get_or s (numbers_per_edge * e + 2) (pos 0); y = get_or s (numbers_per_edge * e + 3) (pos 0) };
      film = get_or s (numbers_per_edge * e + 4) (pos 0);
    }

unfoldable pub edges_in : List ℤ → ℕ
edges_in s = length s / numbers_per_edge

-- A list of edges: how many there are, and the places of each one's tail and head. Below, above and highest go by the height of places; edges meet
-- where places are equal. A place has a film. Each edge has its direction from its tail, the way it goes, and from its head, the way it came.
pub record Drawing : Type 0 where
  pub edges : ℕ
  pub tail : ℕ → ℕ
  pub head : ℕ → ℕ
  pub height : ℕ → ℕ
  pub film : ℕ → ℕ
  pub ahead : ℕ → Direction
  pub back : ℕ → Direction

-- An edge's ends are places of its film. A place's height is the rank of its point.
unfoldable pub drawing_of : List ℤ → Drawing
drawing_of s =
    record {
      edges = edges_in s;
      tail = λ e. place_on (edge_at s e).film (edge_at s e).tail;
      head = λ e. place_on (edge_at s e).film (edge_at s e).head;
      height = λ p. p / films;
      film = λ p. p % films;
      ahead = λ e. towards (edge_at s e).tail (edge_at s e).head;
      back = λ e. towards (edge_at s e).head (edge_at s e).tail;
    }

-- how high an edge's top and bottom lie
abbrev pub top_height : Drawing → ℕ → ℕ
top_height sh e = max (sh.height (sh.tail e)) (sh.height (sh.head e))

abbrev pub bottom_height : Drawing → ℕ → ℕ
bottom_height sh e = min (sh.height (sh.tail e)) (sh.height (sh.head e))

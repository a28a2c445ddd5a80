-- What the numbers are: the statement that every accepted call meets. Only one pair of lists meets it (proofs/OneNumbering.antt).
use Rattle.std.specs.Prelude.{ℕ, suc, max, ◌≤◌, ◌<◌, ◌≡◌, ◌⊎◌}
use Rattle.sheet.specs.Edges.{Drawing}
use Rattle.sheet.specs.Joining.{Follows}

pub record Numbering (sh : Drawing) (polygon sequence : ℕ → ℕ) (polygons : ℕ) : Type 0 where
  -- 01 Points 6.2: the numbers run from 1 to the number of polygons, and each is some edge's
  pub from_one : (e : ℕ) → e < sh.edges → (1 ≤ polygon e) × (polygon e ≤ polygons)
  pub no_gap : (k : ℕ) → 1 ≤ k → k ≤ polygons → (e : ℕ) × (e < sh.edges) × (polygon e ≡ k)
  -- the edges of an outline share its number
  pub shared : (e f : ℕ) → Follows sh e f → polygon f ≡ polygon e
  -- 01 Points 6.3: the edge with 0 leaves the highest place of its polygon ..
  pub top : (e f : ℕ) → e < sh.edges → f < sh.edges → sequence e ≡ 0 → polygon f ≡ polygon e → sh.height (sh.tail f) ≤ sh.height (sh.tail e)
  -- .. and from edge to edge the number is one more, or 0 again; no number comes twice in a polygon
  pub counts : (e f : ℕ) → Follows sh e f → (sequence f ≡ suc (sequence e)) ⊎ (sequence f ≡ 0)
  pub pairs : (e f : ℕ) → e < sh.edges → f < sh.edges → polygon e ≡ polygon f → sequence e ≡ sequence f → e ≡ f
  -- 02 M-100: a polygon's top edges are the edge with 0 and the edge that it follows. Of two polygons, the one whose later top edge stands later in the
  -- list has the smaller number.
  pub later_top_first : (d e c f : ℕ) → Follows sh d e → Follows sh c f → sequence e ≡ 0 → sequence f ≡ 0 → max c f < max d e → polygon e < polygon f

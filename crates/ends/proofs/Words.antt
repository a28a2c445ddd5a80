-- The words of the ends. A word gives its end's place, the edge's kind there and the edge back. At its top an edge comes from below and at its bottom
-- from above, so the words that are packed are those of all the ends, each once; and so are the words that the sort leaves.
use Rattle.std.proofs.Common.{◌≡◌, ℕ, ◌+◌, ◌-◌, ◌*◌, ◌/◌, ◌%◌, ◌<◌, ◌≤◌, min, max, Bool, true, false, cond, ltb, ◌⊎◌, List, get_or, ℤ, sym, refl, ap, ◌∙◌, inl, inr, ⊎_elim, arith, ltb-false, ltb-true, le-ltb, lt-ltb, eq-eqb}
use lib.Signed.{mag}
use Rattle.std.specs.Int.{from_bool}
use Rattle.laws.specs.Counting.{bit}
use Rattle.laws.proofs.Deciding.{lt-or-le, not-both}
use Rattle.sheet.specs.declared.Point.{Point}
use Rattle.sheet.specs.declared.Edge.{Edge}
use Rattle.sheet.specs.Points.{is_below, is_up, top_of, bottom_of}
use Rattle.sheet.specs.Rank.{rank, place_on}
use Rattle.sheet.specs.Edges.{edge_at, drawing_of}
use Rattle.sheet.specs.Kinds.{Way, arriving, leaving, From, below, above, other_way, end_of, comes}
use Rattle.sheet.proofs.Ranks.{rank_same, rank-small}
use Rattle.sheet.proofs.Places.{place-below, height-of}
use Rattle.sorting.specs.Sorted.{Sorted}
use Rattle.sorting.proofs.Standing.{Different, old-stands, new-stood, strictly-rising}
use Rattle.ends.specs.Fitting.{EndsFit}
use Rattle.ends.specs.Ends.{way_number, from_number, end_word, word_of, way_if, top_way, top_word, bottom_word, Packed, IsEnd, Ordered}
use Rattle.ends.proofs.EdgeRanks.{up-by-rank, top-by-rank, bottom-by-rank}
use Rattle.ends.proofs.Fitting.{tail-in, head_in, film-in, ends-differ}
use Rattle.sheet.specs.Amounts.{films, most_edges}

pub from-small : (f : From) → from_number f ≤ 1
from-small below = omega arith
from-small above = omega arith

pub way-small : (w : Way) → way_number w ≤ 1
way-small arriving = omega arith
way-small leaving = omega arith

-- the library's number of a test
pub bit-from : (b : Bool) → from_bool b ≡ bit b
bit-from true = refl
bit-from false = refl

-- what a word tells
module _ (s : List ℤ) (w : Way) (e : ℕ) (small : e < 4096) where
  pub word-edge : word_of s w e % 4096 ≡ e
  unfolding word_of
  word-edge = omega arith

  pub word-key : word_of s w e / 4096 ≡ end_of (drawing_of s) w e * 4 + (2 * way_number w + from_number (comes (drawing_of s) w e))
  unfolding word_of
  word-key = omega arith

  pub word-place : word_of s w e / 16384 ≡ end_of (drawing_of s) w e
  unfolding word_of
  word-place = omega (arith, from-small (comes (drawing_of s) w e), way-small w)

  pub word-way : word_of s w e / 8192 % 2 ≡ way_number w
  unfolding word_of
  word-way =
      let h : word_of s w e / 8192 ≡ end_of (drawing_of s) w e * 2 + way_number w = omega (arith, from-small (comes (drawing_of s) w e), way-small w) in
      omega (arith, h, way-small w)

-- the words that are put together from what was read
module _ {s : List ℤ} {n : ℕ} (E : EndsFit s n) (e : ℕ) (l : e < n) where
  tail : Point
  tail = (edge_at s e).tail

  head : Point
  head = (edge_at s e).head

  height_of : Point → ℕ
  height_of p = place_on (edge_at s e).film p / films

  ordered-ends : is_below tail head ≡ ltb (height_of tail) (height_of head)
  unfolding tail head height_of
  ordered-ends = place-below _ _ tail head (film-in E e l) (film-in E e l) (tail-in E e l) (head_in E e l)

  level : (p : Point) → height_of p ≡ rank p
  unfolding height_of
  level p = height-of _ p (film-in E e l)

  higher : is_below tail head ≡ true → height_of tail < height_of head
  higher u = ltb-true _ _ (sym ordered-ends ∙ u)

  lower : is_below tail head ≡ false → height_of head < height_of tail
  unfolding tail head
  lower u =
      let le : height_of head ≤ height_of tail = ltb-false _ _ (sym ordered-ends ∙ u) in
      ⊎_elim (λ h. h) (λ h. absurd (not-both (rank_same tail head (tail-in E e l) (head_in E e l) ∙ eq-eqb (rank tail) (rank head) (omega (arith, level tail, level head))) (ends-differ E e l))) (lt-or-le (height_of head) (height_of tail))

  pub rises-to : is_below (edge_at s e).tail (edge_at s e).head ≡ true → (drawing_of s).height ((drawing_of s).tail e) < (drawing_of s).height ((drawing_of s).head e)
  unfolding drawing_of tail head height_of
  rises-to = higher

  pub falls-to : is_below (edge_at s e).tail (edge_at s e).head ≡ false → (drawing_of s).height ((drawing_of s).head e) < (drawing_of s).height ((drawing_of s).tail e)
  unfolding drawing_of tail head height_of
  falls-to = lower

  -- by the ranks of the ends
  module _ {edge : Edge} (read : edge ≡ edge_at s e) {t h : ℕ} (tail-rank : t ≡ rank edge.tail) (head-rank : h ≡ rank edge.head) where
    pub ranks-small : (t < 4398046511104) × (h < 4398046511104)
    ranks-small = rw (tail-rank, head-rank, read) (rank-small _ (tail-in E e l), rank-small _ (head_in E e l))

    pub top-told : end_word (max t h * films + mag edge.film) (2 * bit (ltb t h) + 1) e ≡ top_word s e
    unfolding word_of top_way top_of is_up comes drawing_of place_on tail head height_of
    top-told = rw (tail-rank, head-rank, read, sym (top-by-rank (edge_at s e) (tail-in E e l) (head_in E e l)), sym (up-by-rank (edge_at s e) (tail-in E e l) (head_in E e l))) (by (is_below tail head) refl)
      where
        by : (u : Bool) → is_below tail head ≡ u → end_word (place_on (edge_at s e).film (cond u head tail)) (2 * bit u + 1) e ≡ word_of s (way_if u) e
        by true u = rw (lt-ltb (height_of tail) (height_of head) (higher u))
        by false u = rw (lt-ltb (height_of head) (height_of tail) (lower u))

    pub bottom-told : end_word (min t h * films + mag edge.film) (2 * bit (ltb h t)) e ≡ bottom_word s e
    unfolding word_of top_way bottom_of is_up comes drawing_of place_on tail head height_of
    bottom-told = rw (tail-rank, head-rank, read, sym (bottom-by-rank (edge_at s e) (tail-in E e l) (head_in E e l))) (by (is_below tail head) refl)
      where
        by : (u : Bool) → is_below tail head ≡ u → end_word (place_on (edge_at s e).film (cond u tail head)) (2 * bit (ltb (rank head) (rank tail))) e ≡ word_of s (other_way (way_if u)) e
        by true u = rw (le-ltb (rank head) (rank tail) (omega (arith, level tail, level head, higher u)), le-ltb (height_of head) (height_of tail) (omega (arith, higher u)))
        by false u = rw (lt-ltb (rank head) (rank tail) (omega (arith, level tail, level head, lower u)), le-ltb (height_of tail) (height_of head) (omega (arith, lower u)))

-- a way is that to the top or that to the bottom
either : (s : List ℤ) (w : Way) (e : ℕ) → (w ≡ top_way s e) ⊎ (w ≡ other_way (top_way s e))
unfolding top_way
either s w e = by w (is_up (edge_at s e))
  where
    by : (w : Way) (u : Bool) → (w ≡ way_if u) ⊎ (w ≡ other_way (way_if u))
    by arriving true = inl refl
    by arriving false = inr refl
    by leaving true = inr refl
    by leaving false = inl refl

two_ways : (w : Way) → way_number w ≡ way_number (other_way w) → ⊥
two_ways arriving h = omega arith
two_ways leaving h = omega arith

-- the sort of the packed words
module _ {s : List ℤ} {old new : List ℕ} {n : ℕ} (few : n ≤ most_edges) (P : Packed s old n n) (S : Sorted old new (2 * n)) where
  -- an end that is packed: a top, or a bottom behind all the tops
  data Spot (i : ℕ) : Type 0 where
    top : i < n → get_or old i 0 ≡ top_word s i → Spot i
    bottom : (e : ℕ) → e < n → i ≡ n + e → get_or old i 0 ≡ bottom_word s e → Spot i

  spot : (i : ℕ) → i < 2 * n → Spot i
  spot i l = ⊎_elim (λ h. top h (P.tops i h)) (λ h. let q : i ≡ n + (i - n) = omega arith in bottom (i - n) (omega arith) q (ap (λ k. get_or old k 0) q ∙ P.bottoms (i - n) (omega arith))) (lt-or-le i n)

  not_top : (e f : ℕ) → e < n → f < n → top_word s e ≡ bottom_word s f → ⊥
  not_top e f el fl h =
      let q : e ≡ f = sym (word-edge s (top_way s e) e (omega arith)) ∙ ap (λ (x : ℕ). x % 4096) h ∙ word-edge s (other_way (top_way s f)) f (omega arith) in
      two_ways (top_way s f) (ap (λ k. way_number (top_way s k)) (sym q) ∙ sym (word-way s (top_way s e) e (omega arith)) ∙ ap (λ (x : ℕ). x / 8192 % 2) h ∙ word-way s (other_way (top_way s f)) f (omega arith))

  different : Different old (2 * n)
  different i j il jl q = by (spot i il) (spot j jl)
    where
      by : Spot i → Spot j → i ≡ j
      by (top a x) (top b y) = omega (arith, word-edge s (top_way s i) i (omega arith), word-edge s (top_way s j) j (omega arith), ap (λ (x : ℕ). x % 4096) (sym x ∙ q ∙ y))
      by (top a x) (bottom f b h y) = absurd (not_top i f a b (sym x ∙ q ∙ y))
      by (bottom e a g x) (top b y) = absurd (not_top j e b a (sym y ∙ sym q ∙ x))
      by (bottom e a g x) (bottom f b h y) = omega (arith, word-edge s (other_way (top_way s e)) e (omega arith), word-edge s (other_way (top_way s f)) f (omega arith), ap (λ (x : ℕ). x % 4096) (sym x ∙ q ∙ y))

  pub ordered : Ordered s new n
  ordered = record { rising = strictly-rising S different; stands = stands; held = held }
    where
      at : (w : Way) (e i : ℕ) → i < 2 * n → get_or old i 0 ≡ word_of s w e → (k : ℕ) × (k < 2 * n) × (get_or new k 0 ≡ word_of s w e)
      at w e i l q = let v = old-stands S i l in (v.0, v.1, v.2 ∙ q)

      stands : (w : Way) (e : ℕ) → e < n → (k : ℕ) × (k < 2 * n) × (get_or new k 0 ≡ word_of s w e)
      stands w e l = ⊎_elim (λ h. rw h (at (top_way s e) e e (omega arith) (P.tops e l))) (λ h. rw h (at (other_way (top_way s e)) e (n + e) (omega arith) (P.bottoms e l))) (either s w e)

      end : (i k : ℕ) → get_or old i 0 ≡ get_or new k 0 → Spot i → IsEnd s n (get_or new k 0)
      end i k q (top a x) = record { way = top_way s i; edge = i; is_edge = a; told = sym q ∙ x }
      end i k q (bottom e a g x) = record { way = other_way (top_way s e); edge = e; is_edge = a; told = sym q ∙ x }

      held : (k : ℕ) → k < 2 * n → IsEnd s n (get_or new k 0)
      held k l = let v = new-stood S k l in end v.0 k v.2 (spot v.0 v.1)

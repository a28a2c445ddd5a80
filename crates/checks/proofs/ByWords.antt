-- 8, 9 and 17 by the words of the ends in order. An end has the key of the end before where an earlier edge is of its kind at its place; and at a place
-- as many ends arrive as edges do. So the least edges that the walk finds are the first edges that the answer sheet asks for.
use mathlib.Core.Path.{◌≡◌, refl, sym, ap, ◌∙◌, subst}
use mathlib.Core.Bool.{Bool, true, not, ◌&&◌, ◌||◌}
use mathlib.Core.List.{List}
use mathlib.Core.Logic.{⊎_elim}
use Prim.Native.Nat.{ℕ, ◌-◌, ◌*◌, ◌/◌, ◌%◌, ◌≤◌, ◌<◌}
use native.Mathlib.Omega.{arith}
use lib.Dec.{eqb, ltb}
use lib.IntN.{ℤ}
use lib.ListN.{length, get_or}
use borrow.Author.Tests.{lt-ltb, ltb-true, eq-eqb, ne_eqb, eqb-true, eqb-false}
use Rattle.std.specs.Prelude.{Option}
use Rattle.laws.specs.Counting.{count, IsFirst}
use Rattle.laws.proofs.Deciding.{lt-or-le, not-both, both_true, true-both, one-true}
use Rattle.laws.proofs.Tests.{not-true, or-true}
use Rattle.laws.proofs.First.{some-below-true, below-some}
use Rattle.laws.proofs.Pigeonhole.{pigeon}
use Rattle.sheet.specs.Edges.{edges_in, drawing_of}
use Rattle.sheet.specs.Kinds.{Way, arriving, leaving, From, below, above, same_from, end_of, comes, number_at}
use Rattle.sheet.specs.Answers.{same_kind, repeats, differ, uneven, tangled, not_alternating}
use Rattle.checks.specs.declared.places.AtFault.{AtFault}
use Rattle.ends.specs.Fitting.{EndsFit}
use Rattle.ends.specs.Ends.{way_number, from_number, word_of, key_in, place_in, edge_in, arrives_in, Ordered}
use Rattle.checks.specs.Places.{Walks, repeats_in, uneven_at, Least, FoundSoFar, FirstAtFault}
use Rattle.checks.specs.Corners.{tangled_in}
use Rattle.checks.proofs.LeastEdge.{least_first, least-same}
use Rattle.ends.proofs.Words.{from-small, way-small, word-edge, word-key, word-place, word-way}

-- an end's edge goes this way
abbrev goes_in : Way → List ℕ → ℕ → Bool
goes_in arriving words k = arrives_in words k
goes_in leaving words k = not (arrives_in words k)

goes-told : (w : Way) (words : List ℕ) (k : ℕ) → get_or words k 0 / 8192 % 2 ≡ way_number w → goes_in w words k ≡ true
goes-told arriving words k h = eq-eqb _ _ h
goes-told leaving words k h = ap not (ne_eqb (get_or words k 0 / 8192 % 2) 1 (λ q. omega arith))

goes-way : (w : Way) (words : List ℕ) (k : ℕ) → goes_in w words k ≡ true → get_or words k 0 / 8192 % 2 ≡ way_number w
goes-way arriving words k t = eqb-true _ _ t
goes-way leaving words k t = let h = eqb-false (get_or words k 0 / 8192 % 2) 1 (not-true _ t) in omega arith

-- numbers tell the ways apart, and the sides
pub one_way_lem : (v w : Way) → way_number v ≡ way_number w → v ≡ w
one_way_lem arriving arriving h = refl
one_way_lem arriving leaving h = absurd (omega arith)
one_way_lem leaving arriving h = absurd (omega arith)
one_way_lem leaving leaving h = refl

pub one_from : (x y : From) → from_number x ≡ from_number y → same_from x y ≡ true
one_from below below h = refl
one_from below above h = absurd (omega arith)
one_from above below h = absurd (omega arith)
one_from above above h = refl

from-number : (x y : From) → same_from x y ≡ true → from_number x ≡ from_number y
from-number below below h = refl
from-number below above h = absurd (not-both h refl)
from-number above below h = absurd (not-both h refl)
from-number above above h = refl

module _ (s : List ℤ) (e : ℕ) where
  kinds-either : (w : Way) (f : ℕ) → same_kind (drawing_of s) w e f ≡ true → (same_kind (drawing_of s) arriving e f || same_kind (drawing_of s) leaving e f) ≡ true
  kinds-either arriving f h = rw h
  kinds-either leaving f h = rw h (or-true (same_kind (drawing_of s) arriving e f))

  ends-either : (test : ℕ → Bool) (w : Way) → test (end_of (drawing_of s) w e) ≡ true → (test ((drawing_of s).tail e) || test ((drawing_of s).head e)) ≡ true
  ends-either test arriving h = rw h (or-true (test ((drawing_of s).tail e)))
  ends-either test leaving h = rw h

module _ {s : List ℤ} {words : List ℕ} {n : ℕ} (E : EndsFit s n) (O : Ordered s words n) where
  small : {e : ℕ} → e < n → e < 4096
  small l = omega (arith, E.few)

  rises : (a b : ℕ) → a ≤ b → b < 2 * n → get_or words a 0 ≤ get_or words b 0
  rises a b l h = ⊎_elim (λ t. omega (arith, O.rising a b t h)) (λ t. let q : a ≡ b = omega arith in omega (arith, ap (λ (x : ℕ). get_or words x 0) q)) (lt-or-le a b)

  pub walks : 2 * n ≤ length words → Walks words (2 * n)
  walks room = record { room = room; few = omega (arith, E.few); rising = rises }

  pub one_spot : (i j : ℕ) → i < 2 * n → j < 2 * n → get_or words i 0 ≡ get_or words j 0 → i ≡ j
  one_spot i j il jl q = ⊎_elim (λ h. absurd (omega (arith, O.rising i j h jl))) (λ h. ⊎_elim (λ g. absurd (omega (arith, O.rising j i g il))) (λ g. omega arith) (lt-or-le j i)) (lt-or-le i j)

  -- 9: as many ends go a way at a place as edges do
  module _ (w : Way) (p : ℕ) where
    abbrev pub at-end : ℕ → Bool
    at-end k = eqb (place_in words k) p && goes_in w words k

    no_more : count (λ e. eqb (end_of (drawing_of s) w e) p) n ≤ count at-end (2 * n)
    no_more = pigeon (λ e k. (e < n) × (get_or words k 0 ≡ word_of s w e)) own _ _ n (2 * n) hole
      where
        own : (i j k : ℕ) → (i < n) × (get_or words k 0 ≡ word_of s w i) → (j < n) × (get_or words k 0 ≡ word_of s w j) → i ≡ j
        own i j k (il, a) (jl, b) = omega (arith, word-edge s w i (small il), word-edge s w j (small jl), ap (λ (x : ℕ). x % 4096) (sym a ∙ b))

        hole : (e : ℕ) → e < n → eqb (end_of (drawing_of s) w e) p ≡ true → (k : ℕ) × (k < 2 * n) × (at-end k ≡ true) × ((e < n) × (get_or words k 0 ≡ word_of s w e))
        hole e l t =
            let v = O.stands w e l in
            let place : place_in words v.0 ≡ p = ap (λ (x : ℕ). x / 16384) v.2 ∙ word-place s w e (small l) ∙ eqb-true _ _ t in
            let way : get_or words v.0 0 / 8192 % 2 ≡ way_number w = ap (λ (x : ℕ). x / 8192 % 2) v.2 ∙ word-way s w e (small l) in
            (v.0, v.1, true-both (eq-eqb _ _ place) (goes-told w words v.0 way), (l, v.2))

    no-fewer : count at-end (2 * n) ≤ count (λ e. eqb (end_of (drawing_of s) w e) p) n
    no-fewer = pigeon (λ k e. (k < 2 * n) × (get_or words k 0 ≡ word_of s w e)) own _ _ (2 * n) n hole
      where
        own : (i j e : ℕ) → (i < 2 * n) × (get_or words i 0 ≡ word_of s w e) → (j < 2 * n) × (get_or words j 0 ≡ word_of s w e) → i ≡ j
        own i j e (il, a) (jl, b) = one_spot i j il jl (a ∙ sym b)

        hole : (k : ℕ) → k < 2 * n → at-end k ≡ true → (e : ℕ) × (e < n) × (eqb (end_of (drawing_of s) w e) p ≡ true) × ((k < 2 * n) × (get_or words k 0 ≡ word_of s w e))
        hole k l t =
            let h = O.held k l in
            let b = both_true (eqb (place_in words k) p) _ t in
            let q : h.way ≡ w = one_way_lem _ _ (sym (word-way s h.way h.edge (small h.is_edge)) ∙ ap (λ (x : ℕ). x / 8192 % 2) (sym h.told) ∙ goes-way w words k b.1) in
            let told : get_or words k 0 ≡ word_of s w h.edge = h.told ∙ ap (λ (v : Way). word_of s v h.edge) q in
            let place : end_of (drawing_of s) w h.edge ≡ p = sym (word-place s w h.edge (small h.is_edge)) ∙ ap (λ (x : ℕ). x / 16384) (sym told) ∙ eqb-true _ _ b.0 in
            (h.edge, h.is_edge, eq-eqb (end_of (drawing_of s) w h.edge) p place, (l, told))

    pub number-told : number_at (drawing_of s) w p ≡ count at-end (2 * n)
    unfolding number_at drawing_of
    number-told = ap (count (λ e. eqb (end_of (drawing_of s) w e) p)) (sym E.all) ∙ omega (arith, no_more, no-fewer)

  uneven-told : (k : ℕ) → uneven_at words (2 * n) k ≡ differ (drawing_of s) (place_in words k)
  unfolding uneven_at differ
  uneven-told k = sym (rw (number-told arriving (place_in words k), number-told leaving (place_in words k)))

  pub place-told : (w : Way) (e k : ℕ) → e < n → get_or words k 0 ≡ word_of s w e → place_in words k ≡ end_of (drawing_of s) w e
  place-told w e k l q = ap (λ (x : ℕ). x / 16384) q ∙ word-place s w e (small l)

  pub edge-told : (w : Way) (e k : ℕ) → e < n → get_or words k 0 ≡ word_of s w e → edge_in words k ≡ e
  edge-told w e k l q = ap (λ (x : ℕ). x % 4096) q ∙ word-edge s w e (small l)

  small-edge : (k : ℕ) → k < 2 * n → edge_in words k < n
  small-edge k l = let h = O.held k l in omega (arith, edge-told h.way h.edge k h.is_edge h.told, h.is_edge)

  -- a test of places: the ends whose places pass it are those of the edges with an end at such a place
  module _ (test : ℕ → Bool) where
    at_end : ℕ → Bool
    at_end e = test ((drawing_of s).tail e) || test ((drawing_of s).head e)

    ends-to : (k : ℕ) → k < 2 * n → test (place_in words k) ≡ true → at_end (edge_in words k) ≡ true
    unfolding at_end
    ends-to k l t =
        let h = O.held k l in
        ap at_end (edge-told h.way h.edge k h.is_edge h.told) ∙ ends-either s h.edge test h.way (ap test (sym (place-told h.way h.edge k h.is_edge h.told)) ∙ t)

    ends-from : (e : ℕ) → e < n → at_end e ≡ true → (k : ℕ) × (k < 2 * n) × (test (place_in words k) ≡ true) × (edge_in words k ≡ e)
    unfolding at_end
    ends-from e l t = ⊎_elim (λ h. end leaving h) (λ h. end arriving h) (one-true (test ((drawing_of s).tail e)) _ t)
      where
        end : (w : Way) → test (end_of (drawing_of s) w e) ≡ true → (k : ℕ) × (k < 2 * n) × (test (place_in words k) ≡ true) × (edge_in words k ≡ e)
        end w h = let v = O.stands w e l in (v.0, v.1, ap test (place-told w e v.0 l v.2) ∙ h, edge-told w e v.0 l v.2)

    first-at-end : (r : Option ℕ) → Least (λ k. test (place_in words k)) (edge_in words) 0 (2 * n) r → IsFirst at_end (edges_in s) r
    first-at-end r least = subst (λ (n : ℕ). IsFirst at_end n r) E.all (least_first at_end small-edge ends-to ends-from r least)

  -- 8: ends of one key are of edges of one kind at one place, and of no others
  pub key-way : (v w : Way) (f e : ℕ) → f < n → e < n → word_of s v f / 4096 ≡ word_of s w e / 4096 → v ≡ w
  key-way v w f e fl el q = one_way_lem v w (omega (arith, sym (word-key s v f (small fl)) ∙ q ∙ word-key s w e (small el), way-small v, way-small w, from-small (comes (drawing_of s) v f), from-small (comes (drawing_of s) w e)))

  module _ (w : Way) (e f : ℕ) (el : e < n) (fl : f < n) where
    key-kind : word_of s w f / 4096 ≡ word_of s w e / 4096 → same_kind (drawing_of s) w e f ≡ true
    unfolding same_kind
    key-kind q =
        let k = sym (word-key s w f (small fl)) ∙ q ∙ word-key s w e (small el) in
        true-both (eq-eqb (end_of (drawing_of s) w e) (end_of (drawing_of s) w f) (omega (arith, k, from-small (comes (drawing_of s) w f), from-small (comes (drawing_of s) w e)))) (one_from (comes (drawing_of s) w e) (comes (drawing_of s) w f) (omega (arith, k, from-small (comes (drawing_of s) w f), from-small (comes (drawing_of s) w e))))

    kind-key : same_kind (drawing_of s) w e f ≡ true → word_of s w f / 4096 ≡ word_of s w e / 4096
    unfolding same_kind
    kind-key h =
        let b = both_true (eqb (end_of (drawing_of s) w e) (end_of (drawing_of s) w f)) _ h in
        omega (arith, word-key s w f (small fl), word-key s w e (small el), eqb-true (end_of (drawing_of s) w e) (end_of (drawing_of s) w f) b.0, from-number (comes (drawing_of s) w e) (comes (drawing_of s) w f) b.1)

  repeats-to : (k : ℕ) → k < 2 * n → repeats_in words k ≡ true → repeats (drawing_of s) (edge_in words k) ≡ true
  unfolding repeats_in repeats
  repeats-to k l t =
      let b = both_true (ltb 0 k) _ t in
      let pos : 0 < k = ltb-true _ _ b.0 in
      let same : key_in words (k - 1) ≡ key_in words k = eqb-true _ _ b.1 in
      let x = O.held (k - 1) (omega arith) in
      let y = O.held k l in
      let keys : word_of s x.way x.edge / 4096 ≡ word_of s y.way y.edge / 4096 = ap (λ (a : ℕ). a / 4096) (sym x.told) ∙ same ∙ ap (λ (a : ℕ). a / 4096) y.told in
      let way : x.way ≡ y.way = key-way x.way y.way x.edge y.edge x.is_edge y.is_edge keys in
      let less : x.edge < y.edge = omega (arith, same, O.rising (k - 1) k (omega arith) l, edge-told x.way x.edge (k - 1) x.is_edge x.told, edge-told y.way y.edge k y.is_edge y.told) in
      let kind = key-kind y.way y.edge x.edge y.is_edge x.is_edge (ap (λ (v : Way). word_of s v x.edge / 4096) (sym way) ∙ keys) in
      ap (repeats (drawing_of s)) (edge-told y.way y.edge k y.is_edge y.told) ∙ below-some _ y.edge x.edge less (kinds-either s y.edge y.way x.edge kind)

  -- the word of the earlier edge stands before, and the words between have the key too
  repeats-from : (e : ℕ) → e < n → repeats (drawing_of s) e ≡ true → (k : ℕ) × (k < 2 * n) × (repeats_in words k ≡ true) × (edge_in words k ≡ e)
  unfolding repeats repeats_in
  repeats-from e l t = let v = some-below-true _ e t in ⊎_elim (at arriving v.0 v.1) (at leaving v.0 v.1) (one-true (same_kind (drawing_of s) arriving e v.0) _ v.2)
    where
      at : (w : Way) (f : ℕ) → f < e → same_kind (drawing_of s) w e f ≡ true → (k : ℕ) × (k < 2 * n) × (repeats_in words k ≡ true) × (edge_in words k ≡ e)
      at w f fe h =
          let fl : f < n = omega arith in
          let i = O.stands w e l in
          let j = O.stands w f fl in
          let keys : key_in words j.0 ≡ key_in words i.0 = ap (λ (a : ℕ). a / 4096) j.2 ∙ kind-key w e f l fl h ∙ ap (λ (a : ℕ). a / 4096) (sym i.2) in
          let less : get_or words j.0 0 < get_or words i.0 0 = omega (arith, keys, fe, edge-told w e i.0 l i.2, edge-told w f j.0 fl j.2) in
          let ji : j.0 < i.0 = ⊎_elim (λ g. g) (λ g. absurd (omega (arith, less, rises i.0 j.0 g j.1))) (lt-or-le j.0 i.0) in
          let same : key_in words (i.0 - 1) ≡ key_in words i.0 = omega (arith, keys, rises j.0 (i.0 - 1) (omega arith) (omega (arith, i.1)), rises (i.0 - 1) i.0 (omega arith) i.1) in
          (i.0, i.1, true-both (lt-ltb 0 i.0 (omega arith)) (eq-eqb (key_in words (i.0 - 1)) (key_in words i.0) same), edge-told w e i.0 l i.2)

  pub found_first : {f : AtFault} → FoundSoFar words (2 * n) (2 * n) f → FirstAtFault s f
  unfolding uneven at_end
  found_first {f} F = record {
    repeated = subst (λ (n : ℕ). IsFirst (repeats (drawing_of s)) n f.repeated) E.all (least_first (repeats (drawing_of s)) small-edge repeats-to repeats-from f.repeated F.repeated);
    uneven = first-at-end (differ (drawing_of s)) f.uneven (least-same _ f.uneven (λ k l h. sym (uneven-told k)) F.uneven);
  }

  -- 17: the least edge with an end at such a place
  pub tangle-first : (r : Option ℕ) → Least (tangled_in s words) (edge_in words) 0 (2 * n) r → IsFirst (not_alternating (drawing_of s)) (edges_in s) r
  unfolding tangled_in not_alternating at_end
  tangle-first r least = first-at-end (tangled (drawing_of s)) r least

-- 13, edge by edge. An edge writes itself at the place of its key, where an earlier edge of that key stands if and only if it has the same pair.
-- Where no pair is repeated the edges have different places, as many as there are, so that each place has its edge and the keys rise strictly.
use mathlib.Core.Path.{◌≡◌, sym, ap, ◌∙◌}
use mathlib.Core.Bool.{false}
use mathlib.Core.List.{List}
use mathlib.Core.Logic.{⊎_elim}
use Prim.Native.Nat.{ℕ, ◌+◌, ◌≤◌, ◌<◌}
use native.Mathlib.Omega.{arith}
use lib.ListN.{length, get_or, set, length-set}
use lib.Seq.{get_or-set_same, get_or-set_other}
use Rattle.laws.specs.Counting.{first}
use Rattle.laws.proofs.Deciding.{lt-or-le, true-or-false}
use Rattle.laws.proofs.First.{below-some, below_none}
use Rattle.laws.proofs.Searching.{NoneBelow, none_yet, none_more, found_first, found_none}
use Rattle.laws.proofs.Pigeonhole.{reached}
use Rattle.sheet.specs.TurnList.{NumberLists, pair_repeated}
use Rattle.turns.specs.Keys.{key_at, place_from, Keyed}
use Rattle.turns.specs.Order.{Ordered}
use Rattle.turns.proofs.Keys.{pair_same, key-same}
use Rattle.turns.proofs.Places.{place_at, place-below, place-key}

-- the edges below e are written, and none of them repeats a pair
pub record Marking (v : NumberLists) (keys order : List ℕ) (e : ℕ) : Type 0 where
  pub within : e ≤ v.edges
  pub room : v.edges ≤ length order
  pub written : (f : ℕ) → f < e → get_or order (place_at v keys f) 0 ≡ f
  pub none : NoneBelow (pair_repeated v) e

pub marking-none : (v : NumberLists) (keys order : List ℕ) → v.edges ≤ length order → Marking v keys order 0
marking-none v keys order room = record {
  within = omega arith;
  room = room;
  written = λ f l. absurd (omega arith);
  none = none_yet _;
}

module _ {v : NumberLists} {keys order : List ℕ} {e : ℕ} (K : Keyed v keys) (m : Marking v keys order e) where
  -- the place of the next edge's key
  module _ (l : e < v.edges) {p : ℕ} (here : p ≡ place_at v keys e) where
    marking-room : p < length order
    marking-room = omega (arith, here, m.room, place-below K e l)

    -- an earlier edge stands there, and has the same key
    pub marking-found : get_or order p 0 < e → key_at v (get_or order p 0) ≡ key_at v e → e ≡ first (pair_repeated v) v.edges
    unfolding pair_repeated
    marking-found before same = found_first _ m.none l (below-some _ e (get_or order p 0) before (pair_same K (get_or order p 0) e same))

    -- none does
    module _ (free : get_or order p 0 < e → key_at v (get_or order p 0) ≡ key_at v e → ⊥) where
      apart : (f : ℕ) → f < e → place_at v keys f ≡ p → ⊥
      apart f fl q =
          let there : get_or order p 0 ≡ f = ap (λ (k : ℕ). get_or order k 0) (sym q) ∙ m.written f fl in
          let same = sym (place-key K f (omega arith)) ∙ ap (λ (k : ℕ). get_or keys k 0) (q ∙ here) ∙ place-key K e l in
          free (omega (arith, there)) (ap (key_at v) there ∙ same)

      new : pair_repeated v e ≡ false
      unfolding pair_repeated
      new = below_none _ e λ f fl. ⊎_elim
          (λ t. absurd (apart f fl (ap (place_from keys v.edges) (key-same K f e t) ∙ sym here)))
          (λ t. t)
          (true-or-false _)

      pub marking-more : Marking v keys (set order p e) (e + 1)
      marking-more = record {
        within = omega arith;
        room = omega (arith, m.room, length-set order p e);
        written = λ f fl. ⊎_elim
            (λ h. get_or-set_other order _ (place_at v keys f) _ 0 (apart f h) ∙ m.written f h)
            (λ h. let q : f ≡ e = omega arith in rw (q, ← here) (get_or-set_same order p e 0 marking-room))
            (lt-or-le f e);
        none = none_more _ m.none new;
      }

  module _ (all : v.edges ≤ e) where
    pub marking-all : first (pair_repeated v) v.edges ≡ v.edges
    marking-all = sym (found_none _ m.none all)

    apart-all : (f g : ℕ) → f < v.edges → g < v.edges → place_at v keys f ≡ place_at v keys g → f ≡ g
    apart-all f g fl gl q = omega (arith, m.written f (omega arith), m.written g (omega arith), ap (λ (p : ℕ). get_or order p 0) q)

    edge : (p : ℕ) → p < v.edges → (f : ℕ) × (f < v.edges) × (place_at v keys f ≡ p)
    edge = reached (place_at v keys) v.edges (place-below K) apart-all

    pub marking-ordered : Ordered v keys order
    marking-ordered = record {
      room = m.room;
      edge = λ p l. let w = edge p l in omega (arith, w.1, who p l);
      key = λ p l. key_here p l ∙ ap (key_at v) (sym (who p l));
      strict = strict;
    }
      where
        who : (p : ℕ) (l : p < v.edges) → get_or order p 0 ≡ (edge p l).0
        who p l = let w = edge p l in ap (λ (k : ℕ). get_or order k 0) (sym w.2) ∙ m.written w.0 (omega (arith, w.1))

        key_here : (p : ℕ) (l : p < v.edges) → get_or keys p 0 ≡ key_at v (edge p l).0
        key_here p l = let w = edge p l in ap (λ (k : ℕ). get_or keys k 0) (sym w.2) ∙ place-key K w.0 w.1

        differ : (p q : ℕ) → p < q → q < v.edges → get_or keys p 0 ≡ get_or keys q 0 → ⊥
        differ p q pq ql s =
            let f = edge p (omega arith) in
            let g = edge q ql in
            omega (arith, f.2, g.2, ap (place_from keys v.edges) (sym (key_here p (omega arith)) ∙ s ∙ key_here q ql))

        strict : (p q : ℕ) → p < q → q < v.edges → get_or keys p 0 < get_or keys q 0
        strict p q pq ql = ⊎_elim
            (λ h. h)
            (λ h. absurd (differ p q pq ql (omega (arith, h, K.rising.order p q (omega arith) ql))))
            (lt-or-le (get_or keys p 0) (get_or keys q 0))

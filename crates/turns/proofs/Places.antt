-- Where a key stands among keys that rise: the first that is not below it, found by halving. An edge's key stands at its place, and whether a key
-- lies between two bounds is told by the first that is not below the lower one.
use mathlib.Core.Path.{◌≡◌, sym, ◌∙◌}
use mathlib.Core.Bool.{Bool, true, false, ◌&&◌}
use mathlib.Core.List.{List}
use mathlib.Core.Logic.{⊎_elim}
use Prim.Native.Nat.{ℕ, ◌≤◌, ◌<◌}
use native.Mathlib.Omega.{arith}
use lib.Dec.{leb, ltb}
use lib.ListN.{length, get_or}
use borrow.Author.Tests.{lt-ltb, le-ltb, le-leb, lt-leb, leb-true, ltb-true, ltb-false}
use Rattle.std.specs.List.Sorted.{IsPartitionedBy, IsPartitionPoint}
use Rattle.std.proofs.lemmas.List.Sorted.{IsPartitionedBy-ltb, IsNonDecreasingBy-from_default}
use Rattle.laws.specs.Counting.{first}
use Rattle.laws.proofs.Deciding.{lt-or-le, not-both}
use Rattle.laws.proofs.First.{first-is, first_holds, first-least, below-some, below_none}
use Rattle.sheet.specs.TurnList.{NumberLists}
use Rattle.turns.specs.Keys.{key_at, Rising, place_from, stands_between, Keyed}

-- a key is not below another
abbrev pub from_on : List ℕ → ℕ → ℕ → Bool
from_on keys key k = leb key (get_or keys k 0)

-- a key lies between two bounds
abbrev lies : List ℕ → ℕ → ℕ → ℕ → Bool
lies keys low high k = leb low (get_or keys k 0) && ltb (get_or keys k 0) high

-- what the library asks of keys that rise before it halves them, and what it answers
module _ {keys : List ℕ} (R : Rising keys (length keys)) (key : ℕ) where
  pub below-first : IsPartitionedBy (λ word. ltb word key) keys
  below-first = IsPartitionedBy-ltb (λ word. word) keys key (IsNonDecreasingBy-from_default (λ word. word) keys 0 R.order)

  pub parted : {r : ℕ} → r ≤ length keys → IsPartitionPoint (λ word. ltb word key ≡ true) (λ word. ltb word key ≡ false) keys r → r ≡ place_from keys (length keys) key
  unfolding place_from
  parted {r} within point = first-is (from_on keys key) (length keys) r within
      (λ l. le-leb key (get_or keys r 0) (ltb-false _ _ (point.1 r 0 (omega arith) l)))
      (λ k l. lt-leb key (get_or keys k 0) (ltb-true _ _ (point.0 k 0 (omega arith) l)))

module _ {keys : List ℕ} {n : ℕ} (R : Rising keys n) where
  module _ (low high : ℕ) where
    pub none_between : n ≤ place_from keys n low → false ≡ stands_between keys n low high
    unfolding place_from stands_between
    none_between l = sym (below_none (lies keys low high) n (λ k kn. rw (first-least (from_on keys low) n k (omega arith))))

    pub some-between : place_from keys n low < n → ltb (get_or keys (place_from keys n low) 0) high ≡ stands_between keys n low high
    unfolding place_from stands_between
    some-between l = ⊎_elim
        (λ h. lt-ltb (get_or keys at 0) high h ∙ sym (below-some (lies keys low high) n at l (rw (first_holds (from_on keys low) n l, lt-ltb (get_or keys at 0) high h))))
        (λ h. le-ltb (get_or keys at 0) high h ∙ sym (below_none (lies keys low high) n (λ k kn. ⊎_elim (λ b. rw (first-least (from_on keys low) n k b)) (later h k kn) (lt-or-le k at))))
        (lt-or-le (get_or keys at 0) high)
      where
        at : ℕ
        at = first (from_on keys low) n

        later : high ≤ get_or keys at 0 → (k : ℕ) → k < n → at ≤ k → lies keys low high k ≡ false
        later h k kn b =
            let up = R.order at k b kn in
            rw (le-leb low (get_or keys k 0) (omega (arith, up, leb-true low (get_or keys at 0) (first_holds (from_on keys low) n l))), le-ltb (get_or keys k 0) high (omega arith))

-- the place of an edge's key
abbrev pub place_at : NumberLists → List ℕ → ℕ → ℕ
place_at v keys e = place_from keys v.edges (key_at v e)

module _ {v : NumberLists} {keys : List ℕ} (K : Keyed v keys) (e : ℕ) (l : e < v.edges) where
  unpassed : place_at v keys e ≤ (K.stands e l).0
  unfolding place_from
  unpassed = ⊎_elim
      (λ h. absurd (not-both (le-leb (key_at v e) (get_or keys (K.stands e l).0 0) (omega (arith, (K.stands e l).2))) (first-least (from_on keys (key_at v e)) v.edges (K.stands e l).0 h)))
      (λ h. h)
      (lt-or-le (K.stands e l).0 (place_at v keys e))

  pub place-below : place_at v keys e < v.edges
  place-below = omega (arith, unpassed, (K.stands e l).1)

  pub place-key : get_or keys (place_at v keys e) 0 ≡ key_at v e
  unfolding place_from
  place-key = omega (
    arith,
    leb-true (key_at v e) (get_or keys (place_at v keys e) 0) (first_holds (from_on keys (key_at v e)) v.edges place-below),
    K.rising.order (place_at v keys e) (K.stands e l).0 unpassed (K.stands e l).1,
    (K.stands e l).2,
  )

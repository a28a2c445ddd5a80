-- Laws of keys: a key stands for one pair, and keys go in the order of the turn list. Whether one of the sorted keys lies between two bounds is
-- whether some edge's key does.
use mathlib.Core.Path.{◌≡◌, sym, ◌∙◌}
use mathlib.Core.Bool.{Bool, true, ◌&&◌}
use mathlib.Core.List.{List}
use mathlib.Core.Logic.{⊎_elim, inl, inr}
use Prim.Native.Nat.{ℕ, ◌≤◌, ◌<◌}
use native.Mathlib.Omega.{arith}
use lib.Dec.{eqb, leb, ltb}
use lib.ListN.{length, get_or}
use borrow.Author.Tests.{lt-ltb, ltb-true, le-leb, leb-true, eq-eqb, eqb-true}
use Rattle.laws.specs.Counting.{some_below}
use Rattle.laws.proofs.Deciding.{lt-or-le, both_true}
use Rattle.laws.proofs.Moving.{Moves, some-moved}
use Rattle.sorting.specs.Sorted.{Sorted}
use Rattle.sorting.proofs.Standing.{old-stands, new-stood}
use Rattle.sheet.specs.TurnList.{NumberLists, Before}
use Rattle.turns.specs.Keys.{key_of, key_at, Rising, stands_between, Keyed}

-- a polygon and a sequence number from their key
pub key-pair : {p s q t : ℕ} → s < 4294967296 → t < 4294967296 → key_of p s ≡ key_of q t → (p ≡ q) × (s ≡ t)
unfolding key_of
key-pair sl tl e = (omega arith, omega arith)

pub key_below : (p s : ℕ) → s < 4294967296 → {q t : ℕ} → t < 4294967296 → key_of p s < key_of q t → (p ≤ q) × (q ≤ p → s < t)
unfolding key_of
key_below p s sl tl l = (omega arith, λ h. omega arith)

-- the keys in the list's order, sorted
pub keyed-sorted : {v : NumberLists} {packed keys : List ℕ} →
    ((e : ℕ) → e < v.edges → get_or packed e 0 ≡ key_at v e) →
    Sorted packed keys v.edges →
    v.edges ≤ length keys →
    ((e : ℕ) → v.sequence e < 4294967296) →
    Keyed v keys
keyed-sorted packs m room narrow = record {
  rising = record { room = room; order = m.rising };
  stands = λ e l. let w = old-stands m e l in (w.0, w.1, w.2 ∙ packs e l);
  held = λ k l. let w = new-stood m k l in (w.0, w.1, sym w.2 ∙ packs w.0 w.1);
  narrow = narrow;
}

-- an edge passes a test where its key lies between two bounds, and only there
pub record Tells (v : NumberLists) (low high : ℕ) (test : ℕ → Bool) : Type 0 where
  pub inside : (e : ℕ) → e < v.edges → low ≤ key_at v e → key_at v e < high → test e ≡ true
  pub outside : (e : ℕ) → e < v.edges → test e ≡ true → (low ≤ key_at v e) × (key_at v e < high)

module _ {v : NumberLists} {keys : List ℕ} (K : Keyed v keys) where
  pub pair_same : (e f : ℕ) → key_at v e ≡ key_at v f → (eqb (v.polygon e) (v.polygon f) && eqb (v.sequence e) (v.sequence f)) ≡ true
  pair_same e f q = let w = key-pair (K.narrow e) (K.narrow f) q in rw (eq-eqb _ _ w.0, eq-eqb _ _ w.1)

  pub key-same : (e f : ℕ) → (eqb (v.polygon e) (v.polygon f) && eqb (v.sequence e) (v.sequence f)) ≡ true → key_at v e ≡ key_at v f
  key-same e f t = let w = both_true (eqb (v.polygon e) (v.polygon f)) _ t in rw (eqb-true (v.polygon e) (v.polygon f) w.0, eqb-true (v.sequence e) (v.sequence f) w.1)

  pub key-before : (e f : ℕ) → key_at v e < key_at v f → Before v e f
  key-before e f l =
      let w = key_below (v.polygon e) (v.sequence e) (K.narrow e) (K.narrow f) l in
      ⊎_elim inl (λ h. inr (omega (arith, h, w.0), w.1 h)) (lt-or-le (v.polygon e) (v.polygon f))

  pub between : (low high : ℕ) (test : ℕ → Bool) → Tells v low high test → stands_between keys v.edges low high ≡ some_below test v.edges
  unfolding stands_between
  between low high test tells = some-moved lies test v.edges to from
    where
      lies : ℕ → Bool
      lies k = leb low (get_or keys k 0) && ltb (get_or keys k 0) high

      to : Moves lies test v.edges
      to k l t =
          let w = both_true (leb low (get_or keys k 0)) _ t in
          let h = K.held k l in
          (h.0, h.1, tells.inside h.0 h.1 (omega (arith, h.2, leb-true low (get_or keys k 0) w.0)) (omega (arith, h.2, ltb-true (get_or keys k 0) high w.1)))

      from : Moves test lies v.edges
      from e l t =
          let w = tells.outside e l t in
          let h = K.stands e l in
          (h.0, h.1, rw (le-leb low (get_or keys h.0 0) (omega (arith, h.2, w.0)), lt-ltb (get_or keys h.0 0) high (omega (arith, h.2, w.1))))

-- all of as many keys as edges
pub all-rising : {v : NumberLists} {keys : List ℕ} → Keyed v keys → length keys ≡ v.edges → Rising keys (length keys)
all-rising K long = record { room = omega arith; order = λ a b ab bl. K.rising.order a b ab (omega arith) }

-- What is accepted. The order is the turn list, since the keys rise strictly; and the last key has the largest polygon number.
use mathlib.Core.Path.{◌≡◌, refl, sym, ap, ◌∙◌}
use mathlib.Core.List.{List}
use mathlib.Core.Logic.{⊎_elim}
use Prim.Native.Nat.{ℕ, ◌-◌, ◌/◌, ◌≤◌, ◌<◌}
use native.Mathlib.Omega.{arith}
use lib.ListN.{length, get_or}
use borrow.Author.Tests.{eq-eqb, ne_eqb}
use Rattle.laws.specs.Counting.{largest}
use Rattle.laws.proofs.Deciding.{eq-or-ne}
use Rattle.laws.proofs.Largest.{largest-is}
use Rattle.sheet.specs.TurnList.{NumberLists, TurnList}
use Rattle.turns.specs.Keys.{key_of, Keyed}
use Rattle.turns.specs.Answers.{last_polygon}
use Rattle.turns.specs.Order.{Ordered}
use Rattle.turns.proofs.Keys.{key-before}

pub ordered-turns : {v : NumberLists} {keys order : List ℕ} →
    Keyed v keys →
    Ordered v keys order →
    (turns : List ℕ) →
    length turns ≡ v.edges →
    ((p : ℕ) → p < v.edges → get_or turns p 0 ≡ get_or order p 0) →
    TurnList v turns
ordered-turns K O turns size same = record {
  size = size;
  places = λ i l. omega (arith, same i l, O.edge i l);
  in_order = λ i j ij jl. rw (same i (omega arith), same j jl) (key-before K _ _ (omega (arith, O.strict i j ij jl, O.key i (omega arith), O.key j jl)));
}

pub last_none : (keys : List ℕ) (n : ℕ) → n ≡ 0 → 0 ≡ last_polygon keys n
unfolding last_polygon
last_none keys n e = rw (eq-eqb n 0 e)

pub last_some : (keys : List ℕ) (n : ℕ) {word : ℕ} → 0 < n → word ≡ get_or keys (n - 1) 0 → word / 4294967296 ≡ last_polygon keys n
unfolding last_polygon
last_some keys n pos e = rw (e, ne_eqb n 0 (λ z. omega arith))

-- the polygon of a key, and of one that is not above it
key-polygon : (p s k : ℕ) → s < 4294967296 → k ≡ key_of p s → k / 4294967296 ≡ p
unfolding key_of
key-polygon p s k sl e = omega arith

key-polygon-le : (p s k : ℕ) → key_of p s ≤ k → p ≤ k / 4294967296
unfolding key_of
key-polygon-le p s k l = omega arith

module _ {v : NumberLists} {keys : List ℕ} (K : Keyed v keys) where
  pub last-largest : last_polygon keys v.edges ≡ largest v.polygon v.edges
  unfolding largest
  last-largest = ⊎_elim
      (λ e. sym (last_none keys v.edges e) ∙ ap (largest v.polygon) (sym e))
      (λ ne. sym (last_some keys v.edges (omega arith) refl) ∙ some ne)
      (eq-or-ne v.edges 0)
    where
      some : (v.edges ≡ 0 → ⊥) → get_or keys (v.edges - 1) 0 / 4294967296 ≡ largest v.polygon v.edges
      some ne =
          let w = K.held (v.edges - 1) (omega arith) in
          largest-is v.polygon v.edges _ w.0 above w.1 (sym (key-polygon _ _ _ (K.narrow w.0) w.2))
        where
          above : (e : ℕ) → e < v.edges → v.polygon e ≤ get_or keys (v.edges - 1) 0 / 4294967296
          above e l =
              let w = K.stands e l in
              key-polygon-le _ (v.sequence e) _ (omega (arith, w.2, K.rising.order w.0 (v.edges - 1) (omega (arith, w.1)) (omega arith)))

-- A record read on the slices: closing, at level 0, above level 0. Then the loop: reading record k leaves the rest of the sweep to do.
use mathlib.Core.Path.{◌≡◌, refl, ap, ◌∙◌}
use mathlib.Core.List.{List, [], ◌∷◌}
use Prim.Native.Nat.{ℕ, zero, suc, ◌+◌, ◌-◌, ◌*◌, ◌<◌}
use native.Mathlib.Omega.{arith}
use lib.IntN.{ℤ, pos, ◌+ℤ◌}
use lib.ListN.{set}
use lib.Seq.{sets}
use lib.Signed.{mag}
use Rattle.steps.specs.Rows.{Chain, in_row, closing, Record}
use Rattle.steps.specs.SweepDown as steps
use Rattle.steps.specs.SweepDown.{natural_part}
use Rattle.journal.specs.Layout.{fitting, record_at, record_slice}
use Rattle.sweep.specs.Lookup.{Answers, narrowed, numbers_in, given_in, answered_in, tables, reading}
use Rattle.sweep.specs.declared.down.Reader.{Reader}
use Rattle.sweep.specs.Reading.{SameLent}
use Rattle.sweep.proofs.Sums.{narrowed-held}
use Rattle.steps.specs.Swept.{numbers_per_row}

module _ (a : List ℤ) (p q : List ℕ) (n : ℕ) (e : Record) where
  pub read-closing : {x : Chain} → closing ≡ x → mag e.offset < 2147483648 → {a₁ : List ℤ} →
      a₁ ≡ sets a (numbers_per_row * e.name) (pos (fitting (n + 1)) ∷ e.offset ∷ []) → reading a₁ p q (n + 1) ≡ steps.read_record tables (reading a p q n) e x
  unfolding tables given_in
  read-closing c f g = rw (← c, g, narrowed-held e.offset f)

  module _ (r : ℕ) where
    pub read_answer : e.level ≡ 0 → {p₁ q₁ : List ℕ} → p₁ ≡ set p e.name (numbers_in a r).polygon →
        q₁ ≡ set q e.name (natural_part ((numbers_in a r).sequence +ℤ e.offset)) →
        reading a p₁ q₁ n ≡ steps.read_record tables (reading a p q n) e (in_row r)
    unfolding tables answered_in
    read_answer l ep eq = rw (l, ep, eq)

    pub read-given : (e.level ≡ 0 → ⊥) → {a₁ : List ℤ} →
        a₁ ≡ sets a (numbers_per_row * e.name) (pos (fitting (numbers_in a r).polygon) ∷ narrowed ((numbers_in a r).sequence +ℤ e.offset) ∷ []) →
        reading a₁ p q n ≡ steps.read_record tables (reading a p q n) e (in_row r)
    unfolding tables given_in
    read-given l {a₁} g = by e.level refl
      where
        by : (m : ℕ) → e.level ≡ m → reading a₁ p q n ≡ steps.read_record tables (reading a p q n) e (in_row r)
        by zero h = absurd (l h)
        by (suc m) h = rw (h, g)

-- a record read by the chain that it was found to have
pub read-chain : (d e : steps.Reading (List ℤ) Answers) (entry : Record) {x y : Chain} → x ≡ y → e ≡ steps.read_record tables d entry x →
    e ≡ steps.read_record tables d entry y
read-chain d e entry h i = i ∙ ap (λ (z : Chain). steps.read_record tables d entry z) h

-- the records below k, the last of them read
pub down-more : (j : List ℤ) (k : ℕ) → 0 < k → (d e : steps.Reading (List ℤ) Answers) →
    e ≡ steps.read_record tables d (record_at j (k - 1)) (record_at j (k - 1)).chain →
    steps.sweep_down tables record_slice j (k - 1) e ≡ steps.sweep_down tables record_slice j k d
unfolding steps.sweep_down record_slice
down-more j zero l d e h = absurd (omega arith)
down-more j (suc k) l d e h =
    let z : suc k - 1 ≡ k = omega arith in
    rw (z, rw z at h)

pub down-none : (j : List ℤ) (d : steps.Reading (List ℤ) Answers) → steps.sweep_down tables record_slice j 0 d ≡ d
unfolding steps.sweep_down
down-none j d = refl

-- what is lent stays the same from one step to the next
pub lent-on : {d d₁ d₂ : Reader} → SameLent d d₁ → SameLent d₁ d₂ → SameLent d d₂
lent-on s t = record {
  journal = t.journal ∙ s.journal;
  rows = t.rows ∙ s.rows;
  polygons = t.polygons ∙ s.polygons;
  sequences = t.sequences ∙ s.sequences;
  rows-kept = t.rows-kept ∙ s.rows-kept;
  polygons-kept = t.polygons-kept ∙ s.polygons-kept;
  sequences-kept = t.sequences-kept ∙ s.sequences-kept;
}

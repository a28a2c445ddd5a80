-- What was read where the answer is no refusal: a number is its sign and its digits, a field a number and the byte after it, a line five fields.
use mathlib.Core.Path.{◌≡◌, refl, sym, ap, ◌∙◌}
use mathlib.Core.Bool.{true}
use mathlib.Core.List.{List}
use mathlib.Core.Logic.{⊎_elim}
use Prim.Native.Nat.{ℕ, ◌+◌}
use native.Mathlib.Omega.{arith}
use lib.Dec.{eqb}
use lib.IntN.{ℤ}
use borrow.Author.Tests.{eqb-true}
use Rattle.laws.proofs.Deciding.{true-or-false}
use Rattle.sheet.specs.declared.Edge.{Edge}
use Rattle.text.specs.Said.{Said, read, refused, and_then}
use Rattle.text.specs.Numbers.{byte_at, minus_at, digits_at, digits_from, value_at, is_numeral, with_sign, numeral_at, number_at}
use Rattle.text.specs.Lines.{past_at, field_at, space, newline, edge_of, line_at}

module _ (s : List ℕ) where
  pub record NumberParts (i : ℕ) (z : ℤ) (c : ℕ) : Type 0 where
    pub numeral : is_numeral (minus_at s i) (byte_at s (digits_at s i)) (digits_from s (digits_at s i)) ≡ true
    pub value : z ≡ with_sign (minus_at s i) (value_at s (digits_at s i) (digits_from s (digits_at s i)))
    pub end : c ≡ digits_at s i + digits_from s (digits_at s i)

  pub number-parts : (i : ℕ) {z : ℤ} {c : ℕ} → number_at s i ≡ read z c → NumberParts i z c
  unfolding number_at numeral_at
  number-parts i {z} {c} e = ⊎_elim
      (λ t.
      let v : with_sign (minus_at s i) (value_at s (digits_at s i) (digits_from s (digits_at s i))) ≡ z = cc (rw t at e) in
      let q : digits_at s i + digits_from s (digits_at s i) ≡ c = cc (rw t at e) in
      record { numeral = t; value = sym v; end = sym q })
      (λ t. let q : ◌≡◌ {A = ℕ} 0 1 = cc (rw t at e) in absurd (omega arith))
      (true-or-false (is_numeral (minus_at s i) (byte_at s (digits_at s i)) (digits_from s (digits_at s i))))

  pub record FieldParts (b i : ℕ) (z : ℤ) (c : ℕ) : Type 0 where
    pub after : ℕ
    pub number : number_at s i ≡ read z after
    pub byte : byte_at s after ≡ b
    pub past : c ≡ after + 1

  pub field-parts : (b i : ℕ) {z : ℤ} {c : ℕ} → field_at s b i ≡ read z c → FieldParts b i z c
  unfolding field_at and_then past_at
  field-parts b i {z} {c} e = by (number_at s i) refl e
    where
      by : (n : Said ℤ) → number_at s i ≡ n → and_then n (λ z i. and_then (past_at s i b) λ u i. read z i) ≡ read z c → FieldParts b i z c
      by (refused k) m h = let q : ◌≡◌ {A = ℕ} 0 1 = cc in absurd (omega arith)
      by (read y d) m h = ⊎_elim
          (λ t.
          let v : y ≡ z = cc (rw t at h) in
          let q : d + 1 ≡ c = cc (rw t at h) in
          record { after = d; number = m ∙ ap (λ (x : ℤ). read x d) v; byte = eqb-true (byte_at s d) b t; past = sym q })
          (λ t. let q : ◌≡◌ {A = ℕ} 0 1 = cc (rw t at h) in absurd (omega arith))
          (true-or-false (eqb (byte_at s d) b))

  pub record LineParts (i : ℕ) (e : Edge) (c : ℕ) : Type 0 where
    pub second : ℕ
    pub third : ℕ
    pub fourth : ℕ
    pub fifth : ℕ
    pub tail_x : field_at s space i ≡ read e.tail.x second
    pub tail_y : field_at s space second ≡ read e.tail.y third
    pub head_x : field_at s space third ≡ read e.head.x fourth
    pub head_y : field_at s space fourth ≡ read e.head.y fifth
    pub film : field_at s newline fifth ≡ read e.film c

  -- what is read on from a number is an edge only where there is a number
  then-edge : (n : Said ℤ) (more : ℤ → ℕ → Said Edge) {e : Edge} {c : ℕ} → and_then n more ≡ read e c
      → (z : ℤ) × (d : ℕ) × (n ≡ read z d) × (more z d ≡ read e c)
  unfolding and_then
  then-edge (read z d) more h = (z, d, refl, h)
  then-edge (refused k) more h = let q : ◌≡◌ {A = ℕ} 0 1 = cc in absurd (omega arith)

  pub line-parts : (i : ℕ) {e : Edge} {c : ℕ} → line_at s i ≡ read e c → LineParts i e c
  unfolding line_at
  line-parts i {e} {c} h =
      let k = then-edge _ _ h in
      let l = then-edge _ _ k.3 in
      let m = then-edge _ _ l.3 in
      let n = then-edge _ _ m.3 in
      let o = then-edge _ _ n.3 in
      let q : edge_of k.0 l.0 m.0 n.0 o.0 ≡ e = cc o.3 in
      let p : o.1 ≡ c = cc o.3 in
      record {
        second = k.1;
        third = l.1;
        fourth = m.1;
        fifth = n.1;
        tail_x = k.2 ∙ ap (λ (e : Edge). read e.tail.x k.1) q;
        tail_y = l.2 ∙ ap (λ (e : Edge). read e.tail.y l.1) q;
        head_x = m.2 ∙ ap (λ (e : Edge). read e.head.x m.1) q;
        head_y = n.2 ∙ ap (λ (e : Edge). read e.head.y n.1) q;
        film = o.2 ∙ ap (λ (e : Edge). read e.film o.1) q ∙ ap (read e.film) p;
      }

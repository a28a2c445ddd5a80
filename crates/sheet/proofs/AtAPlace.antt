-- The edges at a place of a sound list: how many go a way, the one of a kind, and the four where two leave.
use mathlib.Core.Path.{◌≡◌, refl, sym, ◌∙◌}
use mathlib.Core.Bool.{Bool, true, false, ◌&&◌}
use mathlib.Core.Logic.{◌⊎◌, ⊎_elim, inl, inr}
use Prim.Native.Nat.{ℕ, ◌+◌, ◌≤◌, ◌<◌}
use native.Mathlib.Omega.{arith}
use lib.Dec.{eqb}
use borrow.Author.Tests.{eq-eqb, eqb-true}
use Rattle.laws.specs.Counting.{bit, count, some_below, first}
use Rattle.laws.proofs.Deciding.{lt-or-le, not-both, both_true}
use Rattle.laws.proofs.Counting.{bit_le, count-parts, count-some, count-two, count-find, count-other}
use Rattle.laws.proofs.First.{first-least, first_holds}
use Rattle.laws.proofs.Once.{count-once}
use Rattle.sheet.specs.Edges.{Drawing}
use Rattle.sheet.specs.Kinds.{Way, arriving, leaving, From, below, above, other_from, same_from, end_of, comes, number_at}
use Rattle.sheet.specs.Corners.{four, of_kind}
use Rattle.sheet.specs.Sound.{Sound}

-- the two sides
pub side-or-other : (a b : From) → (a ≡ b) ⊎ (a ≡ b → ⊥)
side-or-other below below = inl refl
side-or-other below above = inr (λ e. let z : ◌≡◌ {A = ℕ} 0 1 = cc in omega arith)
side-or-other above below = inr (λ e. let z : ◌≡◌ {A = ℕ} 0 1 = cc in omega arith)
side-or-other above above = inl refl

-- what is not c is one
pub not-that : (a b c : From) → (a ≡ c → ⊥) → (b ≡ c → ⊥) → a ≡ b
not-that below below c f g = refl
not-that below above below f g = absurd (f refl)
not-that below above above f g = absurd (g refl)
not-that above below below f g = absurd (g refl)
not-that above below above f g = absurd (f refl)
not-that above above c f g = refl

pub not-other : (a : From) → other_from a ≡ a → ⊥
not-other below e = let z : ◌≡◌ {A = ℕ} 0 1 = cc in omega arith
not-other above e = let z : ◌≡◌ {A = ℕ} 0 1 = cc in omega arith

pub same_self : (a : From) → same_from a a ≡ true
same_self below = refl
same_self above = refl

pub same_true : (a b : From) → same_from a b ≡ true → a ≡ b
same_true below below h = refl
same_true below above h = absurd (not-both h refl)
same_true above below h = absurd (not-both h refl)
same_true above above h = refl

pub same_false : (a b : From) → (a ≡ b → ⊥) → same_from a b ≡ false
same_false below below d = absurd (d refl)
same_false below above d = refl
same_false above below d = refl
same_false above above d = absurd (d refl)

-- edges at a place, and how many they are
module _ (sh : Drawing) (w : Way) (p : ℕ) where
  pub one-there : (e : ℕ) → e < sh.edges → end_of sh w e ≡ p → 1 ≤ number_at sh w p
  unfolding number_at
  one-there e l h = count-some _ sh.edges e l (eq-eqb _ _ h)

  pub two-there : (e f : ℕ) → e < sh.edges → f < sh.edges → end_of sh w e ≡ p → end_of sh w f ≡ p → (f ≡ e → ⊥) → 2 ≤ number_at sh w p
  unfolding number_at
  two-there e f el fl h k d = count-two _ sh.edges e f el fl (eq-eqb _ _ h) (eq-eqb _ _ k) d

  pub there-one : 1 ≤ number_at sh w p → (e : ℕ) × (e < sh.edges) × (end_of sh w e ≡ p)
  unfolding number_at
  there-one h = let v = count-find _ sh.edges h in (v.0, v.1, eqb-true _ _ v.2)

  pub there-other : (e : ℕ) → e < sh.edges → end_of sh w e ≡ p → 2 ≤ number_at sh w p → (f : ℕ) × (f < sh.edges) × (f ≡ e → ⊥) × (end_of sh w f ≡ p)
  unfolding number_at
  there-other e l h k = let v = count-other _ sh.edges e l (eq-eqb _ _ h) k in (v.0, v.1, v.2, eqb-true _ _ v.3)

module _ {sh : Drawing} (S : Sound sh) (w : Way) (p : ℕ) where
  is_kind : From → ℕ → Bool
  is_kind s e = eqb (end_of sh w e) p && same_from (comes sh w e) s

  is-kind : (s : From) (e : ℕ) → end_of sh w e ≡ p → comes sh w e ≡ s → is_kind s e ≡ true
  unfolding is_kind
  is-kind s e h k = rw (eq-eqb (end_of sh w e) p h, k) (same_self s)

  kind-is : (s : From) (e : ℕ) → is_kind s e ≡ true → (end_of sh w e ≡ p) × (comes sh w e ≡ s)
  unfolding is_kind
  kind-is s e t = let b = both_true (eqb (end_of sh w e) p) _ t in (eqb-true _ _ b.0, same_true _ _ b.1)

  one-kind : (s : From) (e f : ℕ) → e < sh.edges → f < sh.edges → is_kind s e ≡ true → is_kind s f ≡ true → e ≡ f
  one-kind s e f el fl a b = S.single w e f el fl ((kind-is s e a).0 ∙ sym (kind-is s f b).0) ((kind-is s e a).1 ∙ sym (kind-is s f b).1)

  -- an edge is the one of its kind
  pub of-kind : (e : ℕ) → e < sh.edges → end_of sh w e ≡ p → of_kind sh p w (comes sh w e) ≡ e
  unfolding of_kind is_kind
  of-kind e l h =
      let t = is-kind (comes sh w e) e h refl in
      let m : first (is_kind (comes sh w e)) sh.edges < sh.edges = ⊎_elim (λ g. g) (λ g. absurd (not-both t (first-least (is_kind (comes sh w e)) sh.edges e (omega arith)))) (lt-or-le (first (is_kind (comes sh w e)) sh.edges) sh.edges) in
      one-kind (comes sh w e) (first (is_kind (comes sh w e)) sh.edges) e m l (first_holds (is_kind (comes sh w e)) sh.edges m) t

  -- no more than one from each side
  at_most_two : number_at sh w p ≤ 2
  unfolding number_at is_kind
  at_most_two = omega (arith, count-parts (λ e. eqb (end_of sh w e) p) (is_kind below) (is_kind above) sh.edges (λ e l. parts (eqb (end_of sh w e) p) (comes sh w e)), once below, once above)
    where
      parts : (t : Bool) (s : From) → bit t ≡ bit (t && same_from s below) + bit (t && same_from s above)
      parts false s = refl
      parts true below = refl
      parts true above = refl

      once : (s : From) → count (is_kind s) sh.edges ≤ 1
      once s = omega (arith, count-once (is_kind s) sh.edges (one-kind s), bit_le (some_below (is_kind s) sh.edges))

  -- where two go the way there is one from each side
  pub kind-there : 2 ≤ number_at sh w p → (s : From) → (e : ℕ) × (e < sh.edges) × (end_of sh w e ≡ p) × (comes sh w e ≡ s)
  kind-there h s =
      let e = there-one sh w p (omega arith) in
      let f = there-other sh w p e.0 e.1 e.2 h in
      ⊎_elim (λ k. (e.0, e.1, e.2, k)) (λ d. (f.0, f.1, f.3, other e.0 f.0 e.1 f.1 e.2 f.3 f.2 d)) (side-or-other (comes sh w e.0) s)
    where
      other : (e f : ℕ) → e < sh.edges → f < sh.edges → end_of sh w e ≡ p → end_of sh w f ≡ p → (f ≡ e → ⊥) → (comes sh w e ≡ s → ⊥) → comes sh w f ≡ s
      other e f el fl h k d c = not-that (comes sh w f) s (comes sh w e) (λ q. d (S.single w f e fl el (k ∙ sym h) q)) (λ q. c (sym q))

module _ {sh : Drawing} (S : Sound sh) (p : ℕ) where
  -- where two leave two arrive, and where four meet two go each way
  pub four-there : 2 ≤ number_at sh leaving p → four sh p ≡ true
  unfolding four
  four-there h = eq-eqb (number_at sh arriving p + number_at sh leaving p) 4 (omega (arith, h, at_most_two S leaving p, S.even p))

  pub two-each : four sh p ≡ true → (w : Way) → 2 ≤ number_at sh w p
  unfolding four
  two-each t arriving = omega (arith, eqb-true (number_at sh arriving p + number_at sh leaving p) 4 t, S.even p)
  two-each t leaving = omega (arith, eqb-true (number_at sh arriving p + number_at sh leaving p) 4 t, S.even p)

-- A pass along a turn list: what it carries from position to position, and that the numbers run as far as each pair comes right behind the carried one.
-- Before the first position stand polygon 0 and a sequence number that no other comes behind, so only polygon 1, sequence 0 can come next. Along a list
-- that runs every pair comes right behind the carried one.
use mathlib.Core.Path.{◌≡◌, refl, sym, ◌∙◌, subst}
use mathlib.Core.Bool.{true}
use mathlib.Core.List.{List}
use mathlib.Core.Logic.{◌⊎◌, inl, inr, ⊎_elim}
use Prim.Native.Nat.{ℕ, zero, suc, ◌+◌, ◌<◌}
use native.Mathlib.Omega.{arith}
use lib.Dec.{eqb}
use lib.ListN.{length, get_or}
use borrow.Author.Tests.{eq-eqb, ne_eqb, eqb-true}
use Rattle.laws.proofs.Deciding.{lt-or-le, eq-or-ne, both_true}
use Rattle.sheet.specs.TurnList.{NumberLists}
use Rattle.cutter.specs.Runs.{Onward, RunsTo, Runs}
use Rattle.cutter.specs.Turning.{comes_next}

-- the numbers of the edge before a position
pub record Carried (v : NumberLists) (turns : List ℕ) (i polygon sequence : ℕ) : Type 0 where
  pub at_first : i ≡ 0 → (polygon ≡ 0) × (sequence ≡ 4294967295)
  pub later : (j : ℕ) → suc j ≡ i → (polygon ≡ v.polygon (get_or turns j 0)) × (sequence ≡ v.sequence (get_or turns j 0))

came-next : (p s q t : ℕ) → comes_next p s q t ≡ true → ((q ≡ p) × (t ≡ suc s)) ⊎ ((q ≡ suc p) × (t ≡ 0))
unfolding comes_next
came-next p s q t h = ⊎_elim
    (λ z. inr (eqb-true _ _ (rw (eq-eqb t 0 z) at h), z))
    (λ z. let w = both_true (eqb q p) _ (rw (ne_eqb t 0 z) at h) in inl (eqb-true _ _ w.0, eqb-true _ _ w.1))
    (eq-or-ne t 0)

comes-next : (p s q t : ℕ) → ((q ≡ p) × (t ≡ suc s)) ⊎ ((q ≡ suc p) × (t ≡ 0)) → comes_next p s q t ≡ true
unfolding comes_next
comes-next p s q t = ⊎_elim
    (λ w. rw (ne_eqb t 0 (λ z. absurd (omega (arith, z, w.1))), eq-eqb q p w.0) (eq-eqb t (suc s) w.1))
    (λ w. rw (eq-eqb t 0 w.1) (eq-eqb q (suc p) w.0))

module _ (v : NumberLists) (turns : List ℕ) where
  pub carried_first : Carried v turns 0 0 4294967295
  carried_first = record { at_first = λ z. (refl, refl); later = λ j q. absurd (omega arith) }

  pub carried-next : (i : ℕ) → Carried v turns (i + 1) (v.polygon (get_or turns i 0)) (v.sequence (get_or turns i 0))
  carried-next i = record { at_first = λ z. absurd (omega arith); later = λ j q. let e : i ≡ j = omega arith in rw e (refl, refl) }

  pub run_none : RunsTo v turns 0
  run_none = record { places = λ i l. absurd (omega arith); begins = λ l. absurd (omega arith); onward = λ i l. absurd (omega arith) }

  pub run-further : {i p s : ℕ} → RunsTo v turns i → Carried v turns i p s → get_or turns i 0 < v.edges → v.sequence (get_or turns i 0) < 4294967296 →
      comes_next p s (v.polygon (get_or turns i 0)) (v.sequence (get_or turns i 0)) ≡ true →
      RunsTo v turns (i + 1)
  run-further {i} {p} {s} R C inside narrow next = record { places = places; begins = begins; onward = onward }
    where
      places : (k : ℕ) → k < i + 1 → get_or turns k 0 < v.edges
      places k l = ⊎_elim (R.places k) (λ h. let e : k ≡ i = omega arith in rw e inside) (lt-or-le k i)

      first : i ≡ 0 → (v.polygon (get_or turns 0 0) ≡ 1) × (v.sequence (get_or turns 0 0) ≡ 0)
      first e =
          let c = C.at_first e in
          let w : (v.polygon (get_or turns i 0) ≡ 1) × (v.sequence (get_or turns i 0) ≡ 0) = ⊎_elim
          (λ h. absurd (omega (arith, h.1)))
          (λ h. (omega (arith, h.0), h.1))
          (came-next p s _ _ next) in
          rw e at w

      begins : 0 < i + 1 → (v.polygon (get_or turns 0 0) ≡ 1) × (v.sequence (get_or turns 0 0) ≡ 0)
      begins l = ⊎_elim R.begins (λ h. first (omega arith)) (lt-or-le 0 i)

      here : (k : ℕ) → suc k ≡ i → Onward v (get_or turns k 0) (get_or turns (suc k) 0)
      here k e =
          let c = C.later k e in
          rw e (⊎_elim
          (λ w. inl (w.0 ∙ c.0, omega (arith, w.1, c.1)))
          (λ w. inr (omega (arith, w.0, c.0), w.1))
          (came-next p s _ _ next))

      onward : (k : ℕ) → suc k < i + 1 → Onward v (get_or turns k 0) (get_or turns (suc k) 0)
      onward k l = ⊎_elim (R.onward k) (λ h. here k (omega arith)) (lt-or-le (suc k) i)

  pub run-all : {i : ℕ} → RunsTo v turns i → i ≡ v.edges → length turns ≡ v.edges → Runs v turns
  run-all R e size = record { size = size; to_end = subst (RunsTo v turns) e R }

  pub next-along : Runs v turns → (i : ℕ) {p s : ℕ} → Carried v turns i p s → i < v.edges → comes_next p s (v.polygon (get_or turns i 0)) (v.sequence (get_or turns i 0)) ≡ true
  next-along R zero {p} {s} C l =
      let c = C.at_first refl in
      let b = R.to_end.begins l in
      comes-next p s _ _ (inr (omega (arith, b.0, c.0), b.1))
  next-along R (suc j) {p} {s} C l =
      let c = C.later j refl in
      comes-next p s _ _ (⊎_elim
      (λ w. inl (w.0 ∙ sym c.0, omega (arith, w.1, c.1)))
      (λ w. inr (omega (arith, w.0, c.0), w.1))
      (R.to_end.onward j l))

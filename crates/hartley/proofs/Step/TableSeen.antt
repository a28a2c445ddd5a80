-- The plain table of a state as the theory sees it: rows that were never within the reach are not in use, whatever the table holds there. What the steps do to a
-- row within it they do to what is seen; what a search finds is a tip there.
use mathlib.Core.Path.{◌≡◌, ap, sym, ◌∙◌, fun_ext}
use mathlib.Core.Bool.{Bool, true, false, not, ◌&&◌}
use mathlib.Core.Logic.{⊎_elim}
use Prim.Native.Nat.{ℕ, ◌≤◌, ◌<◌}
use native.Mathlib.Omega.{arith}
use lib.Dec.{eqb, ltb}
use borrow.Author.Tests.{not-true, eq-eqb, eqb-true, lt-ltb, le-ltb, ltb-true}
use Rattle.laws.proofs.Deciding.{lt-or-le, eq-or-ne, both_true}
use Rattle.sheet.specs.Edges.{Drawing}
use Rattle.steps.specs.declared.Side.{Side}
use Rattle.steps.specs.Rows.{other_side, on, Row, LevelEdge}
use Rattle.steps.specs.SweepUp.{has_tip}
use Rattle.steps.specs.Plain.{put, with_branch, free_row}
use Rattle.steps.specs.Swept.{places_of}
use Rattle.hartley.proofs.Paths.TableWritten.{put-at, put-off}
use Rattle.hartley.proofs.Invariant.TableTied.{Table}
use Rattle.hartley.proofs.Step.RowOfStepOne.{HasTip}
use Rattle.hartley.proofs.Invariant.Branches.{longer_branch, lengthened, marked, finishing, matched}

-- a row that counts only where the test passes
abbrev seen : Bool → Row ℕ → Row ℕ
seen b v = record { used = b && v.used; level = v.level; branch = v.branch }

unfoldable pub view : (ℕ → Row ℕ) → ℕ → Table
view t peak r = seen (ltb r peak) (t r)

seen_true : (b : Bool) (v : Row ℕ) → b ≡ true → seen b v ≡ v
seen_true b v e = λ i. record { used = (ap (λ c. c && v.used) e) i; level = v.level; branch = v.branch }

module _ (t : ℕ → Row ℕ) (peak : ℕ) where
  pub view_in : (r : ℕ) → r < peak → view t peak r ≡ t r
  unfolding view
  view_in r l = seen_true (ltb r peak) (t r) (lt-ltb r peak l)

  pub view-above : (r : ℕ) → peak ≤ r → (view t peak r).used ≡ false
  unfolding view
  view-above r l = ap (λ b. b && (t r).used) (le-ltb r peak l)

  pub view-used : (r : ℕ) → (view t peak r).used ≡ true → (r < peak) × ((t r).used ≡ true)
  unfolding view
  view-used r h = let b = both_true (ltb r peak) (t r).used h in (ltb-true r peak b.0, b.1)

  pub used-view : (r : ℕ) → r < peak → (t r).used ≡ true → (view t peak r).used ≡ true
  used-view r l u = ap (λ (v : Row ℕ). v.used) (view_in r l) ∙ u

  -- a row written over, also one that raises the peak
  pub view-opened : (r : ℕ) (v : Row ℕ) (peak' : ℕ) → r < peak' → ((s : ℕ) → (s ≡ r → ⊥) → (s < peak → s < peak') × (s < peak' → s < peak)) → view (put t r v) peak' ≡ put (view t peak) r v
  unfolding view
  view-opened r v peak' l same = fun_ext (λ s. ⊎_elim
      (λ q. ap (seen (ltb s peak')) (put-at t r s v q) ∙ seen_true (ltb s peak') v (lt-ltb s peak' (omega arith)) ∙ sym (put-at (view t peak) r s v q))
      (λ q. ap (seen (ltb s peak')) (put-off t r s v q) ∙ ap (λ b. seen b (t s)) (alike s (same s q)) ∙ sym (put-off (view t peak) r s v q))
      (eq-or-ne s r))
    where
      alike : (s : ℕ) → (s < peak → s < peak') × (s < peak' → s < peak) → ltb s peak' ≡ ltb s peak
      alike s h = ⊎_elim (λ a. lt-ltb s peak' (h.0 a) ∙ sym (lt-ltb s peak a)) (λ a. le-ltb s peak' (⊎_elim (λ b. absurd (omega (arith, h.1 b))) (λ b. b) (lt-or-le s peak')) ∙ sym (le-ltb s peak a)) (lt-or-le s peak)

  pub view-put : (r : ℕ) (v : Row ℕ) → r < peak → view (put t r v) peak ≡ put (view t peak) r v
  view-put r v l = view-opened r v peak l (λ s d. ((λ a. a), λ a. a))

  pub view-lengthened : (s : Side) (r : ℕ) (e : LevelEdge ℕ) → r < peak → view (lengthened s t r e) peak ≡ lengthened s (view t peak) r e
  view-lengthened s r e l = view-put r _ l ∙ ap (λ (v : Row ℕ). put (view t peak) r (with_branch v s (longer_branch s v e))) (sym (view_in r l))

  pub view-freed : (r : ℕ) → r < peak → view (put t r (free_row (t r))) peak ≡ put (view t peak) r (free_row (view t peak r))
  view-freed r l = view-put r _ l ∙ ap (λ (v : Row ℕ). put (view t peak) r (free_row v)) (sym (view_in r l))

view-finishing : (t : ℕ → Row ℕ) (peak : ℕ) (s : Side) (r : ℕ) → r < peak → view (finishing s t r) peak ≡ finishing s (view t peak) r
view-finishing t peak s r l = view-put t peak r _ l ∙ ap (λ (v : Row ℕ). put (view t peak) r (marked s v)) (sym (view_in t peak r l))

pub view-matched : (t : ℕ → Row ℕ) (peak : ℕ) (s : Side) (r q : ℕ) → r < peak → q < peak → view (matched s t r q) peak ≡ matched s (view t peak) r q
view-matched t peak s r q l k = view-finishing (finishing (other_side s) t q) peak s r l ∙ ap (λ T. finishing s T r) (view-finishing t peak (other_side s) q k)

-- what a search finds
module _ (sh : Drawing) (t : ℕ → Row ℕ) (peak level p : ℕ) (s : Side) (r : ℕ) where
  pub tip-of : r < peak → ((t r).used && has_tip (places_of sh) level s p (t r)) ≡ true → HasTip (view t peak r) s level p
  unfolding has_tip view
  tip-of l h =
      let a = both_true (t r).used _ h in
      let b = both_true (eqb (t r).level level) _ a.1 in
      let c = both_true (not (on s (t r).branch).finished) _ b.1 in
      record { used = ap (λ d. d && (t r).used) (lt-ltb r peak l) ∙ a.0; level_is = eqb-true _ _ b.0; unfinished = not-true _ c.0; tip_is = eqb-true _ _ c.1 }

  pub tip-to : HasTip (view t peak r) s level p → (r < peak) × (((t r).used && has_tip (places_of sh) level s p (t r)) ≡ true)
  unfolding has_tip view
  tip-to h =
      let b = both_true (ltb r peak) (t r).used h.used in
      (ltb-true r peak b.0, rw (b.1, eq-eqb (t r).level level h.level_is, h.unfinished) (eq-eqb (on s (t r).branch).tip p h.tip_is))

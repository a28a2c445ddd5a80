-- How large things get. A path has no more edges than the list. An outline that has room for a level l has 2 ^ l edges of its own, since following
-- the joins does not come back sooner; so the list has that many, and no level is above 12 in a list of 4,096. The records are at most twice the
-- edges treated, less the outlines closed.
use mathlib.Core.Path.{◌≡◌, refl, ap, sym, ◌∙◌}
use mathlib.Core.Bool.{Bool, true}
use mathlib.Core.List.{List}
use mathlib.Core.Logic.{⊎_elim}
use Prim.Native.Nat.{ℕ, zero, suc, ◌+◌, ◌-◌, ◌*◌, ◌^◌, ◌≤◌, ◌<◌}
use native.Mathlib.Omega.{arith}
use Rattle.laws.specs.Counting.{count}
use Rattle.laws.proofs.Deciding.{lt-or-le}
use Rattle.laws.proofs.Counting.{count-all}
use Rattle.laws.proofs.Pigeonhole.{pigeon}
use Rattle.hartley.proofs.Paths.Plan.{Plan, Lawful}
use Rattle.hartley.proofs.Paths.DownLaw.{Rec}
use Rattle.hartley.proofs.Paths.Paths.{Owner, on, Paths, size, Chain}
use Rattle.hartley.proofs.Paths.JournalLinked.{Naming}
use Rattle.hartley.proofs.Seams.Seams.{walk-path}
use Rattle.hartley.proofs.Seams.LongOutline.{iter, iter-add, Room}
use Rattle.hartley.proofs.Paths.RecordsCounted.{records, closes, listed, two_ways}
use Rattle.hartley.proofs.Invariant.TableTied.{Table, State}
use Rattle.sheet.specs.Amounts.{most_edges}

pub count-every : (n : ℕ) → count (λ x. true) n ≡ n
count-every n = count-all (λ x. true) n (λ x l. refl)

-- a path's edges are edges of the list
pub size_small : {sh : Plan} {G : Paths} → Chain sh G → (x : Owner) → size G x ≤ sh.list.edges
size_small {sh} {G} C x =
    omega (arith, pigeon (λ i e. G.spot e ≡ on x i) one (λ i. true) (λ e. true) (size G x) sh.list.edges (λ i l t. let w = walk-path C x i l in (w.0, C.real _ x i w.1, refl, w.1)), count-every (size G x), count-every sh.list.edges)
  where
    one : (i j e : ℕ) → G.spot e ≡ on x i → G.spot e ≡ on x j → i ≡ j
    one i j e a b = cc

-- the joins followed from an edge whose outline has room for a level
module _ {sh : Plan} (N : Lawful sh) where
  inside : (i e : ℕ) → e < sh.list.edges → iter sh.next i e < sh.list.edges
  unfolding iter
  inside zero e l = l
  inside (suc i) e l = N.inside _ (inside i e l)

  cancel : (i e f : ℕ) → e < sh.list.edges → f < sh.list.edges → iter sh.next i e ≡ iter sh.next i f → e ≡ f
  unfolding iter
  cancel zero e f l m q = q
  cancel (suc i) e f l m q = cancel i e f l m (N.one_to_one _ _ (inside i e l) (inside i f m) q)

  module _ (l : ℕ) (r : Room sh l) (q : ℕ → Bool) (here : q r.0 ≡ true) (on : (e : ℕ) → e < sh.list.edges → q e ≡ true → q (sh.next e) ≡ true) where
    stays : (i : ℕ) → q (iter sh.next i r.0) ≡ true
    unfolding iter
    stays zero = here
    stays (suc i) = on _ (inside i r.0 r.1) (stays i)

    sooner : (i j : ℕ) → i < j → j < 2 ^ l → iter sh.next i r.0 ≡ iter sh.next j r.0 → ⊥
    sooner i j a b e =
        let t : i + (j - i) ≡ j = omega arith in
        r.2 (j - i) (omega arith) (omega arith) (sym (cancel i r.0 (iter sh.next (j - i) r.0) r.1 (inside (j - i) r.0 r.1) (e ∙ ap (λ k. iter sh.next k r.0) (sym t) ∙ iter-add sh.next i (j - i) r.0)))

    once : (i j e : ℕ) → (i < 2 ^ l) × (iter sh.next i r.0 ≡ e) → (j < 2 ^ l) × (iter sh.next j r.0 ≡ e) → i ≡ j
    once i j e (a, x) (b, y) = ⊎_elim (λ h. absurd (sooner i j h b (x ∙ sym y))) (λ h. ⊎_elim (λ k. absurd (sooner j i k a (y ∙ sym x))) (λ k. omega arith) (lt-or-le j i)) (lt-or-le i j)

    -- so many edges pass a test that the joins keep
    pub room-many : 2 ^ l ≤ count q sh.list.edges
    room-many = omega (arith, pigeon (λ i e. (i < 2 ^ l) × (iter sh.next i r.0 ≡ e)) once (λ i. true) q (2 ^ l) sh.list.edges (λ i h t. (iter sh.next i r.0, inside i r.0 r.1, stays i, (h, refl))), count-every (2 ^ l))

  pub room_small : (l : ℕ) → Room sh l → 2 ^ l ≤ sh.list.edges
  room_small l r = omega (arith, room-many l r (λ e. true) refl (λ e h t. refl), count-every sh.list.edges)

-- powers of two grow
pow-grows : (d k : ℕ) → 2 ^ k ≤ 2 ^ (d + k)
pow-grows zero k = let e : 0 + k ≡ k = omega arith in rw e (omega arith)
pow-grows (suc d) k = let e : suc d + k ≡ suc (d + k) = omega arith in rw e (omega (arith, pow-grows d k))

pub pow-le : (a b : ℕ) → a ≤ b → 2 ^ a ≤ 2 ^ b
pow-le a b h = let e : (b - a) + a ≡ b = omega arith in rw e at (pow-grows (b - a) a)

pub level-small : {sh : Plan} → Lawful sh → sh.list.edges ≤ most_edges → (l : ℕ) → Room sh l → l ≤ 12
level-small N few l r = ⊎_elim (λ h. let a = pow-le 13 l h in absurd (omega (arith, a, room_small N l r))) (λ h. omega arith) (lt-or-le 12 l)

-- records at any moment
pub records-small : {sh : Plan} {p m : ℕ} {Y : Table} {J : List Rec} {B : Naming} {G : Paths} → State sh p m Y J B G → (k : ℕ) → listed J ≤ k → records J + closes J ≤ 2 * k
records-small {J = J} I k h = let w = two_ways J in omega (arith, w.0, w.1, I.paid)

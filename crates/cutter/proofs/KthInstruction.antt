-- The k-th instruction, told by the positions of a right turn list. Behind the cut of a position comes what the rest of the turn list makes of the outline
-- that is under way: a cut more, or a lift and the next outline. So the positions' counts up to their cuts grow by one or by three, and the instruction
-- at k is told by the first position whose count passes k.
use Rattle.std.specs.Prelude.{Ok, Err}
use mathlib.Core.Path.{◌≡◌, refl, sym, ap, ◌∙◌}
use mathlib.Core.Bool.{true, false}
use mathlib.Core.List.{List, [], ◌∷◌}
use mathlib.Core.Logic.{⊎_elim}
use Prim.Native.Nat.{ℕ, zero, suc, ◌+◌, ◌-◌, ◌≤◌, ◌<◌}
use native.Mathlib.Omega.{arith}
use borrow.Author.Tests.{eq-eqb, ne_eqb, ltb-true, ltb-false}
use lib.Dec.{ltb}
use lib.IntN.{ℤ}
use lib.ListN.{length, get_or, drop}
use lib.Seq.{drop-cons, drop-length}
use Rattle.laws.specs.Counting.{first}
use Rattle.laws.proofs.Deciding.{lt-or-le, not-both}
use Rattle.laws.proofs.First.{first_holds, first-least}
use Rattle.sheet.specs.Edges.{edge_at}
use Rattle.sheet.specs.TurnList.{number_lists}
use Rattle.cutter.specs.declared.machines.Machine.{Machine}
use Rattle.cutter.specs.declared.blade.Instruction.{Instruction}
use Rattle.cutter.specs.declared.blade.Instruction.TheVariants.{Lift}
use Rattle.cutter.specs.declared.CutRefusal.TheVariants.{PastLast}
use Rattle.cutter.specs.Places.{place_for}
use Rattle.cutter.specs.Blade.{travel_to, cut_to}
use Rattle.cutter.specs.Programme.{cuts, programme}
use Rattle.cutter.specs.Outlines.{heads_on, outlines_of}
use Rattle.cutter.specs.Instructed.{Step, kth}
use Rattle.cutter.specs.Runs.{Runs}
use Rattle.cutter.specs.Position.{up_to_cut, past_last, before_end}
use Rattle.cutter.proofs.RightTurns.{run-begins, run-onward}

module _ (m : Machine) (list : List ℤ) (sequences : List ℕ) where
  abbrev pub all : List ℕ → List Instruction
  all ts = programme (place_for m) (outlines_of list sequences ts)

  -- what follows the cut of an edge, behind which a turn list goes on with ts
  abbrev pub behind : List ℕ → List Instruction
  behind ts = cuts (place_for m) (heads_on list sequences ts) (Lift ∷ all ts)

  abbrev pub travel_of : ℕ → Instruction
  travel_of e = travel_to (place_for m (edge_at list e).tail)

  abbrev pub cut_of : ℕ → Instruction
  cut_of e = cut_to (place_for m (edge_at list e).head)

  pub begun : (e : ℕ) (ts : List ℕ) → get_or sequences e 0 ≡ 0 → all (e ∷ ts) ≡ travel_of e ∷ (cut_of e ∷ behind ts)
  unfolding programme cuts outlines_of
  begun e ts z = rw (eq-eqb (get_or sequences e 0) 0 z) refl

  pub behind-zero : (e : ℕ) (ts : List ℕ) → get_or sequences e 0 ≡ 0 → behind (e ∷ ts) ≡ Lift ∷ (travel_of e ∷ (cut_of e ∷ behind ts))
  unfolding cuts heads_on
  behind-zero e ts z = rw (eq-eqb (get_or sequences e 0) 0 z) (ap (λ (is : List Instruction). Lift ∷ is) (begun e ts z))

  pub behind-on : (e : ℕ) (ts : List ℕ) → (get_or sequences e 0 ≡ 0 → ⊥) → behind (e ∷ ts) ≡ cut_of e ∷ behind ts
  unfolding cuts heads_on outlines_of
  behind-on e ts z = rw (ne_eqb (get_or sequences e 0) 0 z) refl

  pub behind-none : behind [] ≡ Lift ∷ []
  unfolding cuts heads_on outlines_of programme
  behind-none = refl

  pub none-all : all [] ≡ []
  unfolding programme outlines_of
  none-all = refl

-- an empty sheet has no instruction
none_at_all : (m : Machine) (list : List ℤ) (sequences turns : List ℕ) (k : ℕ) → length turns ≡ 0 → Err PastLast ≡ kth (programme (place_for m) (outlines_of list sequences turns)) k
unfolding kth programme outlines_of
none_at_all m list sequences [] k q = refl
none_at_all m list sequences (t ∷ ts) k q = absurd (omega (arith, q))

-- along a right turn list
module _ (m : Machine) (list : List ℤ) (polygons sequences turns : List ℕ) (R : Runs (number_lists polygons sequences) turns) where
  abbrev n : ℕ
  n = length turns

  abbrev turn : ℕ → ℕ
  turn i = get_or turns i 0

  abbrev count : ℕ → ℕ
  count = up_to_cut polygons turns

  rest : (i : ℕ) → i < n → drop i turns ≡ turn i ∷ drop (suc i) turns
  rest i l = drop-cons turns i 0 l

  first_count : 0 < n → count 0 ≡ 2
  unfolding up_to_cut
  first_count l = rw (run-begins polygons sequences turns R l).0 refl

  count-on : (i : ℕ) → get_or polygons (turn (suc i)) 0 ≡ get_or polygons (turn i) 0 → count (suc i) ≡ suc (count i)
  unfolding up_to_cut
  count-on i q = rw q (omega arith)

  count-zero : (i : ℕ) → get_or polygons (turn (suc i)) 0 ≡ suc (get_or polygons (turn i) 0) → count (suc i) ≡ count i + 3
  unfolding up_to_cut
  count-zero i q = rw q (omega arith)

  all-begun : 0 < n → all m list sequences turns ≡ travel_of m list sequences (turn 0) ∷ (cut_of m list sequences (turn 0) ∷ behind m list sequences (drop 1 turns))
  all-begun l = ap (all m list sequences) (rest 0 l) ∙ begun m list sequences (turn 0) (drop 1 turns) (run-begins polygons sequences turns R l).1

  -- behind the cut of position i
  from_cut : (i : ℕ) → i < n → (j : ℕ) → kth (all m list sequences turns) (j + count i) ≡ kth (behind m list sequences (drop (suc i) turns)) j
  unfolding kth
  from_cut zero l j =
      let k : j + count 0 ≡ suc (suc j) = omega (arith, first_count l) in
      ap (kth (all m list sequences turns)) k ∙ ap (λ (is : List Instruction). kth is (suc (suc j))) (all-begun l)
  from_cut (suc i) l j = ⊎_elim
      (λ q.
      let z : get_or sequences (turn (suc i)) 0 ≡ 0 → ⊥ = λ e. absurd (omega (arith, e, q.1)) in
      let k : j + count (suc i) ≡ suc j + count i = omega (arith, count-on i q.0) in
      ap (kth (all m list sequences turns)) k ∙ from_cut i (omega arith) (suc j) ∙ ap (λ (ts : List ℕ). kth (behind m list sequences ts) (suc j)) (rest (suc i) l)
      ∙ ap (λ (is : List Instruction). kth is (suc j)) (behind-on m list sequences (turn (suc i)) (drop (suc (suc i)) turns) z))
      (λ q.
      let k : j + count (suc i) ≡ suc (suc (suc j)) + count i = omega (arith, count-zero i q.0) in
      ap (kth (all m list sequences turns)) k ∙ from_cut i (omega arith) (suc (suc (suc j))) ∙ ap (λ (ts : List ℕ). kth (behind m list sequences ts) (suc (suc (suc j)))) (rest (suc i) l)
      ∙ ap (λ (is : List Instruction). kth is (suc (suc (suc j)))) (behind-zero m list sequences (turn (suc i)) (drop (suc (suc i)) turns) q.1))
      (run-onward polygons sequences turns R i l)

  -- the three that may come up to a cut
  the-cut : (e back : ℕ) → back ≡ 1 → ◌≡◌ {A = Step} (Ok (cut_of m list sequences e)) (Ok (before_end m (edge_at list e) back))
  unfolding before_end
  the-cut e back q = rw q refl

  the_travel : (e back : ℕ) → back ≡ 2 → ◌≡◌ {A = Step} (Ok (travel_of m list sequences e)) (Ok (before_end m (edge_at list e) back))
  unfolding before_end
  the_travel e back q = rw q refl

  the-lift : (e back : ℕ) → back ≡ 3 → ◌≡◌ {A = Step} (Ok Lift) (Ok (before_end m (edge_at list e) back))
  unfolding before_end
  the-lift e back q = rw q refl

  at_first : 0 < n → (k : ℕ) → k < count 0 → kth (all m list sequences turns) k ≡ Ok (before_end m (edge_at list (turn 0)) (count 0 - k))
  unfolding kth
  at_first l zero h = rw (all-begun l) (the_travel (turn 0) (count 0 - 0) (omega (arith, first_count l)))
  at_first l (suc zero) h = rw (all-begun l) (the-cut (turn 0) (count 0 - 1) (omega (arith, first_count l)))
  at_first l (suc (suc k)) h = absurd (omega (arith, h, first_count l))

  -- the first three behind the cut of a position, where the next one begins an outline
  at_zero : (e : ℕ) (ts : List ℕ) → get_or sequences e 0 ≡ 0 → (j back : ℕ) → back + j ≡ 3 → 0 < back → kth (behind m list sequences (e ∷ ts)) j ≡ Ok (before_end m (edge_at list e) back)
  unfolding kth
  at_zero e ts z zero back q h = rw (behind-zero m list sequences e ts z) (the-lift e back (omega (arith, q)))
  at_zero e ts z (suc zero) back q h = rw (behind-zero m list sequences e ts z) (the_travel e back (omega (arith, q)))
  at_zero e ts z (suc (suc zero)) back q h = rw (behind-zero m list sequences e ts z) (the-cut e back (omega (arith, q)))
  at_zero e ts z (suc (suc (suc j))) back q h = absurd (omega (arith, q, h))

  at_on : (e : ℕ) (ts : List ℕ) → (get_or sequences e 0 ≡ 0 → ⊥) → (j back : ℕ) → j ≡ 0 → back ≡ 1 → kth (behind m list sequences (e ∷ ts)) j ≡ Ok (before_end m (edge_at list e) back)
  unfolding kth
  at_on e ts z j back q h = rw (q, behind-on m list sequences e ts z) (the-cut e back h)

  at_next : (i : ℕ) → suc i < n → (k : ℕ) → count i ≤ k → k < count (suc i) → kth (all m list sequences turns) k ≡ Ok (before_end m (edge_at list (turn (suc i))) (count (suc i) - k))
  at_next i l k a b =
      let q : k ≡ k - count i + count i = omega (arith, a) in
      ap (kth (all m list sequences turns)) q ∙ from_cut i (omega arith) (k - count i) ∙ ap (λ (ts : List ℕ). kth (behind m list sequences ts) (k - count i)) (rest (suc i) l)
      ∙ ⊎_elim
      (λ o. at_on (turn (suc i)) (drop (suc (suc i)) turns) (λ e. absurd (omega (arith, e, o.1))) (k - count i) (count (suc i) - k) (omega (arith, a, b, count-on i o.0)) (omega (arith, a, b, count-on i o.0)))
      (λ o. at_zero (turn (suc i)) (drop (suc (suc i)) turns) o.1 (k - count i) (count (suc i) - k) (omega (arith, a, b, count-zero i o.0)) (omega (arith, a, b, count-zero i o.0)))
      (run-onward polygons sequences turns R i l)

  -- the instruction at k, by the first position whose count passes it
  at_position : (i : ℕ) → i < n → (k : ℕ) → ((h : ℕ) → h < i → count h ≤ k) → k < count i → Ok (before_end m (edge_at list (turn i)) (count i - k)) ≡ kth (all m list sequences turns) k
  at_position zero l k a b = sym (at_first l k b)
  at_position (suc i) l k a b = sym (at_next i l k (a i (omega arith)) b)

  -- behind the last cut
  behind-last : (i : ℕ) → suc i ≡ n → (j : ℕ) → kth (all m list sequences turns) (j + count i) ≡ kth (Lift ∷ []) j
  behind-last i q j =
      from_cut i (omega (arith, q)) j
      ∙ ap (λ (ts : List ℕ). kth (behind m list sequences ts) j) (ap (λ (k : ℕ). drop k turns) q ∙ drop-length turns)
      ∙ ap (λ (is : List Instruction). kth is j) (behind-none m list sequences)

  last-lift : (i k : ℕ) → suc i ≡ n → k ≡ count i → Ok Lift ≡ kth (all m list sequences turns) k
  unfolding kth
  last-lift i k q h = sym (ap (kth (all m list sequences turns)) (h ∙ zero-plus (count i)) ∙ behind-last i q 0)
    where
      zero-plus : (a : ℕ) → a ≡ 0 + a
      zero-plus a = omega arith

  past-last : (i k : ℕ) → suc i ≡ n → count i < k → Err PastLast ≡ kth (all m list sequences turns) k
  unfolding kth
  past-last i k q h =
      let p : k ≡ suc (k - suc (count i)) + count i = omega (arith, h) in
      sym (ap (kth (all m list sequences turns)) p ∙ behind-last i q (suc (k - suc (count i))))

  -- ---- by what is asked of k
  pub when-past : (k : ℕ) → past_last polygons turns k ≡ true → Err PastLast ≡ kth (all m list sequences turns) k
  unfolding past_last
  when-past k t = ⊎_elim
      (λ l. past-last (n - 1) k (omega (arith, l)) (ltb-true _ _ (rw (ne_eqb n 0 (λ q. absurd (omega (arith, q, l)))) at t)))
      (λ l. none_at_all m list sequences turns k (omega (arith, l)))
      (lt-or-le 0 n)

  pub when-lift : (k : ℕ) → past_last polygons turns k ≡ false → first (λ i. ltb k (count i)) n ≡ n → Ok Lift ≡ kth (all m list sequences turns) k
  unfolding past_last
  when-lift k f g = ⊎_elim
      (λ l.
      let here : k ≤ count (n - 1) = ltb-false (count (n - 1)) k (rw (ne_eqb n 0 (λ q. absurd (omega (arith, q, l)))) at f) in
      let there : count (n - 1) ≤ k = ltb-false k (count (n - 1)) (first-least (λ i. ltb k (count i)) n (n - 1) (omega (arith, l, g))) in
      last-lift (n - 1) k (omega (arith, l)) (omega (arith, here, there)))
      (λ l. absurd (not-both refl (rw (eq-eqb n 0 (omega (arith, l))) at f)))
      (lt-or-le 0 n)

  module _ (k i : ℕ) (found : (i < n) × (i ≡ first (λ j. ltb k (count j)) n)) where
    pub passed : k < count i
    passed = ltb-true _ _ (rw (← found.1) at (first_holds (λ j. ltb k (count j)) n (rw (← found.1) found.0)))

    pub when-found : Ok (before_end m (edge_at list (turn i)) (count i - k)) ≡ kth (all m list sequences turns) k
    when-found = at_position i found.0 k (λ h g. ltb-false _ _ (first-least (λ j. ltb k (count j)) n h (rw (← found.1) g))) passed

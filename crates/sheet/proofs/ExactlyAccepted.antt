-- The turn list accepts exactly the numberings that 01 says, each with its number of polygons.
-- What is accepted has none of 12 to 14 at any edge. So no polygon number is 0 and no pair comes twice; and from an edge one goes back, one number less
-- at a time, to every smaller sequence number of its polygon, as from the largest polygon number to every smaller one. The other way round each
-- refusal names something that a good numbering has not.
use Rattle.std.specs.Prelude.{Result, Ok}
use mathlib.Core.Path.{◌≡◌, refl, sym, ap, ◌∙◌}
use mathlib.Core.Bool.{Bool, true, false, not, ◌&&◌}
use mathlib.Core.List.{List}
use mathlib.Core.Logic.{⊎_elim}
use Prim.Native.Nat.{ℕ, zero, suc, ◌+◌, ◌-◌, ◌≤◌, ◌<◌}
use native.Mathlib.Omega.{arith}
use lib.Dec.{eqb, ltb}
use lib.ListN.{length, get_or}
use borrow.Author.Tests.{eq-eqb, ne_eqb, eqb-true, eqb-false, lt-ltb, le-ltb, ltb-true, ltb-false, not-false}
use Rattle.laws.specs.Counting.{some_below, first, largest}
use Rattle.laws.proofs.Deciding.{lt-or-le, true-or-false, not-both, both_true, neither-true}
use Rattle.laws.proofs.First.{first-least, first-none, some-below-true, none_below, below_none, below-some}
use Rattle.laws.proofs.Largest.{largest-bound, largest-met, largest-is}
use Rattle.sheet.specs.declared.TurnRefusal.{TurnRefusal}
use Rattle.sheet.specs.declared.TurnRefusal.TheVariants.{TurnLengths, NoPolygon, PairRepeated, Gap}
use Rattle.sheet.specs.TurnList.{NumberLists, number_lists, no_polygon, pair_repeated, gap, refuse_turn, refuse_first_turn, lengths_differ, turned, GoodNumbering, GoodLists}
use Rattle.sheet.specs.Sound.{AcceptsExactly}
use Rattle.sheet.specs.Amounts.{most_edges}

-- a test that cannot hold fails, and `a && not b` fails just where a gives b
fails : (b : Bool) → (b ≡ true → ⊥) → b ≡ false
fails b h = ⊎_elim (λ e. absurd (h e)) (λ e. e) (true-or-false b)

and-not : (a b : Bool) → (a ≡ true → b ≡ true) → (a && not b) ≡ false
and-not false b h = refl
and-not true b h = ap not (h refl)

not-and : (a b : Bool) → (a && not b) ≡ false → a ≡ true → b ≡ true
not-and true b h e = not-false b h
not-and false b h e = absurd (not-both e refl)

-- what is accepted was not refused
not-refused : (b : Bool) (r : TurnRefusal) (rest : Result ℕ TurnRefusal) {n : ℕ} → refuse_turn b r rest ≡ Ok n → (b ≡ false) × (rest ≡ Ok n)
not-refused true r rest q = let z : ◌≡◌ {A = ℕ} 0 1 = cc in absurd (omega arith)
not-refused false r rest q = (refl, q)

none-refused : (v : NumberLists) (test : NumberLists → ℕ → Bool) (refusal : ℕ → TurnRefusal) (rest : Result ℕ TurnRefusal) {n : ℕ} →
    refuse_first_turn v test refusal rest ≡ Ok n →
    ((e : ℕ) → e < v.edges → test v e ≡ false) × (rest ≡ Ok n)
none-refused v test refusal rest q =
    let w = not-refused (ltb (first (test v) v.edges) v.edges) (refusal (first (test v) v.edges)) rest q in
    (λ e l. first-least (test v) v.edges e (omega (arith, ltb-false (first (test v) v.edges) v.edges w.0)), w.1)

-- what 14 looks for: an edge with the sequence number before, and an edge of the polygon before
abbrev one-less? : NumberLists → ℕ → ℕ → Bool
one-less? v e f = eqb (v.polygon f) (v.polygon e) && eqb (v.sequence f + 1) (v.sequence e)

abbrev polygon-less? : NumberLists → ℕ → ℕ → Bool
polygon-less? v e f = eqb (v.polygon f + 1) (v.polygon e)

-- 12 to 14 at no edge
record NoFault (v : NumberLists) : Type 0 where
  has_polygon : (e : ℕ) → e < v.edges → no_polygon v e ≡ false
  once : (e : ℕ) → e < v.edges → pair_repeated v e ≡ false
  no_hole : (e : ℕ) → e < v.edges → gap v e ≡ false

-- accepted, and so good
module _ (v : NumberLists) (F : NoFault v) where
  above_zero : (e : ℕ) → e < v.edges → 1 ≤ v.polygon e
  unfolding no_polygon
  above_zero e l = let h = eqb-false (v.polygon e) 0 (F.has_polygon e l) in omega arith

  not_earlier : (f e : ℕ) → f < e → e < v.edges → v.polygon f ≡ v.polygon e → v.sequence f ≡ v.sequence e → ⊥
  unfolding pair_repeated
  not_earlier f e l m p s = not-both (rw (eq-eqb _ _ p, eq-eqb _ _ s) refl) (none_below _ e (F.once e m) f l)

  one-edge : (e f : ℕ) → e < v.edges → f < v.edges → v.polygon e ≡ v.polygon f → v.sequence e ≡ v.sequence f → e ≡ f
  one-edge e f l m p s = ⊎_elim
      (λ h. absurd (not_earlier e f h m p s))
      (λ h. ⊎_elim (λ g. absurd (not_earlier f e g l (sym p) (sym s))) (λ g. omega arith) (lt-or-le f e))
      (lt-or-le e f)

  -- one back: in the polygon, and to the polygon before
  found : (e : ℕ) → e < v.edges → (0 < v.sequence e → some_below (one-less? v e) v.edges ≡ true) × (1 < v.polygon e → some_below (polygon-less? v e) v.edges ≡ true)
  unfolding gap
  found e l =
      let w = neither-true (ltb 0 (v.sequence e) && not (some_below (one-less? v e) v.edges)) _ (F.no_hole e l) in
      (λ h. not-and _ _ w.0 (lt-ltb 0 (v.sequence e) h), λ h. not-and _ _ w.1 (lt-ltb 1 (v.polygon e) h))

  one_less : (e : ℕ) → e < v.edges → 0 < v.sequence e → (f : ℕ) × (f < v.edges) × (v.polygon f ≡ v.polygon e) × (v.sequence f + 1 ≡ v.sequence e)
  one_less e l h =
      let w = some-below-true (one-less? v e) v.edges ((found e l).0 h) in
      let b = both_true (eqb (v.polygon w.0) (v.polygon e)) _ w.2 in
      (w.0, w.1, eqb-true _ _ b.0, eqb-true _ _ b.1)

  polygon-less : (e : ℕ) → e < v.edges → 1 < v.polygon e → (f : ℕ) × (f < v.edges) × (v.polygon f + 1 ≡ v.polygon e)
  polygon-less e l h =
      let w = some-below-true (polygon-less? v e) v.edges ((found e l).1 h) in
      (w.0, w.1, eqb-true _ _ w.2)

  -- and so all the way
  sequence-there : (d e i : ℕ) → e < v.edges → v.sequence e ≡ d + i → (f : ℕ) × (f < v.edges) × (v.polygon f ≡ v.polygon e) × (v.sequence f ≡ i)
  sequence-there zero e i l q = (e, l, refl, omega arith)
  sequence-there (suc d) e i l q =
      let w = one_less e l (omega arith) in
      let s = sequence-there d w.0 i w.1 (omega (arith, q, w.3)) in
      (s.0, s.1, omega (arith, s.2, w.2), s.3)

  polygon-there : (d e k : ℕ) → e < v.edges → 1 ≤ k → v.polygon e ≡ d + k → (f : ℕ) × (f < v.edges) × (v.polygon f ≡ k)
  polygon-there zero e k l o q = (e, l, omega arith)
  polygon-there (suc d) e k l o q =
      let w = polygon-less e l (omega arith) in
      polygon-there d w.0 k w.1 o (omega (arith, q, w.2))

  every-polygon : (k : ℕ) → 1 ≤ k → k ≤ largest v.polygon v.edges → (e : ℕ) × (e < v.edges) × (v.polygon e ≡ k)
  unfolding largest
  every-polygon k o m = ⊎_elim
      (λ h. let w = largest-met v.polygon v.edges h in polygon-there (v.polygon w.0 - k) w.0 k w.1 o (omega (arith, m, w.2)))
      (λ h. let z : v.edges ≡ 0 = omega arith in absurd (omega (arith, o, m, ap (largest v.polygon) z)))
      (lt-or-le 0 v.edges)

  good : GoodNumbering v (largest v.polygon v.edges)
  good = record {
    from_one = λ e l. omega (arith, above_zero e l, largest-bound v.polygon v.edges e l);
    no_gap = λ k o m. every-polygon k (omega arith) (omega arith);
    no_repeat = one-edge;
    from_zero = λ e i l h. sequence-there (v.sequence e - i) e i l (omega arith);
  }

-- good, and so accepted
module _ (v : NumberLists) {n : ℕ} (G : GoodNumbering v n) where
  good-largest : largest v.polygon v.edges ≡ n
  unfolding largest
  good-largest = ⊎_elim
      (λ h. let w = G.no_gap n (omega (arith, G.from_one 0 h)) (omega arith) in sym (largest-is v.polygon v.edges n w.0 (λ e l. (G.from_one e l).1) w.1 w.2))
      (λ h.
      let z : v.edges ≡ 0 = omega arith in
      let q : n ≡ 0 = ⊎_elim (λ g. let w = G.no_gap n g (omega arith) in absurd (omega (arith, w.1))) (λ g. omega arith) (lt-or-le 0 n) in
      ap (largest v.polygon) z ∙ sym q)
      (lt-or-le 0 v.edges)

  good-polygon : (e : ℕ) → e < v.edges → no_polygon v e ≡ false
  unfolding no_polygon
  good-polygon e l = ne_eqb (v.polygon e) 0 (λ q. omega (arith, G.from_one e l))

  good-once : (e : ℕ) → e < v.edges → pair_repeated v e ≡ false
  unfolding pair_repeated
  good-once e l = below_none _ e (λ f m. fails _ (λ t.
      let b = both_true (eqb (v.polygon f) (v.polygon e)) _ t in
      let q = G.no_repeat f e (omega arith) l (eqb-true _ _ b.0) (eqb-true _ _ b.1) in
      omega arith))

  before-it : (e : ℕ) → e < v.edges → ltb 0 (v.sequence e) ≡ true → some_below (one-less? v e) v.edges ≡ true
  before-it e l t =
      let h = ltb-true 0 (v.sequence e) t in
      let w = G.from_zero e (v.sequence e - 1) l (omega arith) in
      below-some _ v.edges w.0 w.1 (rw (eq-eqb _ _ w.2, eq-eqb (v.sequence w.0 + 1) (v.sequence e) (omega (arith, h, w.3))) refl)

  polygon-before : (e : ℕ) → e < v.edges → ltb 1 (v.polygon e) ≡ true → some_below (polygon-less? v e) v.edges ≡ true
  polygon-before e l t =
      let h = ltb-true 1 (v.polygon e) t in
      let w = G.no_gap (v.polygon e - 1) (omega arith) (omega (arith, G.from_one e l)) in
      below-some _ v.edges w.0 w.1 (eq-eqb (v.polygon w.0 + 1) (v.polygon e) (omega (arith, h, w.2)))

  good-no-hole : (e : ℕ) → e < v.edges → gap v e ≡ false
  unfolding gap
  good-no-hole e l = rw (and-not _ _ (before-it e l), and-not _ _ (polygon-before e l)) refl

  -- none of the three refuses
  pass : (test : NumberLists → ℕ → Bool) (refusal : ℕ → TurnRefusal) (rest : Result ℕ TurnRefusal) → ((e : ℕ) → e < v.edges → test v e ≡ false) → rest ≡ refuse_first_turn v test refusal rest
  pass test refusal rest h = rw (le-ltb (first (test v) v.edges) v.edges (omega (arith, first-none (test v) v.edges h)))

  good-answer : Ok n ≡ refuse_first_turn v no_polygon NoPolygon (refuse_first_turn v pair_repeated PairRepeated (refuse_first_turn v gap Gap (Ok (largest v.polygon v.edges))))
  good-answer =
      ap Ok (sym good-largest)
      ∙ pass gap Gap _ good-no-hole
      ∙ pass pair_repeated PairRepeated _ good-once
      ∙ pass no_polygon NoPolygon _ good-polygon

module _ (polygons sequences : List ℕ) (turns n : ℕ) where
  accepted-good : turned polygons sequences turns ≡ Ok n → GoodLists polygons sequences turns n
  unfolding turned lengths_differ number_lists
  accepted-good q =
      let w11 = not-refused (lengths_differ (length polygons) (length sequences) turns) TurnLengths _ q in
      let w12 = none-refused (number_lists polygons sequences) no_polygon NoPolygon _ w11.1 in
      let w13 = none-refused (number_lists polygons sequences) pair_repeated PairRepeated _ w12.1 in
      let w14 = none-refused (number_lists polygons sequences) gap Gap _ w13.1 in
      let size = neither-true _ _ w11.0 in
      let same = both_true (eqb (length polygons) (length sequences)) _ (not-false _ size.0) in
      let m : largest (λ e. get_or polygons e 0) (length polygons) ≡ n = cc w14.1 in
      record {
        sequences_too = sym (eqb-true _ _ same.0);
        turns_too = sym (eqb-true _ _ same.1);
        few = ltb-false most_edges _ size.1;
        numbering = rw m at (good (number_lists polygons sequences) (record { has_polygon = w12.0; once = w13.0; no_hole = w14.0 }));
      }

  good-accepted : GoodLists polygons sequences turns n → turned polygons sequences turns ≡ Ok n
  unfolding turned lengths_differ number_lists
  good-accepted G =
      rw (eq-eqb (length polygons) (length sequences) (sym G.sequences_too), eq-eqb (length polygons) turns (sym G.turns_too), le-ltb most_edges (length polygons) G.few)
      (sym (good-answer (number_lists polygons sequences) G.numbering))

pub accepts-exactly : (polygons sequences : List ℕ) (turns : ℕ) → AcceptsExactly polygons sequences turns (turned polygons sequences turns)
accepts-exactly polygons sequences turns n = (accepted-good polygons sequences turns n, good-accepted polygons sequences turns n)

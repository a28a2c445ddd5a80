-- What the two sweeps give is the numbering. Every edge stands in a closed outline at an index (SweepEnded), and by the law of the sweep down its answer is
-- that outline's number and that index. Outlines keep the order of joins, begin at their highest place and close in the order of their later top
-- edges; the one that closes last has number 1.
use mathlib.Core.Path.{◌≡◌, refl, ap, sym, ◌∙◌}
use mathlib.Core.Bool.{true}
use mathlib.Core.Logic.{inl, inr, ⊎_elim}
use Prim.Native.Nat.{ℕ, suc, ◌+◌, ◌-◌, ◌*◌, ◌≤◌, ◌<◌, max}
use native.Mathlib.Omega.{arith}
use lib.IntN.{pos}
use Rattle.laws.proofs.Pigeonhole.{pigeon}
use Rattle.sheet.specs.Joining.{Follows}
use Rattle.sheet.specs.Numbering.{Numbering}
use Rattle.sheet.proofs.Checked.{joins}
use Rattle.steps.specs.SweepDown.{natural_part, Pair, Reading}
use Rattle.hartley.proofs.Results.NearRun.{read_with}
use Rattle.hartley.proofs.Paths.Plan.{Plan, Lawful, height}
use Rattle.hartley.proofs.Paths.DownLaw.{of_edge, eval}
use Rattle.hartley.proofs.Paths.JournalRead.{reading-law, polygons-law}
use Rattle.hartley.proofs.Paths.Paths.{out, Chain}
use Rattle.hartley.proofs.Paths.Outlines.{mark, Outs}
use Rattle.hartley.proofs.Paths.JournalLinked.{to_place}
use Rattle.hartley.proofs.Seams.Seams.{walk-out}
use Rattle.hartley.proofs.Bounds.LengthsAndLevels.{count-every}
use Rattle.hartley.proofs.Step.StepsSeen.{Work}
use Rattle.hartley.proofs.Step.Given.{Setting, plan, laws}
use Rattle.hartley.proofs.Results.SweepEnded.{Finished}

module _ (A : Setting) (s : Work) (F : Finished A s) where
  abbrev edges : ℕ
  edges = A.sheet.edges

  -- an outline has no more edges than the list, and there are no more outlines
  pub index-small : (e k i : ℕ) → F.paths.spot e ≡ out k i → i < edges
  index-small e k i q =
      let w = F.outs.within e k i q in
      omega (arith, pigeon (λ a x. F.paths.spot x ≡ out k a) one (λ a. true) (λ x. true) (suc i) edges (λ a l t. let v = walk-out F.outs k a w.0 (omega (arith, w.1)) in (v.0, F.outs.real _ k a v.1, refl, v.1)), count-every (suc i), count-every edges)
    where
      one : (a b x : ℕ) → F.paths.spot x ≡ out k a → F.paths.spot x ≡ out k b → a ≡ b
      one a b x u v = cc

  pub rounds-few : F.paths.rounds.count ≤ edges
  rounds-few = omega (arith, pigeon (λ k x. F.paths.spot x ≡ out k 0) one (λ k. true) (λ x. true) F.paths.rounds.count edges (λ k l t. (F.paths.rounds.lead k, F.outs.real _ k 0 (F.outs.first k l), refl, F.outs.first k l)), count-every F.paths.rounds.count, count-every edges)
    where
      one : (a b x : ℕ) → F.paths.spot x ≡ out a 0 → F.paths.spot x ≡ out b 0 → a ≡ b
      one a b x u v = cc

module _ (A : Setting) (s : Work) (F : Finished A s) (table answers : ℕ → Pair) where
  abbrev sh : Plan
  sh = plan A

  abbrev N : Lawful sh
  N = laws A

  abbrev pub read : Reading (ℕ → Pair) (ℕ → Pair)
  read = read_with s.journal s.records table answers

  abbrev polygon : ℕ → ℕ
  polygon e = (read.answers e).polygon

  abbrev sequence : ℕ → ℕ
  sequence e = natural_part (read.answers e).sequence

  abbrev O : Outs sh F.moment F.paths
  O = F.outs

  abbrev C : Chain sh F.paths
  C = F.chain

  -- an edge's answer is its outline's number and its index there
  pub answer-is : (e k i : ℕ) → e < A.sheet.edges → F.paths.spot e ≡ out k i → read.answers e ≡ record { polygon = 1 + k; sequence = pos i }
  unfolding eval to_place
  answer-is e k i l q = reading-law s.journal s.records _ (of_edge e) ∙ ap (eval _ 1) (F.linked e l ∙ ap (to_place F.names F.paths) q)

  polygon-is : (e k i : ℕ) → F.paths.spot e ≡ out k i → polygon e ≡ suc k
  polygon-is e k i q = ap (λ v. v.polygon) (answer-is e k i (O.real e k i q) q) ∙ omega arith

  sequence_is : (e k i : ℕ) → F.paths.spot e ≡ out k i → sequence e ≡ i
  unfolding natural_part
  sequence_is e k i q = ap (λ v. natural_part v.sequence) (answer-is e k i (O.real e k i q) q)

  polygons_are : read.polygons ≡ F.paths.rounds.count
  polygons_are = polygons-law s.journal s.records _ ∙ omega (arith, F.count_is)

  is-lead : (e k i : ℕ) → F.paths.spot e ≡ out k i → sequence e ≡ 0 → e ≡ F.paths.rounds.lead k
  is-lead e k i q z = C.once _ _ (q ∙ ap (out k) (sym (sequence_is e k i q) ∙ z) ∙ sym (O.first k (O.within e k i q).0))

  follows_next : (e f : ℕ) → Follows A.sheet e f → f ≡ sh.next e
  follows_next e f a = (joins A.checked).only e f a

  -- an edge with 0 and the edge that it follows are the two top edges of their outline
  top-edges : (d e k i : ℕ) → Follows A.sheet d e → F.paths.spot e ≡ out k i → sequence e ≡ 0 → max d e ≡ mark F.paths k
  top-edges d e k i a q z =
      let l = (O.within e k i q).0 in
      let n = O.some k l in
      let r = O.real _ k (F.paths.rounds.edges_in k - 1) (O.last k (F.paths.rounds.edges_in k - 1) l (omega arith)) in
      let x = is-lead e k i q z in
      let y : d ≡ F.paths.rounds.rear k = N.one_to_one _ _ a.is_edge r (sym (follows_next d e a) ∙ x ∙ sym (O.wrap k l)) in
      omega (arith, x, y)

  -- of two outlines, the one whose later top edge stands later in the list has the smaller number
  later_first : (d e c f : ℕ) → Follows A.sheet d e → Follows A.sheet c f → sequence e ≡ 0 → sequence f ≡ 0 → max c f < max d e → polygon e < polygon f
  later_first d e c f p q z y h =
      let a = F.closed e p.next_is_edge in let b = F.closed f q.next_is_edge in
      let u = top-edges d e a.0 a.1 p a.2 z in let v = top-edges c f b.0 b.1 q b.2 y in
      let older : b.0 < a.0 → ⊥ = λ k. omega (arith, h, u, v, O.order b.0 a.0 k (O.within e a.0 a.1 a.2).0) in
      let same : b.0 ≡ a.0 → ⊥ = λ k. omega (arith, h, u, v, ap (mark F.paths) k) in
      omega (arith, older, same, polygon-is e a.0 a.1 a.2, polygon-is f b.0 b.1 b.2)

  shared-next : (e : ℕ) → e < A.sheet.edges → polygon (sh.next e) ≡ polygon e
  shared-next e l =
      let a = F.closed e l in
      ⊎_elim (λ q. polygon-is _ _ _ q ∙ sym (polygon-is _ _ _ a.2)) (λ q. polygon-is _ _ _ q ∙ sym (polygon-is _ _ _ a.2)) (C.around e a.0 a.1 a.2)

  -- no edge of a polygon leaves a higher place than its lead
  below-lead : (e f : ℕ) → e < A.sheet.edges → f < A.sheet.edges → sequence e ≡ 0 → polygon f ≡ polygon e → height sh (A.sheet.tail f) ≤ height sh (A.sheet.tail e)
  below-lead e f l m z q =
      let a = F.closed e l in let b = F.closed f m in
      let w : b.0 ≡ a.0 = omega (arith, polygon-is e a.0 a.1 a.2, polygon-is f b.0 b.1 b.2, q) in
      rw (is-lead e a.0 a.1 a.2 z, sym w) (O.high f b.0 b.1 b.2)

  pub gives-numbering : Numbering A.sheet polygon sequence read.polygons
  gives-numbering = record {
    from_one = λ e l. let a = F.closed e l in (omega (arith, polygon-is e a.0 a.1 a.2), omega (arith, polygon-is e a.0 a.1 a.2, polygons_are, (O.within e a.0 a.1 a.2).0));
    no_gap = λ k a b. let q = O.first (k - 1) (omega (arith, polygons_are)) in (F.paths.rounds.lead (k - 1), O.real _ (k - 1) 0 q, polygon-is _ (k - 1) 0 q ∙ omega arith);
    shared = λ e f a. ap polygon (follows_next e f a) ∙ shared-next e a.is_edge;
    top = below-lead;
    counts = λ e f a. let b = F.closed e a.is_edge in let n = ap sequence (follows_next e f a) in ⊎_elim
        (λ q. inl (n ∙ sequence_is _ _ _ q ∙ ap suc (sym (sequence_is e b.0 b.1 b.2))))
        (λ q. inr (n ∙ sequence_is _ _ _ q))
        (C.around e b.0 b.1 b.2);
    pairs = λ e f l m p q. let a = F.closed e l in let b = F.closed f m in
        let u : a.0 ≡ b.0 = omega (arith, polygon-is e a.0 a.1 a.2, polygon-is f b.0 b.1 b.2, p) in
        let v : a.1 ≡ b.1 = sym (sequence_is e a.0 a.1 a.2) ∙ q ∙ sequence_is f b.0 b.1 b.2 in
        C.once e f (a.2 ∙ same_spot u v ∙ sym b.2);
    later_top_first = later_first;
  }
    where
      same_spot : {k k' i i' : ℕ} → k ≡ k' → i ≡ i' → out k i ≡ out k' i'
      same_spot p q = cc

  -- the signed numbers are not below 0, and below the number of edges
  pub sequence-natural : (e : ℕ) → e < A.sheet.edges → (k : ℕ) × (k < A.sheet.edges) × ((read.answers e).sequence ≡ pos k)
  sequence-natural e l = let a = F.closed e l in (a.1, index-small A s F e a.0 a.1 a.2, ap (λ v. v.sequence) (answer-is e a.0 a.1 l a.2))

  -- 2E - P
  pub records-few : s.records + read.polygons ≤ 2 * A.sheet.edges
  records-few = omega (arith, F.few, F.count_is, polygons_are)

-- Steps 2 to 4 on the row of step 1, over the side that the edge works on: the edge put into the row, and the state after it where no row is met (`unmet`) and where
-- one is (`met`). The edge's own path is gone from now on. Rows are told by their births; what the table holds follows (`tie-slot`).
use mathlib.Core.Path.{◌≡◌, refl, ap, sym, ◌∙◌}
use mathlib.Core.Bool.{true, false}
use mathlib.Core.List.{List, ◌∷◌}
use mathlib.Core.Logic.{◌⊎◌, inl, inr, ⊎_elim}
use Prim.Native.Nat.{ℕ, suc, ◌+◌, ◌*◌, ◌≤◌, ◌<◌}
use native.Mathlib.Omega.{arith}
use lib.IntN.{ℤ}
use Rattle.laws.proofs.Deciding.{lt-or-le, eq-or-ne, not-both}
use Rattle.sheet.specs.Corners.{apart}
use Rattle.steps.specs.declared.Side.{Side}
use Rattle.steps.specs.declared.Side.TheVariants.{Rising, Falling}
use Rattle.steps.specs.Rows.{other_side, on, Branch, Row, LevelEdge}
use Rattle.steps.specs.SweepUp.{bottom, top, signed}
use Rattle.steps.specs.Plain.{with_branch}
use Rattle.hartley.proofs.Paths.Plan.{Plan, Lawful, height, tip}
use Rattle.hartley.proofs.Paths.DownLaw.{name_at, Rec, put}
use Rattle.hartley.proofs.Paths.TableWritten.{put-at, put-off}
use Rattle.hartley.proofs.Paths.Paths.{Owner, edge, row, same?, Paths, size}
use Rattle.hartley.proofs.Paths.PathGrown.{grow, Links, grow-rounds, grow-length, grow-behind, grow-end, grow-far, grow-fresh, grow-gone}
use Rattle.hartley.proofs.Paths.JournalLinked.{Naming, name_of, Linked, grow-linked}
use Rattle.hartley.proofs.Seams.Seams.{Seams, finish, finished_now}
use Rattle.hartley.proofs.Paths.RecordsCounted.{puts, closes, passed, row_bit, some?, some-yes, some_is, branches, branches-edge, branches-row}
use Rattle.hartley.proofs.Invariant.Invariant.{Time, Frame, side-cases, now-edge}
use Rattle.hartley.proofs.Invariant.EdgeAttached.{InHand, links, alive, not-x, rest, attach-frame, attach-unmet, attach-met}
use Rattle.hartley.proofs.Invariant.TableTied.{Table, marks_of, Told, row_lengths, State, Tied, Agree, remark-frame, remark-seams, agree-rows, names_apart}
use Rattle.hartley.proofs.Invariant.Branches.{Alike, lengthened, longer_branch, matched, matched-alike, matched-finished, on-other, on-this}
use Rattle.hartley.proofs.Step.RowOfStepOne.{HasTip, Pre, Slot, in-hand-of}

module _ {sh : Plan} (N : Lawful sh) {p m : ℕ} (E : Time sh p m) {Y : Table} {J : List Rec} {B : Naming} {G : Paths} (I : State sh p m Y J B G)
    {level : ℕ} {e : LevelEdge ℕ} {x : Owner} (P : Pre sh p m Y B G level e x) (s : Side) (goes : height sh (bottom s e) < height sh (top s e)) (c : ℕ) (R : Slot sh Y B G s level x c) where
  abbrev z : Owner
  z = row c

  abbrev pub H : Paths
  H = grow s G x z

  abbrev pub Y₂ : Table
  Y₂ = lengthened s Y c e

  U : InHand sh p m G (marks_of Y) s x
  U = in-hand-of P s goes

  up : (marks_of Y).own_level z ≡ suc ((marks_of Y).own_level x)
  unfolding marks_of
  up = ap suc R.level_is ∙ ap suc (sym P.level_is)

  other : x ≡ z → ⊥
  other h = omega (arith, ap (marks_of Y).own_level h, up)

  open-end : (marks_of Y).finished s z ≡ false
  unfolding marks_of
  open-end = R.unfinished

  lk : Links I.frame.chain x z other U.live s
  lk = links N E I.frame I.seams s x c U other open-end up R.place

  at_c : Y₂ c ≡ with_branch (Y c) s (longer_branch s (Y c) e)
  at_c = put-at Y c c _ refl

  pub old₂ : (b : ℕ) → (b ≡ c → ⊥) → Y₂ b ≡ Y b
  old₂ b d = put-off Y c b _ d

  pub alive₂ : 0 < size H z
  alive₂ = alive N E I.frame I.seams s x c U other open-end up R.place

  pub not-x₂ : (y : Owner) → 0 < size H y → y ≡ x → ⊥
  not-x₂ = not-x N E I.frame I.seams s x c U other open-end up R.place

  pub rest₂ : (y : Owner) → (y ≡ z → ⊥) → (y ≡ x → ⊥) → ((t : Side) → H.length t y ≡ G.length t y) × ((t : Side) → H.end t y ≡ G.end t y) × (size H y ≡ size G y)
  rest₂ = rest N E I.frame I.seams s x c U other open-end up R.place

  pub gone₂ : size H x ≡ 0
  gone₂ = grow-gone I.frame.chain x z other U.live s lk

  pub level-c : (Y₂ c).level ≡ level
  level-c = ap (λ (v : Row ℕ). v.level) at_c ∙ R.level_is

  pub unfinished-c : (on s (Y₂ c).branch).finished ≡ false
  unfinished-c = ap (λ (v : Row ℕ). (on s v.branch).finished) at_c ∙ ap (λ (b : Branch ℕ). b.finished) (on-this s (longer_branch s (Y c) e) (Y c).branch)

  pub other-z : (b : ℕ) → (b ≡ c → ⊥) → row b ≡ z → ⊥
  other-z b d h = d (cc)

  -- a live row other than c was live before
  pub was-live : (b : ℕ) → 0 < size H (row b) → (b ≡ c → ⊥) → 0 < size G (row b)
  was-live b l d = omega (arith, l, (rest₂ (row b) (other-z b d) (not-x₂ (row b) l)).2)

  -- the marks are as they were
  agree₂ : Agree H (marks_of Y) (marks_of Y₂)
  agree₂ = agree-rows H Y Y₂ (λ b l. by b (eq-or-ne b c))
    where
      by : (b : ℕ) → (b ≡ c) ⊎ (b ≡ c → ⊥) → ((Y₂ b).level ≡ (Y b).level) × ((t : Side) → (on t (Y₂ b).branch).finished ≡ (on t (Y b).branch).finished)
      by b (inr d) = let w = old₂ b d in (ap (λ (v : Row ℕ). v.level) w, λ t. ap (λ (v : Row ℕ). (on t v.branch).finished) w)
      by b (inl d) = rw d (ap (λ (v : Row ℕ). v.level) at_c, side-cases (λ t. (on t (Y₂ c).branch).finished ≡ (on t (Y c).branch).finished) s (unfinished-c ∙ sym R.unfinished) (ap (λ (v : Row ℕ). (on (other_side s) v.branch).finished) at_c ∙ ap (λ (b : Branch ℕ). b.finished) (on-other s (longer_branch s (Y c) e) (Y c).branch)))

  pub frame₂ : Frame sh p m H (marks_of Y₂)
  frame₂ = remark-frame agree₂ (attach-frame N E I.frame I.seams s x c U other open-end up R.place)

  -- what is told of live rows
  told-c : Told sh Y₂ B H c
  unfolding size
  told-c = record {
    length = side-cases (λ t. (on t (Y₂ c).branch).length ≡ H.length t z) s
        (ap (λ (v : Row ℕ). (on s v.branch).length) at_c ∙ ap (λ (b : Branch ℕ). b.length) (on-this s (longer_branch s (Y c) e) (Y c).branch) ∙ omega (arith, R.length s, P.length_is Rising, P.length_is Falling, grow-length I.frame.chain x z other U.live s))
        (ap (λ (v : Row ℕ). (on (other_side s) v.branch).length) at_c ∙ ap (λ (b : Branch ℕ). b.length) (on-other s (longer_branch s (Y c) e) (Y c).branch) ∙ R.length (other_side s) ∙ sym (grow-behind I.frame.chain x z other U.live s));
    tip_is = side-cases (λ t. (on t (Y₂ c).branch).tip ≡ tip sh t (H.end t z)) s
        (ap (λ (v : Row ℕ). (on s v.branch).tip) at_c ∙ ap (λ (b : Branch ℕ). b.tip) (on-this s (longer_branch s (Y c) e) (Y c).branch) ∙ sym (P.end_is s) ∙ ap (tip sh s) (sym (grow-end I.frame.chain x z other U.live s lk)))
        (ap (λ (v : Row ℕ). (on (other_side s) v.branch).tip) at_c ∙ ap (λ (b : Branch ℕ). b.tip) (on-other s (longer_branch s (Y c) e) (Y c).branch) ∙ far);
    room = rw level-c R.room;
    young = R.young;
  }
    where
      far : (on (other_side s) (Y c).branch).tip ≡ tip sh (other_side s) (H.end (other_side s) z)
      far = ⊎_elim
          (λ h. R.old h ∙ ap (tip sh (other_side s)) (sym (grow-far I.frame.chain x z other U.live s lk h)))
          (λ h. let d : size G z ≡ 0 = omega arith in R.fresh d ∙ ap (tip sh (other_side s)) (sym (grow-fresh I.frame.chain x z other U.live s lk d)))
          (lt-or-le 0 (size G z))

  pub told₂ : (b : ℕ) → 0 < size H (row b) → Told sh Y₂ B H b
  told₂ b l = ⊎_elim (λ q. rw q told-c) others (eq-or-ne b c)
    where
      others : (b ≡ c → ⊥) → Told sh Y₂ B H b
      others d =
          let v = rest₂ (row b) (other-z b d) (not-x₂ (row b) l) in
          let o = I.told b (was-live b l d) in
          let w = old₂ b d in
          record {
            length = λ t. ap (λ (v : Row ℕ). (on t v.branch).length) w ∙ o.length t ∙ sym (v.0 t);
            tip_is = λ t. ap (λ (v : Row ℕ). (on t v.branch).tip) w ∙ o.tip_is t ∙ ap (tip sh t) (sym (v.1 t));
            room = rw w o.room;
            young = o.young;
          }

  pub one-name₂ : (a b : ℕ) → 0 < size H (row a) → 0 < size H (row b) → B.name a ≡ B.name b → a ≡ b
  one-name₂ a b la lb q = ⊎_elim
      (λ f. ⊎_elim (λ g. f ∙ sym g) (λ g. f ∙ sym (R.alone b (was-live b lb g) (not-x₂ (row b) lb) (sym q ∙ ap B.name f))) (eq-or-ne b c))
      (λ f. ⊎_elim (λ g. R.alone a (was-live a la f) (not-x₂ (row a) la) (q ∙ ap B.name g) ∙ sym g) (λ g. I.one_name a b (was-live a la f) (was-live b lb g) q) (eq-or-ne b c))
      (eq-or-ne a c)

  -- what is paid: one branch of the row grows, and a row in hand had two
  grown : (t : Side) (i : ℕ) → some? (row_lengths H t i) ≡ true → ((t ≡ s) × (i ≡ c)) ⊎ ((some? (row_lengths G t i) ≡ true) × (row i ≡ x → ⊥))
  grown t i u = ⊎_elim this others (eq-or-ne i c)
    where
      long : 0 < row_lengths H t i
      long = some_is _ u

      f : row i ≡ x → ⊥
      f = not-x₂ (row i) (alive-by t long)
        where
          alive-by : (t : Side) → 0 < row_lengths H t i → 0 < size H (row i)
          alive-by Rising h = unfold size in omega (arith, h)
          alive-by Falling h = unfold size in omega (arith, h)

      this : i ≡ c → ((t ≡ s) × (i ≡ c)) ⊎ ((some? (row_lengths G t i) ≡ true) × (row i ≡ x → ⊥))
      this q =
          side-cases (λ t. some? (row_lengths H t i) ≡ true → ((t ≡ s) × (i ≡ c)) ⊎ ((some? (row_lengths G t i) ≡ true) × (row i ≡ x → ⊥))) s (λ v. inl (refl, q))
          (λ v. inr (ap some? (ap (λ b. G.length (other_side s) (row b)) q ∙ sym (grow-behind I.frame.chain x z other U.live s) ∙ ap (λ b. H.length (other_side s) (row b)) (sym q)) ∙ v, f)) t u

      others : (i ≡ c → ⊥) → ((t ≡ s) × (i ≡ c)) ⊎ ((some? (row_lengths G t i) ≡ true) × (row i ≡ x → ⊥))
      others d = inr (ap some? (sym ((rest₂ (row i) (other-z i d) f).0 t)) ∙ u, f)

  abbrev pub k₂ : ℤ
  k₂ = signed s ((on s (Y c).branch).length + on (other_side s) e.length)

  abbrev pub J₂ : List Rec
  J₂ = put (name_at level e.name) (B.name c) k₂ ∷ J

  paid₂ : 2 * passed J₂ + branches (row_lengths H) B.born ≤ puts J₂
  unfolding passed puts
  paid₂ = by x refl
    where
      bit_is : (y : Owner) → x ≡ y → row_bit (name_at level e.name) ≡ row_bit (name_of B y)
      bit_is y q = ap row_bit (sym P.named ∙ ap (name_of B) q)

      by : (y : Owner) → x ≡ y → 2 * (row_bit (name_at level e.name) + passed J) + branches (row_lengths H) B.born ≤ suc (puts J)
      by (edge a) q = omega (arith, bit_is (edge a) q, I.paid, branches-edge (row_lengths G) (row_lengths H) B.born s c (λ t i l u. ⊎_elim (λ a. inl a) (λ a. inr a.0) (grown t i u)))
      by (row d) q =
          let ld : 0 < size G (row d) = rw q at P.live in
          omega (
            arith,
            bit_is (row d) q,
            I.paid,
            branches-row (row_lengths G) (row_lengths H) B.born d (I.told d ld).young (λ t. some-yes _ ((I.frame.local d ld).peaked t (rw q at (P.both_finished t))).1) s c
                (λ t i l u. ⊎_elim (λ a. inl a) (λ a. inr (a.0, λ h. a.1 (ap row h ∙ sym q))) (grown t i u)),
          )

  shuts₂ : closes J₂ ≡ H.rounds.count
  unfolding closes
  shuts₂ = I.shuts ∙ ap (λ w. w.count) (sym (grow-rounds I.frame.chain x z other U.live s))

  entry-is : put (name_of B x) (B.name c) (signed s (G.length s z + G.length (other_side s) x)) ≡ put (name_at level e.name) (B.name c) k₂
  entry-is = λ i. put (P.named i) (B.name c) (signed s (sym (R.length s) i + P.length_is (other_side s) i))

  linked₂ : Linked sh J₂ B H
  linked₂ = rw entry-is at (grow-linked I.frame.chain B x c other U.live (names_apart I x P.live) s lk J I.linked)

  top_is : tip sh s (H.end s z) ≡ top s e
  top_is = ap (tip sh s) (grow-end I.frame.chain x z other U.live s lk) ∙ P.end_is s

  p-is : p ≡ top s e
  p-is = sym U.top ∙ P.end_is s

  -- step 4 with no row met
  pub unmet : ((b : ℕ) → 0 < size H (row b) → apart sh.list (top s e) ≡ false → ((Y₂ b).level ≡ level) × ((on (other_side s) (Y₂ b).branch).finished ≡ false) × ((on (other_side s) (Y₂ b).branch).tip ≡ top s e) → ⊥) → State sh p m Y₂ J₂ B H
  unmet none = record {
    frame = frame₂;
    seams = remark-seams agree₂ (attach-unmet N E I.frame I.seams s x c U other open-end up R.place no-match);
    told = told₂;
    one_name = one-name₂;
    linked = linked₂;
    paid = paid₂;
    shuts = shuts₂;
  }
    where
      no-match : (y : Owner) → 0 < size H y → apart sh.list p ≡ false → (marks_of Y).finished (other_side s) y ≡ false → (marks_of Y).own_level y ≡ suc ((marks_of Y).own_level x) → tip sh (other_side s) (H.end (other_side s) y) ≡ tip sh s (H.end s z) → ⊥
      no-match (edge a) l o f q t = not-both (I.frame.edge_finished a (other_side s)) f
      no-match (row b) l o f q t =
          let v : suc (Y₂ b).level ≡ suc level = unfold marks_of in (agree₂.levels (row b) l ∙ q ∙ ap suc P.level_is) in
          none b l (rw (sym p-is) o) (omega arith, (unfold marks_of in (agree₂.ends (row b) l (other_side s) ∙ f)), (told₂ b l).tip_is (other_side s) ∙ t ∙ top_is)

  -- step 4 with a row met: both ends are finished
  module _ (d : ℕ) (ld : 0 < size H (row d)) (W : HasTip (Y₂ d) (other_side s) level (top s e)) (o : apart sh.list (top s e) ≡ false) where
    abbrev pub Y₃ : Table
    Y₃ = matched s Y₂ c d

    pair : Frame sh p m H (finish s (marks_of Y) z (row d)) × Seams sh H (finish s (marks_of Y) z (row d))
    unfolding marks_of
    pair = attach-met N E I.frame I.seams s x c U other open-end up R.place (rw p-is o) d ld
        (sym (agree₂.levels (row d) ld) ∙ ap suc W.level_is ∙ ap suc (sym P.level_is))
        (sym ((told₂ d ld).tip_is (other_side s)) ∙ W.tip_is ∙ sym top_is)

    same₃ : (i : ℕ) → Alike (Y₃ i) (Y₂ i)
    same₃ i = matched-alike s Y₂ c d i

    agree₃ : Agree H (finish s (marks_of Y) z (row d)) (marks_of Y₃)
    unfolding marks_of
    agree₃ = record { levels = levels'; ends = ends'; edge_levels = λ a. refl; edge_ends = λ a t. refl }
      where
        levels' : (y : Owner) → 0 < size H y → (marks_of Y₃).own_level y ≡ (marks_of Y).own_level y
        levels' (edge a) l = refl
        levels' (row b) l = ap suc (same₃ b).level_is ∙ agree₂.levels (row b) l

        ends' : (y : Owner) → 0 < size H y → (t : Side) → (marks_of Y₃).finished t y ≡ (finish s (marks_of Y) z (row d)).finished t y
        ends' (edge a) l t = sym (now-edge s t (same? (edge a) z) (same? (edge a) (row d)) true refl)
        ends' (row b) l t =
            matched-finished s Y₂ c d b (same? (row b) z) (same? (row b) (row d)) (λ h. cc) (λ h. ap row h) (λ h. cc) (λ h. ap row h) t
            ∙ ap (finished_now s t (same? (row b) z) (same? (row b) (row d))) (agree₂.ends (row b) l t)

    pub met : State sh p m Y₃ J₂ B H
    met = record {
      frame = remark-frame agree₃ pair.0;
      seams = remark-seams agree₃ pair.1;
      told = λ b l. let w = told₂ b l in let a = same₃ b in record { length = λ t. a.length_is t ∙ w.length t; tip_is = λ t. a.tip_is t ∙ w.tip_is t; room = rw a.level_is w.room; young = w.young };
      one_name = one-name₂;
      linked = linked₂;
      paid = paid₂;
      shuts = shuts₂;
    }

  -- the table with the row of step 1, as the paths will be
  pub tie-slot : {n : ℕ} {T T₁ : Table} → Tied n T Y B G x → (r : ℕ) → B.name c ≡ r → r < n → T₁ r ≡ Y c → (T₁ r).used ≡ true → ((q : ℕ) → (q ≡ r → ⊥) → T₁ q ≡ T q) → Tied n T₁ Y B H x
  tie-slot {n} {T} {T₁} K r q rn at_r used_r others = record {
    of_live = λ b l f. ⊎_elim (λ d. rw d here) (there b l f) (eq-or-ne b c);
    to_live = λ i u. ⊎_elim (λ d. (c, alive₂, not-x₂ z alive₂, q ∙ sym d)) (back i u) (eq-or-ne i r);
    named = λ b l. ⊎_elim (λ d. omega (arith, ap B.name d ∙ q)) (λ d. K.named b (was-live b l d)) (eq-or-ne b c);
  }
    where
      here : ((T₁ (B.name c)).used ≡ true) × (T₁ (B.name c) ≡ Y c)
      here = (ap (λ i. (T₁ i).used) q ∙ used_r, ap T₁ q ∙ at_r)

      there : (b : ℕ) → 0 < size H (row b) → (row b ≡ x → ⊥) → (b ≡ c → ⊥) → ((T₁ (B.name b)).used ≡ true) × (T₁ (B.name b) ≡ Y b)
      there b l f d =
          let lg = was-live b l d in
          let w = K.of_live b lg f in
          let v = others (B.name b) (λ h. d (R.alone b lg f (h ∙ sym q))) in
          (ap (λ (u : Row ℕ). u.used) v ∙ w.0, v ∙ w.1)

      back : (i : ℕ) → (T₁ i).used ≡ true → (i ≡ r → ⊥) → (b : ℕ) × (0 < size H (row b)) × (row b ≡ x → ⊥) × (B.name b ≡ i)
      back i u d =
          let w = K.to_live i (sym (ap (λ (u : Row ℕ). u.used) (others i d)) ∙ u) in
          (w.0, omega (arith, w.1, (rest₂ (row w.0) (other-z w.0 (λ h. d (sym w.3 ∙ ap B.name h ∙ q))) w.2).2), w.2, w.3)

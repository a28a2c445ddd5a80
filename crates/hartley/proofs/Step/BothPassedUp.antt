-- The passes of step 4. When the first row of a match has been passed up, the second is as it was; so both passes together keep what one treatment keeps.
use mathlib.Core.Path.{◌≡◌, refl, ap, sym, ◌∙◌}
use mathlib.Core.List.{List}
use mathlib.Core.Logic.{⊎_elim}
use Prim.Native.Nat.{ℕ, suc, ◌≤◌, ◌<◌}
use native.Mathlib.Omega.{arith}
use Rattle.laws.proofs.Deciding.{eq-or-ne, not-both}
use Rattle.steps.specs.declared.Side.{Side}
use Rattle.steps.specs.Rows.{other_side, Row, LevelEdge}
use Rattle.steps.specs.SweepUp.{bottom, top}
use Rattle.hartley.proofs.Paths.Plan.{Plan, Lawful, height}
use Rattle.hartley.proofs.Paths.DownLaw.{Rec}
use Rattle.hartley.proofs.Paths.Paths.{Owner, edge, row, Paths, size}
use Rattle.hartley.proofs.Paths.JournalLinked.{Naming}
use Rattle.hartley.proofs.Invariant.Invariant.{Time}
use Rattle.hartley.proofs.Invariant.TableTied.{Table, State, not-edge}
use Rattle.hartley.proofs.Invariant.Branches.{matched, matched-alike, matched-same}
use Rattle.hartley.proofs.Invariant.LeftAlone.{Whole, WholeBy, SamePath, same_size, Kept, Passed}
use Rattle.hartley.proofs.Step.RowOfStepOne.{HasTip, Pre, Slot}
use Rattle.hartley.proofs.Step.StepsOnARow as steps
use Rattle.hartley.proofs.Step.StepsOnARow.{old₂, alive₂, rest₂, gone₂, level-c, unfinished-c, other-z, was-live, told₂}

module _ {sh : Plan} (N : Lawful sh) {p m : ℕ} (E : Time sh p m) {Y : Table} {J : List Rec} {B : Naming} {G : Paths} (I : State sh p m Y J B G)
    {level : ℕ} {e : LevelEdge ℕ} {x : Owner} (P : Pre sh p m Y B G level e x) (K : WholeBy level Y G) (s : Side) (goes : height sh (bottom s e) < height sh (top s e)) (c : ℕ) (R : Slot sh Y B G s level x c)
    (k : ℕ) (k-born : k ≤ B.born) (k_old : (b : ℕ) → b < k → size G (row b) ≡ 0 → b ≡ c → ⊥) where
  abbrev H : Paths
  H = steps.H N E I P s goes c R

  abbrev Y₂ : Table
  Y₂ = steps.Y₂ N E I P s goes c R

  lev-c : (Y₂ c).level ≡ level
  lev-c = level-c N E I P s goes c R

  low-ne : (b : ℕ) → suc (Y b).level ≤ level → b ≡ c → ⊥
  low-ne b h d = omega (arith, h, ap (λ i. (Y i).level) d, R.level_is)

  -- what was gone is gone
  dead₂ : (b : ℕ) → b < k → size G (row b) ≡ 0 → size H (row b) ≡ 0
  dead₂ b l h = (rest₂ N E I P s goes c R (row b) (other-z N E I P s goes c R b (k_old b l h)) (λ q. omega (arith, h, ap (size G) q, P.live))).2 ∙ h

  -- before anything is passed up
  pub kept₂ : Kept level x k Y Y₂ B B G H
  kept₂ = record {
    stays = record {
      rows = λ b l h d. let v = rest₂ N E I P s goes c R (row b) (other-z N E I P s goes c R b (low-ne b h)) d in (old₂ N E I P s goes c R b (low-ne b h), (v.0, v.1));
      back = λ b l h. let d : b ≡ c → ⊥ = λ d. omega (arith, h, ap (λ i. (Y₂ i).level) d, lev-c) in (was-live N E I P s goes c R b l d, old₂ N E I P s goes c R b d);
      names = λ b l. refl;
      dead = dead₂;
      grows = k-born;
      edges = λ a h. (rest₂ N E I P s goes c R (edge a) (λ q. not-edge c a (sym q)) h).2;
      whole = whole₂;
    };
    gone = gone₂ N E I P s goes c R;
  }
    where
      whole₂ : WholeBy level Y₂ H
      whole₂ b l w = ⊎_elim
          (λ d. absurd (not-both (w s) (ap (λ i. (Rattle.steps.specs.Rows.on s (Y₂ i).branch).finished) d ∙ unfinished-c N E I P s goes c R)))
          (λ d. let q = old₂ N E I P s goes c R b d in rw q (K b (was-live N E I P s goes c R b l d) (rw q at w)))
          (eq-or-ne b c)

  -- a row met: both ends are finished, and the two rows are passed up where they are whole
  module _ (d : ℕ) (ld : 0 < size H (row d)) (W : HasTip (Y₂ d) (other_side s) level (top s e)) where
    abbrev F : Table
    F = matched s Y₂ c d

    same-level : (b : ℕ) → (F b).level ≡ (Y₂ b).level
    same-level b = (matched-alike s Y₂ c d b).level_is

    pub level-of : (F c).level ≡ level
    level-of = same-level c ∙ lev-c

    pub level-of-met : (F d).level ≡ level
    level-of-met = same-level d ∙ W.level_is

    pub clean-met : WholeBy (suc level) F H
    clean-met b l w = ⊎_elim
        (λ q. omega (arith, ap (λ i. (F i).level) q, level-of))
        (λ q. ⊎_elim (λ f. omega (arith, ap (λ i. (F i).level) f, level-of-met)) (λ f. let g = matched-same s Y₂ c d b q f in omega (arith, same-level b, kept₂.stays.whole b l (rw g at w))) (eq-or-ne b d))
        (eq-or-ne b c)

    -- after the first pass this row is as it was
    pub second : (Y₃ : Table) (B₃ : Naming) (G₃ : Paths) → Passed (suc level) d F Y₃ B B₃ H G₃ → (c ≡ d → ⊥) → (Y₃ c ≡ F c) × (0 < size G₃ (row c)) × (B₃.name c ≡ B.name c)
    second Y₃ B₃ G₃ A f =
        let l = alive₂ N E I P s goes c R in
        let k = A.stays.rows c l (omega (arith, level-of)) (λ q. f (cc)) in
        (k.0, omega (arith, l, same_size H G₃ (row c) k.1), A.stays.names c (told₂ N E I P s goes c R c l).young)

    -- both passes together
    module _ (Y₃ Y₄ : Table) (B₃ B₄ : Naming) (G₃ G₄ : Paths) (A : Passed (suc level) d F Y₃ B B₃ H G₃) (D : Passed (suc level) c Y₃ Y₄ B₃ B₄ G₃ G₄) where
      -- a row of a low level
      module _ (b : ℕ) (l : 0 < size G (row b)) (h : suc (Y b).level ≤ level) (f : row b ≡ x → ⊥) where
        ne-c : b ≡ c → ⊥
        ne-c = low-ne b h

        same₂ : (Y₂ b ≡ Y b) × SamePath G H (row b)
        same₂ = kept₂.stays.rows b l h f

        ne-d : b ≡ d → ⊥
        ne-d q = omega (arith, h, ap (λ (v : Row ℕ). v.level) same₂.0, W.level_is, ap (λ i. (Y₂ i).level) q)

        same-F : F b ≡ Y b
        same-F = matched-same s Y₂ c d b ne-c ne-d ∙ same₂.0

        live-H : 0 < size H (row b)
        live-H = omega (arith, l, same_size G H (row b) same₂.1)

        pass₃ : (Y₃ b ≡ F b) × SamePath H G₃ (row b)
        pass₃ = A.stays.rows b live-H (omega (arith, h, ap (λ (v : Row ℕ). v.level) same-F)) (λ q. ne-d (cc))

        pass₄ : (Y₄ b ≡ Y₃ b) × SamePath G₃ G₄ (row b)
        pass₄ = D.stays.rows b (omega (arith, live-H, same_size H G₃ (row b) pass₃.1)) (omega (arith, h, ap (λ (v : Row ℕ). v.level) (pass₃.0 ∙ same-F))) (λ q. ne-c (cc))

        rows₄ : (Y₄ b ≡ Y b) × SamePath G G₄ (row b)
        rows₄ = (pass₄.0 ∙ pass₃.0 ∙ same-F, ((λ t. pass₄.1.0 t ∙ pass₃.1.0 t ∙ same₂.1.0 t), λ t. pass₄.1.1 t ∙ pass₃.1.1 t ∙ same₂.1.1 t))

      -- a row that is live afterwards, of the level or below
      module _ (b : ℕ) (l : 0 < size G₄ (row b)) (h : suc (Y₄ b).level ≤ suc level) where
        from₄ : (0 < size G₃ (row b)) × (Y₄ b ≡ Y₃ b)
        from₄ = D.stays.back b l h

        from₃ : (0 < size H (row b)) × (Y₃ b ≡ F b)
        from₃ = A.stays.back b from₄.0 (omega (arith, h, ap (λ (v : Row ℕ). v.level) from₄.1))

        was-F : Y₄ b ≡ F b
        was-F = from₄.1 ∙ from₃.1

      back₄ : (b : ℕ) → 0 < size G₄ (row b) → suc (Y₄ b).level ≤ level → (0 < size G (row b)) × (Y₄ b ≡ Y b)
      back₄ b l h =
          let k : suc (Y₄ b).level ≤ suc level = omega arith in
          let q = was-F b l k in
          let nc : b ≡ c → ⊥ = λ w. omega (arith, h, ap (λ (v : Row ℕ). v.level) q, ap (λ i. (F i).level) w, level-of) in
          let nd : b ≡ d → ⊥ = λ w. omega (arith, h, ap (λ (v : Row ℕ). v.level) q, ap (λ i. (F i).level) w, level-of-met) in
          let f = q ∙ matched-same s Y₂ c d b nc nd in
          let o = kept₂.stays.back b (from₃ b l k).0 (omega (arith, h, ap (λ (v : Row ℕ). v.level) f)) in
          (o.0, f ∙ o.1)

      whole₄ : WholeBy level Y₄ G₄
      whole₄ b l w = ⊎_elim at_c off-c (eq-or-ne b c)
        where
          low : suc (Y₄ b).level ≤ suc level
          low = D.stays.whole b l w

          at_c : b ≡ c → suc (Y₄ b).level ≤ level
          at_c q = let v : Whole (Y₃ c) = rw q at (rw (from₄ b l low).1 at w) in absurd (omega (arith, l, ap (λ i. size G₄ (row i)) q, D.self v))

          off-c : (b ≡ c → ⊥) → suc (Y₄ b).level ≤ level
          off-c f = ⊎_elim at-d off-d (eq-or-ne b d)
            where
              at-d : b ≡ d → suc (Y₄ b).level ≤ level
              at-d q = let v : Whole (F d) = rw q at (rw (was-F b l low) at w) in absurd (omega (arith, (from₄ b l low).0, ap (λ i. size G₃ (row i)) q, A.self v))

              off-d : (b ≡ d → ⊥) → suc (Y₄ b).level ≤ level
              off-d g =
                  let q = was-F b l low ∙ matched-same s Y₂ c d b f g in
                  omega (arith, ap (λ (v : Row ℕ). v.level) q, kept₂.stays.whole b (from₃ b l low).0 (rw q at w))

      -- the edge in hand is gone before the passes, and stays gone
      gone₄ : size G₄ x ≡ 0
      gone₄ = by x refl
        where
          by : (y : Owner) → x ≡ y → size G₄ x ≡ 0
          by (edge a) q =
              let u = D.stays.edges a (λ z. not-edge c a (sym z)) in
              let v = A.stays.edges a (λ z. not-edge d a (sym z)) in
              ap (size G₄) q ∙ u ∙ v ∙ ap (size H) (sym q) ∙ kept₂.gone
          by (row b) q =
              let young = (I.told b (rw q at P.live)).young in
              let z₃ = A.stays.dead b young (ap (size H) (sym q) ∙ kept₂.gone) in
              ap (size G₄) q ∙ D.stays.dead b (omega (arith, young, A.stays.grows)) z₃

      pub kept-both : Kept level x k Y Y₄ B B₄ G G₄
      kept-both = record {
        stays = record {
          rows = rows₄;
          back = back₄;
          names = λ b l. D.stays.names b (omega (arith, l, k-born, A.stays.grows)) ∙ A.stays.names b (omega (arith, l, k-born));
          dead = λ b l h. D.stays.dead b (omega (arith, l, k-born, A.stays.grows)) (A.stays.dead b (omega (arith, l, k-born)) (dead₂ b l h));
          grows = omega (arith, k-born, A.stays.grows, D.stays.grows);
          edges = λ a h. D.stays.edges a (λ q. not-edge c a (sym q)) ∙ A.stays.edges a (λ q. not-edge d a (sym q)) ∙ kept₂.stays.edges a h;
          whole = whole₄;
        };
        gone = gone₄;
      }

-- The look-up table in the rows' slice and the two answer lists hold what the plain tables hold, as long as the numbers given fit: rows that are lent,
-- edges of the list, polygons and sequence numbers of few bits.
use mathlib.Core.Path.{◌≡◌, sym, ◌∙◌}
use mathlib.Core.Logic.{⊎_elim}
use mathlib.Core.List.{List}
use Prim.Native.Nat.{ℕ, ◌*◌, ◌≤◌, ◌<◌}
use native.Mathlib.Omega.{arith}
use lib.IntN.{ℤ, pos}
use lib.ListN.{length, get_or, length-set}
use lib.Seq.{get_or-set_same, get_or-set_other}
use borrow.Author.Tests.{eq-eqb, ne_eqb}
use Rattle.laws.proofs.Deciding.{eq-or-ne}
use Rattle.steps.specs.SweepDown.{Pair}
use Rattle.steps.specs.Plain.{put, plain_tables}
use Rattle.steps.proofs.AlikeDown.{Holding, MatchDown}
use Rattle.steps.specs.SweepDown.{natural_part}
use Rattle.hartley.proofs.Results.NumbersFit.{Fits}
use Rattle.sweep.specs.Lookup.{Answers, numbers_in, given_in, answered_in, tables}
use Rattle.sweep.proofs.Given.{length-given, given-here, given-elsewhere}
use Rattle.sheet.specs.Amounts.{most_edges}
use Rattle.steps.specs.Swept.{numbers_per_row}

-- numbers that fit, in rows that are lent and for edges of the list
abbrev pub fitting : ℕ → ℕ → Holding
fitting n edges = record { Row = λ r. r < n; InRow = λ r v. (r < n) × Fits edges v; InAnswer = λ e v. (e < edges) × Fits edges v }

-- a slice of n rows holds a look-up table
pub record HoldsNumbers (n : ℕ) (t : ℕ → Pair) (s : List ℤ) : Type 0 where
  pub long : numbers_per_row * n ≤ length s
  pub row : (r : ℕ) → r < n → t r ≡ numbers_in s r

-- two lists hold the answers of the edges
pub record HoldsAnswers (edges : ℕ) (a : ℕ → Pair) (l : Answers) : Type 0 where
  pub long : (length l.polygons ≡ edges) × (length l.sequences ≡ edges)
  pub polygon : (e : ℕ) → e < edges → get_or l.polygons e 0 ≡ (a e).polygon
  pub sequence : (e : ℕ) → e < edges → get_or l.sequences e 0 ≡ natural_part (a e).sequence

given_holds : {n edges : ℕ} {t : ℕ → Pair} {s : List ℤ} → edges ≤ most_edges → HoldsNumbers n t s → (r : ℕ) (v : Pair) → (r < n) × Fits edges v → HoldsNumbers n (put t r v) (given_in s r v)
given_holds {n} {edges} {t} {s} few H r v (l, f) =
    record {
      long = omega (arith, H.long, length-given s r v);
      row = λ q h. ⊎_elim (λ e. rw (eq-eqb q r e, e) (sym (given-here s r v (omega (arith, H.long)) (omega (arith, f.polygon_small)) (small v.sequence f.sequence_is)))) (λ d. rw (ne_eqb q r d, given-elsewhere s r v q d) (H.row q h)) (eq-or-ne q r);
    }
  where
    small : (z : ℤ) → z ≡ pos f.at → lib.Signed.mag z < 2147483648
    small z e = rw e (omega (arith, f.at_small))

answered-holds : {edges : ℕ} {a : ℕ → Pair} {l : Answers} → HoldsAnswers edges a l → (e : ℕ) (v : Pair) → (e < edges) × Fits edges v → HoldsAnswers edges (put a e v) (answered_in l e v)
unfolding answered_in
answered-holds {edges} {a} {l} H e v (h, f) =
    record {
      long = (length-set l.polygons e v.polygon ∙ H.long.0, length-set l.sequences e (natural_part v.sequence) ∙ H.long.1);
      polygon = λ k m. ⊎_elim (λ q. rw (eq-eqb k e q, q) (get_or-set_same l.polygons e v.polygon 0 (omega (arith, H.long.0)))) (λ d. rw (ne_eqb k e d) (get_or-set_other l.polygons e k v.polygon 0 d ∙ H.polygon k m)) (eq-or-ne k e);
      sequence = λ k m. ⊎_elim (λ q. rw (eq-eqb k e q, q) (get_or-set_same l.sequences e (natural_part v.sequence) 0 (omega (arith, H.long.1)))) (λ d. rw (ne_eqb k e d) (get_or-set_other l.sequences e k (natural_part v.sequence) 0 d ∙ H.sequence k m)) (eq-or-ne k e);
    }

pub matched-down : (n edges : ℕ) → edges ≤ most_edges → MatchDown plain_tables tables (HoldsNumbers n) (HoldsAnswers edges) (fitting n edges)
unfolding plain_tables tables
matched-down n edges few = record { look = λ H r h. H.row r h; given = λ H r v h. given_holds few H r v h; answered = λ H e v h. answered-holds H e v h }

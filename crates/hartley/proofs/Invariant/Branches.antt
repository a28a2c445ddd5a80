-- What steps 3 and 4 do to a row's branches: one is lengthened, and the two ends of a match are finished. Everything else of a row stays; which ends are finished
-- after a match is told by the two rows' names, as the paths tell it by their owners.
use mathlib.Core.Path.{◌≡◌, refl, ap, sym, ◌∙◌}
use mathlib.Core.Bool.{Bool, true, false}
use mathlib.Core.Logic.{⊎_elim}
use Prim.Native.Nat.{ℕ, ◌+◌, ◌<◌}
use Rattle.laws.proofs.Deciding.{eq-or-ne}
use Rattle.steps.specs.declared.Side.{Side}
use Rattle.steps.specs.declared.Side.TheVariants.{Rising, Falling}
use Rattle.steps.specs.Rows.{other_side, Both, on, with, Branch, Row, LevelEdge}
use Rattle.steps.specs.SweepUp.{top}
use Rattle.steps.specs.Plain as plain
use Rattle.steps.specs.Plain.{with_branch, finished_branch}
use Rattle.hartley.proofs.Paths.DownLaw.{pick}
use Rattle.hartley.proofs.Paths.TableWritten.{put-at, put-off}
use Rattle.hartley.proofs.Seams.Seams.{finished_now}
use Rattle.hartley.proofs.Invariant.Invariant.{side-cases}
use Rattle.hartley.proofs.Paths.Paths.{Owner, row, Paths, size}
use Rattle.hartley.proofs.Paths.JournalLinked.{Naming}
use Rattle.hartley.proofs.Invariant.TableTied.{Table, Tied, tie-write}

-- step 3, and the ends that step 4 finishes
abbrev pub longer_branch : Side → Row ℕ → LevelEdge ℕ → Branch ℕ
longer_branch s v e = record { tip = top s e; length = (on s v.branch).length + e.length.falling + e.length.rising; finished = false }

abbrev pub lengthened : Side → Table → ℕ → LevelEdge ℕ → Table
lengthened s T r e = plain.put T r (with_branch (T r) s (longer_branch s (T r) e))

abbrev pub marked : Side → Row ℕ → Row ℕ
marked s v = with_branch v s (finished_branch (on s v.branch))

abbrev pub finishing : Side → Table → ℕ → Table
finishing s T r = plain.put T r (marked s (T r))

abbrev pub matched : Side → Table → ℕ → ℕ → Table
matched s T r q = finishing s (finishing (other_side s) T q) r

-- the table and the births written alike
module _ {n : ℕ} {T Y : Table} {B : Naming} {G : Paths} {x : Owner} (one_name : (b c : ℕ) → 0 < size G (row b) → 0 < size G (row c) → B.name b ≡ B.name c → b ≡ c) (K : Tied n T Y B G x) (c : ℕ) (l : 0 < size G (row c)) (d : row c ≡ x → ⊥) (r : ℕ) (q : B.name c ≡ r) where
  same_row : T r ≡ Y c
  same_row = ap T (sym q) ∙ (K.of_live c l d).1

  in_use : (Y c).used ≡ true
  in_use = sym (ap (λ (v : Row ℕ). v.used) (K.of_live c l d).1) ∙ (K.of_live c l d).0

  pub tie-lengthened : (s : Side) (e : LevelEdge ℕ) → Tied n (lengthened s T r e) (lengthened s Y c e) B G x
  tie-lengthened s e = rw same_row (tie-write one_name K c l d r q (with_branch (Y c) s (longer_branch s (Y c) e)) in_use)

  pub tie-finishing : (s : Side) → Tied n (finishing s T r) (finishing s Y c) B G x
  tie-finishing s = rw same_row (tie-write one_name K c l d r q (marked s (Y c)) in_use)

-- a row's branches
pub on-this : {A : Type 0} (s : Side) (a : A) (b : Both A) → on s (with s a b) ≡ a
on-this Rising a b = refl
on-this Falling a b = refl

pub on-other : {A : Type 0} (s : Side) (a : A) (b : Both A) → on (other_side s) (with s a b) ≡ on (other_side s) b
on-other Rising a b = refl
on-other Falling a b = refl

-- the same row but for finished ends
pub record Alike (v w : Row ℕ) : Type 0 where
  pub used : v.used ≡ w.used
  pub level_is : v.level ≡ w.level
  pub length_is : (s : Side) → (on s v.branch).length ≡ (on s w.branch).length
  pub tip_is : (s : Side) → (on s v.branch).tip ≡ (on s w.branch).tip

alike-trans : {u v w : Row ℕ} → Alike u v → Alike v w → Alike u w
alike-trans a b = record { used = a.used ∙ b.used; level_is = a.level_is ∙ b.level_is; length_is = λ s. a.length_is s ∙ b.length_is s; tip_is = λ s. a.tip_is s ∙ b.tip_is s }

marked-alike : (s : Side) (v : Row ℕ) → Alike (marked s v) v
marked-alike s v = record { used = refl; level_is = refl; length_is = side-cases (λ t. (on t (marked s v).branch).length ≡ (on t v.branch).length) s (ap (λ (b : Branch ℕ). b.length) (on-this s _ _)) (ap (λ (b : Branch ℕ). b.length) (on-other s _ _)); tip_is = side-cases (λ t. (on t (marked s v).branch).tip ≡ (on t v.branch).tip) s (ap (λ (b : Branch ℕ). b.tip) (on-this s _ _)) (ap (λ (b : Branch ℕ). b.tip) (on-other s _ _)) }

finishing-alike : (s : Side) (T : Table) (r i : ℕ) → Alike (finishing s T r i) (T i)
finishing-alike s T r i = ⊎_elim (λ e. rw (put-at T r i (marked s (T r)) e, e) (marked-alike s (T r))) (λ e. rw (put-off T r i (marked s (T r)) e) (record { used = refl; level_is = refl; length_is = λ t. refl; tip_is = λ t. refl })) (eq-or-ne i r)

pub matched-alike : (s : Side) (T : Table) (r q i : ℕ) → Alike (matched s T r q i) (T i)
matched-alike s T r q i = alike-trans (finishing-alike s (finishing (other_side s) T q) r i) (finishing-alike (other_side s) T q i)

pub matched-same : (s : Side) (T : Table) (r q i : ℕ) → (i ≡ r → ⊥) → (i ≡ q → ⊥) → matched s T r q i ≡ T i
matched-same s T r q i a b = put-off (finishing (other_side s) T q) r i _ a ∙ put-off T q i _ b

-- which ends are finished then
finishing-there : (s : Side) (T : Table) (r i : ℕ) → i ≡ r → (on s (finishing s T r i).branch).finished ≡ true
finishing-there s T r i e = ap (λ (v : Row ℕ). (on s v.branch).finished) (put-at T r i (marked s (T r)) e) ∙ ap (λ (b : Branch ℕ). b.finished) (on-this s _ _)

finishing-other : (s : Side) (T : Table) (r i : ℕ) → (on (other_side s) (finishing s T r i).branch).finished ≡ (on (other_side s) (T i).branch).finished
finishing-other s T r i = ⊎_elim (λ e. ap (λ (v : Row ℕ). (on (other_side s) v.branch).finished) (put-at T r i (marked s (T r)) e) ∙ ap (λ (b : Branch ℕ). b.finished) (on-other s _ _) ∙ ap (λ j. (on (other_side s) (T j).branch).finished) (sym e)) (λ e. ap (λ (v : Row ℕ). (on (other_side s) v.branch).finished) (put-off T r i (marked s (T r)) e)) (eq-or-ne i r)

finishing-off : (s : Side) (T : Table) (r i : ℕ) → (i ≡ r → ⊥) → (on s (finishing s T r i).branch).finished ≡ (on s (T i).branch).finished
finishing-off s T r i e = ap (λ (v : Row ℕ). (on s v.branch).finished) (put-off T r i (marked s (T r)) e)

finishing-other' : (s : Side) (T : Table) (q i : ℕ) → (on s (finishing (other_side s) T q i).branch).finished ≡ (on s (T i).branch).finished
finishing-other' Rising T q i = finishing-other Falling T q i
finishing-other' Falling T q i = finishing-other Rising T q i

now-yes : {P Q : Type 0} (s : Side) (d : Dec P) (d' : Dec Q) (b : Bool) → P → finished_now s s d d' b ≡ true
unfolding finished_now pick
now-yes Rising (yes p) d' b h = refl
now-yes Rising (no p) d' b h = absurd (p h)
now-yes Falling (yes p) d' b h = refl
now-yes Falling (no p) d' b h = absurd (p h)

now-no : {P Q : Type 0} (s : Side) (d : Dec P) (d' : Dec Q) (b : Bool) → (P → ⊥) → finished_now s s d d' b ≡ b
unfolding finished_now pick
now-no Rising (yes p) d' b h = absurd (h p)
now-no Rising (no p) d' b h = refl
now-no Falling (yes p) d' b h = absurd (h p)
now-no Falling (no p) d' b h = refl

now-foe : {P Q : Type 0} (s : Side) (d : Dec P) (d' : Dec Q) (b : Bool) → Q → finished_now s (other_side s) d d' b ≡ true
unfolding finished_now pick
now-foe Rising d (yes p) b h = refl
now-foe Rising d (no p) b h = absurd (p h)
now-foe Falling d (yes p) b h = refl
now-foe Falling d (no p) b h = absurd (p h)

now-no-foe : {P Q : Type 0} (s : Side) (d : Dec P) (d' : Dec Q) (b : Bool) → (Q → ⊥) → finished_now s (other_side s) d d' b ≡ b
unfolding finished_now pick
now-no-foe Rising d (yes p) b h = absurd (h p)
now-no-foe Rising d (no p) b h = refl
now-no-foe Falling d (yes p) b h = absurd (h p)
now-no-foe Falling d (no p) b h = refl

-- the names tell which ends these are, as the owners do
pub matched-finished : {P Q : Type 0} (s : Side) (T : Table) (r q i : ℕ) (d : Dec P) (d' : Dec Q) → (P → i ≡ r) → (i ≡ r → P) → (Q → i ≡ q) → (i ≡ q → Q)
    → (t : Side) → (on t (matched s T r q i).branch).finished ≡ finished_now s t d d' (on t (T i).branch).finished
matched-finished s T r q i d d' a a' c c' = side-cases (λ t. (on t (matched s T r q i).branch).finished ≡ finished_now s t d d' (on t (T i).branch).finished) s
    (⊎_elim
    (λ e. finishing-there s (finishing (other_side s) T q) r i e ∙ sym (now-yes s d d' _ (a' e)))
    (λ e. finishing-off s (finishing (other_side s) T q) r i e ∙ finishing-other' s T q i ∙ sym (now-no s d d' _ (λ h. e (a h))))
    (eq-or-ne i r))
    (finishing-other s (finishing (other_side s) T q) r i ∙ ⊎_elim
    (λ e. finishing-there (other_side s) T q i e ∙ sym (now-foe s d d' _ (c' e)))
    (λ e. finishing-off (other_side s) T q i e ∙ sym (now-no-foe s d d' _ (λ h. e (c h))))
    (eq-or-ne i q))

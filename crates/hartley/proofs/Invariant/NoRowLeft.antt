-- After the last edge no row is left. Every live row has an unfinished end, beyond which the seam shows an owner one level down; going down so would end at an
-- edge of the list, and all of them are treated. So every edge stands in a closed outline.
use mathlib.Core.Path.{◌≡◌, refl}
use mathlib.Core.Bool.{Bool, true, false}
use mathlib.Core.List.{List}
use Prim.Native.Nat.{ℕ, ◌<◌}
use native.Mathlib.Omega.{arith}
use Rattle.steps.specs.declared.Side.{Side}
use Rattle.steps.specs.declared.Side.TheVariants.{Rising, Falling}
use Rattle.steps.specs.Rows.{on}
use Rattle.hartley.proofs.Paths.Plan.{Plan, Lawful}
use Rattle.hartley.proofs.Paths.DownLaw.{Rec}
use Rattle.hartley.proofs.Paths.Paths.{Owner, edge, row, Spot, on as on_owner, out, off, Paths, size}
use Rattle.hartley.proofs.Paths.JournalLinked.{Naming}
use Rattle.hartley.proofs.Seams.FoundIsJoined.{none_left}
use Rattle.hartley.proofs.Invariant.Invariant.{Time, side-cases, frame_at}
use Rattle.hartley.proofs.Invariant.TableTied.{Table, State, marks_of}
use Rattle.hartley.proofs.Invariant.LeftAlone.{WholeBy}

module _ {sh : Plan} (N : Lawful sh) {p m : ℕ} (E : Time sh p m) {Y : Table} {J : List Rec} {B : Naming} {G : Paths} (I : State sh p m Y J B G) (all : (a : ℕ) → size G (edge a) ≡ 0) (K : WholeBy 0 Y G) where
  unfinished : (b : ℕ) → 0 < size G (row b) → (s : Side) × ((marks_of Y).finished s (row b) ≡ false)
  unfolding marks_of
  unfinished b l = by (on Rising (Y b).branch).finished (on Falling (Y b).branch).finished refl refl
    where
      by : (a c : Bool) → (on Rising (Y b).branch).finished ≡ a → (on Falling (Y b).branch).finished ≡ c → (s : Side) × ((on s (Y b).branch).finished ≡ false)
      by false c e f = (Rising, e)
      by true false e f = (Falling, f)
      by true true e f = absurd (omega (arith, K b l (side-cases (λ s. (on s (Y b).branch).finished ≡ true) Rising e f)))

  pub none-live : (x : Owner) → 0 < size G x → ⊥
  none-live x l = none_left N I.frame.chain I.seams (frame_at N E I.frame) all unfinished ((marks_of Y).own_level x) x refl l

  pub closed_all : (e : ℕ) → e < sh.list.edges → (k : ℕ) × (i : ℕ) × (G.spot e ≡ out k i)
  closed_all e h = by (G.spot e) refl
    where
      by : (s : Spot) → G.spot e ≡ s → (k : ℕ) × (i : ℕ) × (G.spot e ≡ out k i)
      by (out k i) q = (k, i, q)
      by (off k) q = absurd (omega (arith, I.frame.chain.void e k q))
      by (on_owner x i) q = absurd (none-live x (omega (arith, I.frame.chain.within e x i q)))

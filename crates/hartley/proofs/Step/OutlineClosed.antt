-- An edge in hand whose ends are equal closes an outline: its row's path is taken out, and the record is paid for by the row's two branches.
use mathlib.Core.Path.{◌≡◌, refl, ap, sym, ◌∙◌}
use mathlib.Core.Bool.{true}
use mathlib.Core.List.{List, ◌∷◌}
use Prim.Native.Nat.{ℕ, suc, ◌+◌, ◌*◌, ◌≤◌, ◌<◌}
use native.Mathlib.Omega.{arith}
use lib.IntN.{pos}
use Rattle.steps.specs.declared.Side.{Side}
use Rattle.steps.specs.declared.Side.TheVariants.{Rising, Falling}
use Rattle.steps.specs.Rows.{LevelEdge}
use Rattle.hartley.proofs.Paths.Plan.{Plan, Lawful, tip}
use Rattle.hartley.proofs.Paths.DownLaw.{of_row, Rec, close}
use Rattle.hartley.proofs.Paths.Paths.{Owner, edge, row, Paths, size}
use Rattle.hartley.proofs.Paths.PathClosed.{closed, size-other, size-gone}
use Rattle.hartley.proofs.Paths.JournalLinked.{Naming, name_of, close-linked}
use Rattle.hartley.proofs.Paths.RecordsCounted.{puts, closes, passed, some?, some-yes, some_is, branches, branches-lost}
use Rattle.hartley.proofs.Invariant.Invariant.{Time, link, same_view, stays, close-frame, close-seams}
use Rattle.hartley.proofs.Invariant.TableTied.{Table, State, Tied, row_lengths, names_apart}
use Rattle.hartley.proofs.Step.RowOfStepOne.{Pre}
use Rattle.hartley.proofs.Invariant.LeftAlone.{WholeBy, Kept, SamePath}

module _ {sh : Plan} (N : Lawful sh) {p m : ℕ} (E : Time sh p m) {Y : Table} {J : List Rec} {B : Naming} {G : Paths} (I : State sh p m Y J B G) {l c : ℕ} {e : LevelEdge ℕ} (P : Pre sh p m Y B G (suc l) e (row c)) (ends : e.tail ≡ e.head) where
  abbrev x : Owner
  x = row c

  abbrev pub X : Paths
  X = closed G x

  meets : tip sh Falling (G.end Falling x) ≡ tip sh Rising (G.end Rising x)
  meets = P.end_is Falling ∙ ends ∙ sym (P.end_is Rising)

  round-link : 0 < size G x → sh.next (G.end Rising x) ≡ G.end Falling x
  round-link = link N E I.frame I.seams c P.live P.both_finished meets

  view : (y : Owner) → (y ≡ x → ⊥) → SamePath G X y
  view = same_view N E I.frame I.seams c P.live P.both_finished meets

  stay : (y : Owner) → 0 < size X y → (y ≡ x → ⊥) × (0 < size G y)
  stay = stays N E I.frame I.seams c P.live P.both_finished meets

  -- the closed row had two branches
  lost : (t : Side) (i : ℕ) → i < B.born → some? (row_lengths X t i) ≡ true → (some? (row_lengths G t i) ≡ true) × (i ≡ c → ⊥)
  lost t i h u =
      let g : row i ≡ x → ⊥ = (stay (row i) (long t (some_is _ u))).0 in
      (ap some? (sym ((view (row i) g).0 t)) ∙ u, λ q. g (ap row q))
    where
      long : (t : Side) → 0 < row_lengths X t i → 0 < size X (row i)
      long Rising h = unfold size in omega (arith, h)
      long Falling h = unfold size in omega (arith, h)

  abbrev J' : List Rec
  J' = close (of_row e.name) (pos e.length.falling) ∷ J

  paid' : 2 * passed J' + branches (row_lengths X) B.born ≤ puts J'
  unfolding passed puts
  paid' = omega (
    arith,
    I.paid,
    branches-lost (row_lengths G) (row_lengths X) B.born c (I.told c P.live).young (λ t. some-yes _ ((I.frame.local c P.live).peaked t (P.both_finished t)).1) lost,
  )

  shuts' : closes J' ≡ X.rounds.count
  unfolding closes closed
  shuts' = ap suc I.shuts

  entry-is : close (name_of B x) (pos (G.length Falling x)) ≡ close (of_row e.name) (pos e.length.falling)
  entry-is = λ i. close (P.named i) (pos (P.length_is Falling i))

  pub closing : State sh p m Y J' B X
  closing = record {
    frame = close-frame N E I.frame I.seams c P.live P.both_finished meets;
    seams = close-seams N E I.frame I.seams c P.live P.both_finished meets;
    told = λ b h. let w = stay (row b) h in let v = view (row b) w.0 in let o = I.told b w.1 in record { length = λ s. o.length s ∙ sym (v.0 s); tip_is = λ s. o.tip_is s ∙ ap (tip sh s) (sym (v.1 s)); room = o.room; young = o.young };
    one_name = λ b d h k q. I.one_name b d (stay (row b) h).1 (stay (row d) k).1 q;
    linked = rw entry-is at (close-linked I.frame.chain B x round-link (names_apart I x P.live) J I.linked);
    paid = paid';
    shuts = shuts';
  }

  pub closing-tied : {n : ℕ} {T : Table} → Tied n T Y B G x → Tied n T Y B X x
  closing-tied K = record {
    of_live = λ b h d. K.of_live b (stay (row b) h).1 d;
    to_live = λ r u. let o = K.to_live r u in (o.0, omega (arith, o.1, size-other I.frame.chain x round-link (row o.0) o.2), o.2, o.3);
    named = λ b h. K.named b (stay (row b) h).1;
  }

  pub closing-kept : WholeBy (suc l) Y G → Kept (suc l) x B.born Y Y B B G X
  closing-kept K = record {
    stays = record {
      rows = λ b h k d. (refl, view (row b) d);
      back = λ b h k. ((stay (row b) h).1, refl);
      names = λ b h. refl;
      dead = λ b h d. gone-too b d;
      grows = omega arith;
      edges = λ a h. size-other I.frame.chain x round-link (edge a) h;
      whole = λ b h w. K b (stay (row b) h).1 w;
    };
    gone = size-gone I.frame.chain x round-link x refl;
  }
    where
      gone-too : (b : ℕ) → size G (row b) ≡ 0 → size X (row b) ≡ 0
      gone-too b h = size-other I.frame.chain x round-link (row b) (λ q. omega (arith, h, ap (size G) q, P.live)) ∙ h

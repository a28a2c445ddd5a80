-- The journal's places are the spots. The journal knows rows by their names, the paths by their births: `Naming` says which name a birth has. Names of live
-- owners differ, so a record moves the places of its own edge's path and of no other; that its edge's name may be its chain's row too does not matter.
use mathlib.Core.Path.{◌≡◌, refl, ap, sym, ◌∙◌}
use mathlib.Core.List.{List, ◌∷◌}
use Prim.Native.Nat.{ℕ, ◌+◌, ◌<◌}
use native.Mathlib.Omega.{arith}
use lib.IntN.{ℤ, pos, ◌+ℤ◌}
use Rattle.steps.specs.declared.Side.{Side}
use Rattle.steps.specs.declared.Side.TheVariants.{Rising, Falling}
use Rattle.steps.specs.Rows.{other_side}
use Rattle.steps.specs.SweepUp.{signed}
use Rattle.hartley.proofs.Paths.Plan.{Plan}
use Rattle.hartley.proofs.Paths.Differences.{diff, diff-eq, pos-diff, pos_plus, neg-plus}
use Rattle.hartley.proofs.Paths.DownLaw.{Name, of_edge, of_row, same-name?, Rec, put, close, Place, at, done, place, move}
use Rattle.hartley.proofs.Paths.Paths.{Owner, edge, row, same?, Spot, on, out, off, Paths, size, Chain, pick_yes, pick_no}
use Rattle.hartley.proofs.Paths.PathClosed.{closed, to-here, to-older, to-apart}
use Rattle.hartley.proofs.Paths.PathGrown.{grow, Links, grow-out, grow-length, grow-behind, grow-rest, this_index, child_index, grow-this, grow-child, grow-other}

-- which name a birth has, and how many births there were
pub record Naming : Type 0 where
  pub name : ℕ → ℕ
  pub born : ℕ

abbrev pub name_of : Naming → Owner → Name
name_of B (edge a) = of_edge a
name_of B (row b) = of_row (B.name b)

-- a spot as a place: its index less the falling length of its owner
unfoldable pub to_place : Naming → Paths → Spot → Place
to_place B G (on x i) = at (name_of B x) (diff i (G.length Falling x))
to_place B G (out k i) = done k (pos i)
to_place B G (off e) = done 0 (pos 0)

abbrev pub Linked : Plan → List Rec → Naming → Paths → Type 0
Linked sh J B G = (e : ℕ) → e < sh.list.edges → place J (of_edge e) ≡ to_place B G (G.spot e)

-- no other live owner has the name of x
abbrev pub Alone : Naming → Paths → Owner → Type 0
Alone B G x = (y : Owner) → 0 < size G y → (y ≡ x → ⊥) → name_of B y ≡ name_of B x → ⊥

move-child : (x : Name) (r : ℕ) (k i : ℤ) → move (put x r k) (at x i) ≡ at (of_row r) (k +ℤ i)
unfolding move
move-child x r k i = pick_yes (same-name? x x) _ _ refl

move-other : (x y : Name) (r : ℕ) (k i : ℤ) → (y ≡ x → ⊥) → move (put x r k) (at y i) ≡ at y i
unfolding move
move-other x y r k i h = pick_no (same-name? y x) _ _ h

move-done : (x : Name) (r : ℕ) (k : ℤ) (m : ℕ) (i : ℤ) → move (put x r k) (done m i) ≡ done m i
unfolding move
move-done x r k m i = refl

at-eq : (x : Name) {i j : ℤ} → i ≡ j → at x i ≡ at x j
at-eq x p = cc

-- a path put to a side of a row's
module _ {sh : Plan} {G : Paths} (C : Chain sh G) (B : Naming) (x : Owner) (b : ℕ) (n : x ≡ row b → ⊥) (live : 0 < size G x) (alone : Alone B G x) (s : Side) (link : Links C x (row b) n live s) where
  abbrev z : Owner
  z = row b

  abbrev H : Paths
  H = grow s G x z

  abbrev k : ℤ
  k = signed s (G.length s z + G.length (other_side s) x)

  abbrev entry : Rec
  entry = put (name_of B x) (B.name b) k

  child-index : (s : Side) (i : ℕ) → signed s (G.length s z + G.length (other_side s) x) +ℤ diff i (G.length Falling x) ≡ diff (child_index C x z n live s i) ((grow s G x z).length Falling z)
  unfolding size
  child-index Rising i = rw (grow-behind C x z n live Rising) (pos_plus (G.length Rising z + G.length Falling x) i (G.length Falling x) (size G z + i) (G.length Falling z) (omega arith))
  child-index Falling i = rw (grow-length C x z n live Falling) (neg-plus (G.length Falling z + G.length Rising x) i (G.length Falling x) i (G.length Falling z + size G x) (omega arith))

  this-index : (s : Side) (i : ℕ) → diff i (G.length Falling z) ≡ diff (this_index C x z n live s i) ((grow s G x z).length Falling z)
  this-index Rising i = rw (grow-behind C x z n live Rising) refl
  this-index Falling i = rw (grow-length C x z n live Falling) (diff-eq i (G.length Falling z) (size G x + i) (G.length Falling z + size G x) (omega arith))

  moved : (e : ℕ) (t : Spot) → G.spot e ≡ t → e < sh.list.edges → move entry (to_place B G t) ≡ to_place B H (H.spot e)
  unfolding to_place
  moved e (out m i) q l = rw (grow-out C x z n live s e m i q) (move-done (name_of B x) (B.name b) k m (pos i))
  moved e (off m) q l = absurd (omega (arith, C.void e m q))
  moved e (on y i) q l = by y q (same? y x) (same? y z)
    where
      by : (y : Owner) → G.spot e ≡ on y i → Dec (y ≡ x) → Dec (y ≡ z) → move entry (at (name_of B y) (diff i (G.length Falling y))) ≡ to_place B H (H.spot e)
      by y q (yes p) d = rw (p, grow-child C x z n live s link e i (q ∙ ap (λ w. on w i) p), move-child (name_of B x) (B.name b)) (at-eq (of_row (B.name b)) (child-index s i))
      by y q (no p) (yes d) =
          let f : name_of B z ≡ name_of B x → ⊥ = rw d at (alone y (omega (arith, C.within e y i q)) p) in
          rw (d, grow-this C x z n live s link e i (q ∙ ap (λ w. on w i) d), move-other (name_of B x) (name_of B z) (B.name b)) (at-eq (of_row (B.name b)) (this-index s i))
      by y q (no p) (no d) =
          let f : name_of B y ≡ name_of B x → ⊥ = alone y (omega (arith, C.within e y i q)) p in
          rw (grow-other C x z n live s link e y i d p q, move-other (name_of B x) (name_of B y) (B.name b)) (at-eq (name_of B y) (ap (diff i) (sym ((grow-rest C x z n live s link y d p).0 Falling))))

  pub grow-linked : (J : List Rec) → Linked sh J B G → Linked sh (entry ∷ J) B H
  unfolding place
  grow-linked J L e l = ap (move entry) (L e l) ∙ moved e (G.spot e) refl l

-- closing
done-eq : (k : ℕ) {i j : ℤ} → i ≡ j → done k i ≡ done k j
done-eq k p = cc

module _ {sh : Plan} {G : Paths} (C : Chain sh G) (B : Naming) (x : Owner) (link : 0 < size G x → sh.next (G.end Rising x) ≡ G.end Falling x) (alone : Alone B G x) where
  abbrev shut : Rec
  shut = close (name_of B x) (pos (G.length Falling x))

  length-kept : (y : Owner) → (y ≡ x → ⊥) → (closed G x).length Falling y ≡ G.length Falling y
  unfolding closed
  length-kept y d = simp pick_no

  moved_out : (e : ℕ) (t : Spot) → G.spot e ≡ t → e < sh.list.edges → move shut (to_place B G t) ≡ to_place B (closed G x) ((closed G x).spot e)
  unfolding to_place move
  moved_out e (out m i) q l = rw (to-older C x link e m i q) refl
  moved_out e (off m) q l = absurd (omega (arith, C.void e m q))
  moved_out e (on y i) q l = by y q (same? y x)
    where
      by : (y : Owner) → G.spot e ≡ on y i → Dec (y ≡ x) → move shut (at (name_of B y) (diff i (G.length Falling y))) ≡ to_place B (closed G x) ((closed G x).spot e)
      by y q (yes p) = rw (p, to-here C x link e i (q ∙ ap (λ w. on w i) p)) (pick_yes (same-name? (name_of B x) (name_of B x)) _ _ refl ∙ done-eq 0 (pos_plus (G.length Falling x) i (G.length Falling x) i 0 (omega arith) ∙ sym (pos-diff i)))
      by y q (no p) = rw (to-apart C x link e y i p q) (pick_no (same-name? (name_of B y) (name_of B x)) _ _ (alone y (omega (arith, C.within e y i q)) p) ∙ at-eq (name_of B y) (ap (diff i) (sym (length-kept y p))))

  pub close-linked : (J : List Rec) → Linked sh J B G → Linked sh (shut ∷ J) B (closed G x)
  unfolding place
  close-linked J L e l = ap (move shut) (L e l) ∙ moved_out e (G.spot e) refl l

-- The joining rule on a sound list whose corners alternate is the theory's, by sides: an arriving edge goes on on its own side if it can, and at a place that
-- is apart on the other one. So every edge is followed by exactly one edge, and follows at most one.
-- At a place the leaving edges are at most two and come from different sides. An edge that has none on its own side has one on the other,
-- since as many leave as arrive. Two edges with one follower would be two arriving, so two leave, and each has one on its own side.
use mathlib.Core.Path.{◌≡◌, refl, sym, ap, ◌∙◌}
use mathlib.Core.Bool.{Bool, true, false}
use mathlib.Core.Logic.{◌⊎◌, ⊎_elim, inl, inr}
use Prim.Native.Nat.{ℕ, ◌≤◌, ◌<◌}
use native.Mathlib.Omega.{arith}
use lib.IntN.{ℤ, ◌-ℤ◌, ◌*ℤ◌, *ℤ_comm, +ℤ_invr}
use Rattle.laws.proofs.Deciding.{lt-or-le, eq-or-ne, not-both, both_true}
use Rattle.sheet.specs.Turning.{Sign, minus, nought, plus, sign, Direction, cross, turn, sooner_by, sooner}
use Rattle.sheet.specs.Edges.{Drawing}
use Rattle.sheet.specs.Kinds.{arriving, leaving, From, below, above, other_from, same_from, comes, number_at}
use Rattle.sheet.specs.Corners.{along, four, of_kind, corner_at, apart}
use Rattle.sheet.specs.Sound.{Sound}
use Rattle.sheet.specs.Joining.{Follows}
use Rattle.sheet.proofs.AtAPlace.{side-or-other, not-that, not-other, same_self, same_false, one-there, two-there, there-one, there-other, of-kind, kind-there, four-there, two-each}

-- the side on which an arriving edge goes on if it can: its own, and at a place that is apart the other one
abbrev pub goes_on : Bool → From → From
goes_on false side = side
goes_on true side = other_from side

-- at each place with four edges: of the two that leave, one is met before the other exactly where it is on the side on which the arriving edge goes on
abbrev pub TurnsBySides : Drawing → Type 0
TurnsBySides sh = (p : ℕ) → four sh p ≡ true → (s t : From) → sooner (corner_at sh p arriving s) (corner_at sh p leaving t) (corner_at sh p leaving (other_from t)) ≡ same_from t (goes_on (apart sh p) s)

-- the theory's joins: f leaves where e arrives, on the side where e goes on, or nobody leaves on that side
pub record OnSide (sh : Drawing) (e f : ℕ) : Type 0 where
  pub is_edge : e < sh.edges
  pub next_is_edge : f < sh.edges
  pub meet : sh.tail f ≡ sh.head e
  pub rule : (comes sh leaving f ≡ goes_on (apart sh (sh.head e)) (comes sh arriving e))
      ⊎ ((k : ℕ) → k < sh.edges → sh.tail k ≡ sh.head e → comes sh leaving k ≡ goes_on (apart sh (sh.head e)) (comes sh arriving e) → ⊥)

-- nothing is met before itself
met-itself : (d b : Direction) → sooner d b b ≡ false
unfolding sooner turn cross sign
met-itself d b = ap (λ (z : ℤ). sooner_by (turn d b) (turn d b) (sign (z -ℤ b.up *ℤ b.right))) (*ℤ_comm b.right b.up) ∙ ap (λ (z : ℤ). sooner_by (turn d b) (turn d b) (sign z)) (+ℤ_invr (b.up *ℤ b.right)) ∙ none (turn d b)
  where
    none : (s : Sign) → sooner_by s s nought ≡ false
    none minus = refl
    none nought = refl
    none plus = refl

goes-on-inj : (a : Bool) (s t : From) → goes_on a s ≡ goes_on a t → s ≡ t
goes-on-inj a below below e = refl
goes-on-inj false below above e = cc
goes-on-inj true below above e = cc
goes-on-inj false above below e = cc
goes-on-inj true above below e = cc
goes-on-inj a above above e = refl

module _ {sh : Drawing} (S : Sound sh) where
  -- two edges that leave one place come from its two sides
  sides-differ : (e f : ℕ) → e < sh.edges → f < sh.edges → sh.tail f ≡ sh.tail e → (f ≡ e → ⊥) → comes sh leaving f ≡ comes sh leaving e → ⊥
  sides-differ e f el fl h d k = d (S.single leaving f e fl el h k)

  -- where j leaves, there is one on the side where e goes on, or j is alone
  module _ (e : ℕ) (el : e < sh.edges) where
    own : From
    own = goes_on (apart sh (sh.head e)) (comes sh arriving e)

    one-of-them : (j : ℕ) → j < sh.edges → sh.tail j ≡ sh.head e → (f : ℕ) × OnSide sh e f
    unfolding own
    one-of-them j jl h = ⊎_elim (λ k. (j, record { is_edge = el; next_is_edge = jl; meet = h; rule = inl k })) (λ d. ⊎_elim (alone d) (two d) (lt-or-le (number_at sh leaving (sh.head e)) 2)) (side-or-other (comes sh leaving j) own)
      where
        alone : (comes sh leaving j ≡ own → ⊥) → number_at sh leaving (sh.head e) < 2 → (f : ℕ) × OnSide sh e f
        alone d l = (
          j,
          record {
            is_edge = el;
            next_is_edge = jl;
            meet = h;
            rule = inr (λ k kl kh kk. ⊎_elim (λ q. d (ap (comes sh leaving) (sym q) ∙ kk)) (λ q. omega (arith, l, two-there sh leaving (sh.head e) j k jl kl h kh q)) (eq-or-ne k j));
          },
        )

        two : (comes sh leaving j ≡ own → ⊥) → 2 ≤ number_at sh leaving (sh.head e) → (f : ℕ) × OnSide sh e f
        two d l = let v = kind-there S leaving (sh.head e) l own in (v.0, record { is_edge = el; next_is_edge = v.1; meet = v.2; rule = inl v.3 })

    side-exists : (f : ℕ) × OnSide sh e f
    side-exists =
        let v = there-one sh leaving (sh.head e) (omega (arith, one-there sh arriving (sh.head e) e el refl, S.even (sh.head e))) in
        one-of-them v.0 v.1 v.2

  -- with another leaving edge, each side has one: the follower is on the own side
  on-own-side : (e g h : ℕ) → OnSide sh e g → h < sh.edges → sh.tail h ≡ sh.head e → (h ≡ g → ⊥) → comes sh leaving g ≡ goes_on (apart sh (sh.head e)) (comes sh arriving e)
  on-own-side e g h a hl m d =
      ⊎_elim (λ x. x)
      (λ none. absurd (sides-differ g h a.next_is_edge hl (m ∙ sym a.meet) d (not-that _ _ _ (none h hl m) (none g a.next_is_edge a.meet))))
      a.rule

  side-unique : (e f g : ℕ) → OnSide sh e f → OnSide sh e g → f ≡ g
  side-unique e f g a b = ⊎_elim (λ h. h) (λ d. absurd (two d)) (eq-or-ne f g)
    where
      two : (f ≡ g → ⊥) → ⊥
      two d = sides-differ g f b.next_is_edge a.next_is_edge (a.meet ∙ sym b.meet) d (on-own-side e f g a b.next_is_edge b.meet (λ q. d (sym q)) ∙ sym (on-own-side e g f b a.next_is_edge a.meet d))

  side-one-to-one : (e f g : ℕ) → OnSide sh e g → OnSide sh f g → e ≡ f
  side-one-to-one e f g a b = ⊎_elim (λ h. h) (λ d. absurd (two d)) (eq-or-ne e f)
    where
      meet : sh.head f ≡ sh.head e
      meet = sym b.meet ∙ a.meet

      two : (e ≡ f → ⊥) → ⊥
      two d =
          let arrive = two-there sh arriving (sh.head e) e f a.is_edge b.is_edge refl meet (λ q. d (sym q)) in
          let v = there-other sh leaving (sh.head e) g a.next_is_edge a.meet (omega (arith, arrive, S.even (sh.head e))) in
          let x = on-own-side e g v.0 a v.1 v.3 v.2 in
          let y = on-own-side f g v.0 b v.1 (v.3 ∙ sym meet) v.2 in
          let s = goes-on-inj (apart sh (sh.head e)) _ _ (sym x ∙ y ∙ ap (λ (p : ℕ). goes_on (apart sh p) (comes sh arriving f)) meet) in
          d (S.single arriving e f a.is_edge b.is_edge (sym meet) s)

module _ {sh : Drawing} (S : Sound sh) (T : TurnsBySides sh) where
  -- of two that leave where e arrives, g is met before f exactly where it is on the side where e goes on
  met-by-side : (e f g : ℕ) → e < sh.edges → f < sh.edges → g < sh.edges → sh.tail f ≡ sh.head e → sh.tail g ≡ sh.head e → (g ≡ f → ⊥) →
      sooner (along sh arriving e) (along sh leaving g) (along sh leaving f) ≡ same_from (comes sh leaving g) (goes_on (apart sh (sh.head e)) (comes sh arriving e))
  unfolding corner_at
  met-by-side e f g el fl gl fm gm d = rw (is-e, is-g, is_f) at (T (sh.head e) four-here (comes sh arriving e) (comes sh leaving g))
    where
      four-here : four sh (sh.head e) ≡ true
      four-here = four-there S (sh.head e) (two-there sh leaving (sh.head e) f g fl gl fm gm d)

      is-e : of_kind sh (sh.head e) arriving (comes sh arriving e) ≡ e
      is-e = of-kind S arriving (sh.head e) e el refl

      is-g : of_kind sh (sh.head e) leaving (comes sh leaving g) ≡ g
      is-g = of-kind S leaving (sh.head e) g gl gm

      other : comes sh leaving f ≡ other_from (comes sh leaving g)
      other = not-that (comes sh leaving f) (other_from (comes sh leaving g)) (comes sh leaving g) (λ q. d (S.single leaving g f gl fl (gm ∙ sym fm) (sym q))) (not-other (comes sh leaving g))

      is_f : of_kind sh (sh.head e) leaving (other_from (comes sh leaving g)) ≡ f
      is_f = ap (of_kind sh (sh.head e) leaving) (sym other) ∙ of-kind S leaving (sh.head e) f fl fm

  -- 02 M-104's rule is the theory's joins, one way and the other
  pub by_side_lem : (e f : ℕ) → Follows sh e f → OnSide sh e f
  by_side_lem e f a = record { is_edge = a.is_edge; next_is_edge = a.next_is_edge; meet = a.meet; rule = ⊎_elim alone two (lt-or-le (number_at sh leaving (sh.head e)) 2) }
    where
      own : From
      own = goes_on (apart sh (sh.head e)) (comes sh arriving e)

      alone : number_at sh leaving (sh.head e) < 2 → (comes sh leaving f ≡ own) ⊎ ((k : ℕ) → k < sh.edges → sh.tail k ≡ sh.head e → comes sh leaving k ≡ own → ⊥)
      alone l = ⊎_elim inl (λ d. inr (λ k kl kh kk. ⊎_elim (λ q. d (ap (comes sh leaving) (sym q) ∙ kk)) (λ q. omega (arith, l, two-there sh leaving (sh.head e) f k a.next_is_edge kl a.meet kh q)) (eq-or-ne k f))) (side-or-other (comes sh leaving f) own)

      two : 2 ≤ number_at sh leaving (sh.head e) → (comes sh leaving f ≡ own) ⊎ ((k : ℕ) → k < sh.edges → sh.tail k ≡ sh.head e → comes sh leaving k ≡ own → ⊥)
      two l =
          let g = there-other sh leaving (sh.head e) f a.next_is_edge a.meet l in
          let n : same_from (comes sh leaving g.0) own ≡ false = sym (met-by-side e f g.0 a.is_edge a.next_is_edge g.1 a.meet g.3 g.2) ∙ a.first_met g.0 g.1 g.3 in
          inl (not-that (comes sh leaving f) own (comes sh leaving g.0) (λ q. sides-differ S g.0 f g.1 a.next_is_edge (a.meet ∙ sym g.3) (λ p. g.2 (sym p)) q) (λ q. not-both (rw q (same_self (comes sh leaving g.0))) n))

  pub by-turning : (e f : ℕ) → OnSide sh e f → Follows sh e f
  by-turning e f a = record { is_edge = a.is_edge; next_is_edge = a.next_is_edge; meet = a.meet; first_met = λ g gl gm. ⊎_elim (λ q. rw q (met-itself (along sh arriving e) (along sh leaving f))) (λ d. later g gl gm d) (eq-or-ne g f) }
    where
      later : (g : ℕ) → g < sh.edges → sh.tail g ≡ sh.head e → (g ≡ f → ⊥) → sooner (along sh arriving e) (along sh leaving g) (along sh leaving f) ≡ false
      later g gl gm d =
          met-by-side e f g a.is_edge a.next_is_edge gl a.meet gm d
          ∙ same_false _ _ (λ q. sides-differ S f g a.next_is_edge gl (gm ∙ sym a.meet) d (q ∙ sym (on-own-side S e f g a gl gm d)))

  pub next-exists : (e : ℕ) → e < sh.edges → (f : ℕ) × Follows sh e f
  next-exists e l = let v = side-exists S e l in (v.0, by-turning e v.0 v.1)

  pub next-unique : (e f g : ℕ) → Follows sh e f → Follows sh e g → f ≡ g
  next-unique e f g a b = side-unique S e f g (by_side_lem e f a) (by_side_lem e g b)

  pub next-one-to-one : (e f g : ℕ) → Follows sh e g → Follows sh f g → e ≡ f
  next-one-to-one e f g a b = side-one-to-one S e f g (by_side_lem e g a) (by_side_lem f g b)

  -- where all four kinds meet and the place is not apart, of an arriving and a leaving edge on one side the second follows the first ..
  pub own-side-joins : (e f : ℕ) → e < sh.edges → f < sh.edges → apart sh (sh.head e) ≡ false → sh.tail f ≡ sh.head e → comes sh leaving f ≡ comes sh arriving e → Follows sh e f
  own-side-joins e f el fl a m s = by-turning e f (record { is_edge = el; next_is_edge = fl; meet = m; rule = inl (rw a s) })

  -- .. and where it is apart, one that leaves on the other side follows
  pub other-side-joins : (e : ℕ) → e < sh.edges → apart sh (sh.head e) ≡ true → (f : ℕ) × Follows sh e f × (comes sh leaving f ≡ other_from (comes sh arriving e))
  unfolding apart
  other-side-joins e el a =
      let v = kind-there S leaving (sh.head e) (two-each S (sh.head e) (both_true (four sh (sh.head e)) _ a).0 leaving) (other_from (comes sh arriving e)) in
      (v.0, by-turning e v.0 (record { is_edge = el; next_is_edge = v.1; meet = v.2; rule = inl (v.3 ∙ ap (λ (t : Bool). goes_on t (comes sh arriving e)) (sym a)) }), v.3)

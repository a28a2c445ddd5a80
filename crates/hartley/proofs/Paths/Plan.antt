-- A list of edges with its joins as functions, and what the theory asks of it, said over the side: an up edge climbs on the rising side, a down edge on the
-- falling side, and what holds at one holds at the other. A checked list has it all (`lawful`); nothing above this file looks at how edges join.
use mathlib.Core.Path.{◌≡◌, ap, sym, ◌∙◌}
use mathlib.Core.Bool.{true, false, cond}
use mathlib.Core.Logic.{⊎_elim}
use Prim.Native.Nat.{ℕ, ◌≤◌, ◌<◌}
use native.Mathlib.Omega.{arith}
use borrow.Author.Tests.{lt-ltb, le-ltb}
use Rattle.laws.proofs.Deciding.{lt-or-le}
use Rattle.steps.specs.declared.Side.{Side}
use Rattle.steps.specs.declared.Side.TheVariants.{Rising, Falling}
use Rattle.steps.specs.Rows.{other_side}
use Rattle.sheet.specs.Edges.{Drawing, top_height}
use Rattle.sheet.specs.Corners.{apart}
use Rattle.sheet.specs.Kinds.{Way, arriving, leaving, other_way, other_from, below, above, end_of, comes}
use Rattle.sheet.proofs.Checked.{Checked, tops-rise, Joins, joins}
use Rattle.sheet.proofs.Following.{own-side-joins, other-side-joins}

pub record Plan : Type 0 where
  pub list : Drawing
  pub next : ℕ → ℕ
  pub prev : ℕ → ℕ

-- how high a place lies
abbrev pub height : Plan → ℕ → ℕ
height sh p = sh.list.height p

-- the end of an edge on a side: the rising side's is its head
abbrev pub tip : Plan → Side → ℕ → ℕ
tip sh Rising e = sh.list.head e
tip sh Falling e = sh.list.tail e

-- an edge climbs on the rising side if it is an up edge, on the falling side if it is a down edge
abbrev pub Climbs : Plan → Side → ℕ → Type 0
Climbs sh s e = height sh (tip sh (other_side s) e) < height sh (tip sh s e)

-- beyond the end of e on a side lies f
abbrev pub Joined : Plan → Side → ℕ → ℕ → Type 0
Joined sh Rising e f = sh.next e ≡ f
Joined sh Falling e f = sh.next f ≡ e

pub record Lawful (sh : Plan) : Type 0 where
  -- places of one film and one height are one, an edge has two ends, and stays on its film
  pub flat : (a b : ℕ) → sh.list.film a ≡ sh.list.film b → height sh a ≡ height sh b → a ≡ b
  pub proper : (e : ℕ) → e < sh.list.edges → sh.list.tail e ≡ sh.list.head e → ⊥
  pub same_film : (e : ℕ) → e < sh.list.edges → sh.list.film (sh.list.tail e) ≡ sh.list.film (sh.list.head e)
  pub order : (e e' : ℕ) → e ≤ e' → e' < sh.list.edges → top_height sh.list e ≤ top_height sh.list e'
  -- the joins
  pub inside : (e : ℕ) → e < sh.list.edges → sh.next e < sh.list.edges
  pub joint : (e : ℕ) → e < sh.list.edges → sh.list.tail (sh.next e) ≡ sh.list.head e
  pub one_to_one : (e e' : ℕ) → e < sh.list.edges → e' < sh.list.edges → sh.next e ≡ sh.next e' → e ≡ e'
  pub before : (e : ℕ) → e < sh.list.edges → (sh.prev e < sh.list.edges) × (sh.next (sh.prev e) ≡ e)
  -- of the edges that climb on a side one has its top at a place, and one its bottom
  pub one_top : (s : Side) (e f : ℕ) → e < sh.list.edges → f < sh.list.edges → Climbs sh s e → Climbs sh s f → tip sh s e ≡ tip sh s f → e ≡ f
  pub one_bottom : (s : Side) (e f : ℕ) → e < sh.list.edges → f < sh.list.edges → Climbs sh s e → Climbs sh s f → tip sh (other_side s) e ≡ tip sh (other_side s) f → e ≡ f
  -- two that meet at their top join, and where the place is apart an edge that climbs to it goes on climbing
  pub peak : (s : Side) (a b : ℕ) → a < sh.list.edges → b < sh.list.edges → Climbs sh s a → Climbs sh (other_side s) b → tip sh (other_side s) b ≡ tip sh s a → apart sh.list (tip sh s a) ≡ false → Joined sh s a b
  pub split : (s : Side) (a b : ℕ) → a < sh.list.edges → b < sh.list.edges → Climbs sh s a → apart sh.list (tip sh s a) ≡ true → Joined sh s a b → Climbs sh s b

-- edges joined on a side meet there, and each has one beyond it
module _ {sh : Plan} (N : Lawful sh) where
  pub joined-one : (s : Side) (e e' f : ℕ) → e < sh.list.edges → e' < sh.list.edges → Joined sh s e f → Joined sh s e' f → e ≡ e'
  joined-one Rising e e' f l l' a b = N.one_to_one e e' l l' (a ∙ sym b)
  joined-one Falling e e' f l l' a b = sym a ∙ b

  pub joined-tip : (s : Side) (e f : ℕ) → e < sh.list.edges → f < sh.list.edges → Joined sh s e f → tip sh (other_side s) f ≡ tip sh s e
  joined-tip Rising e f l l' j = ap sh.list.tail (sym j) ∙ N.joint e l
  joined-tip Falling e f l l' j = sym (N.joint f l') ∙ ap sh.list.tail j

-- no edge is level
pub level-never : {sh : Plan} → Lawful sh → (s : Side) (e : ℕ) → e < sh.list.edges → height sh (tip sh (other_side s) e) ≡ height sh (tip sh s e) → ⊥
level-never {sh} N Rising e l q = N.proper e l (N.flat _ _ (N.same_film e l) q)
level-never {sh} N Falling e l q = N.proper e l (N.flat _ _ (N.same_film e l) (sym q))

pub uneven : {sh : Plan} → Lawful sh → (e : ℕ) → e < sh.list.edges → height sh (sh.list.tail e) ≡ height sh (sh.list.head e) → ⊥
uneven {sh} N e l q = N.proper e l (N.flat (sh.list.tail e) (sh.list.head e) (N.same_film e l) q)

abbrev pub plan_of : {sh : Drawing} → Checked sh → Plan
plan_of {sh} K = record { list = sh; next = (joins K).next; prev = (joins K).prev }

-- an edge whose other end is lower comes from below, any other from above
module _ (sh : Drawing) (w : Way) (e : ℕ) where
  from-below : sh.height (end_of sh (other_way w) e) < sh.height (end_of sh w e) → comes sh w e ≡ below
  unfolding comes
  from-below h = ap (λ t. cond t below above) (lt-ltb _ _ h)

  from-above : sh.height (end_of sh w e) ≤ sh.height (end_of sh (other_way w) e) → comes sh w e ≡ above
  unfolding comes
  from-above h = ap (λ t. cond t below above) (le-ltb _ _ h)

  is-above : comes sh w e ≡ above → sh.height (end_of sh w e) ≤ sh.height (end_of sh (other_way w) e)
  is-above h = ⊎_elim (λ l. let q = from-below l in let z : ◌≡◌ {A = ℕ} 0 1 = cc in absurd (omega arith)) (λ l. l) (lt-or-le _ _)

module _ {sh : Drawing} (K : Checked sh) where
  abbrev J : Joins sh
  J = joins K

  -- where the place is apart, who arrives from below is followed by one that leaves upwards
  goes-up : (a : ℕ) → a < sh.edges → comes sh arriving a ≡ below → apart sh (sh.head a) ≡ true → comes sh leaving (J.next a) ≡ above
  goes-up a l b o =
      let v = other-side-joins K.sound K.turning a l o in
      ap (comes sh leaving) (sym (J.only a v.0 v.1)) ∙ v.2 ∙ ap other_from b

  abbrev pl : Plan
  pl = plan_of K

  top_one : (s : Side) (e f : ℕ) → e < sh.edges → f < sh.edges → Climbs pl s e → Climbs pl s f → tip pl s e ≡ tip pl s f → e ≡ f
  top_one Rising e f l m r t q = K.sound.single arriving e f l m q (from-below sh arriving e r ∙ sym (from-below sh arriving f t))
  top_one Falling e f l m r t q = K.sound.single leaving e f l m q (from-below sh leaving e r ∙ sym (from-below sh leaving f t))

  bottom-one : (s : Side) (e f : ℕ) → e < sh.edges → f < sh.edges → Climbs pl s e → Climbs pl s f → tip pl (other_side s) e ≡ tip pl (other_side s) f → e ≡ f
  bottom-one Rising e f l m r t q = K.sound.single leaving e f l m q (from-above sh leaving e (omega arith) ∙ sym (from-above sh leaving f (omega arith)))
  bottom-one Falling e f l m r t q = K.sound.single arriving e f l m q (from-above sh arriving e (omega arith) ∙ sym (from-above sh arriving f (omega arith)))

  peaks : (s : Side) (a b : ℕ) → a < sh.edges → b < sh.edges → Climbs pl s a → Climbs pl (other_side s) b → tip pl (other_side s) b ≡ tip pl s a → apart sh (tip pl s a) ≡ false → Joined pl s a b
  peaks Rising a b l m r t q o = sym (J.only a b (own-side-joins K.sound K.turning a b l m o q (from-below sh leaving b t ∙ sym (from-below sh arriving a r))))
  peaks Falling a b l m r t q o = sym (J.only b a (own-side-joins K.sound K.turning b a m l (rw q o) (sym q) (from-below sh leaving a r ∙ sym (from-below sh arriving b t))))

  rises-on : (a : ℕ) → a < sh.edges → Climbs pl Rising a → apart sh (sh.head a) ≡ true → Climbs pl Rising (J.next a)
  rises-on a l r o =
      let u = is-above sh leaving (J.next a) (goes-up a l (from-below sh arriving a r) o) in
      let i = (J.follows a l).next_is_edge in
      let n : sh.height (sh.tail (J.next a)) ≡ sh.height (sh.head (J.next a)) → ⊥ = λ q. K.proper (J.next a) i (K.flat _ _ (K.one_film (J.next a) i) q) in
      omega (arith, u, n)

  splits : (s : Side) (a b : ℕ) → a < sh.edges → b < sh.edges → Climbs pl s a → apart sh (tip pl s a) ≡ true → Joined pl s a b → Climbs pl s b
  splits Rising a b l m r o j = rw j at (rises-on a l r o)
  splits Falling a b l m r o j = ⊎_elim (λ h. absurd (up h)) (λ h. omega (arith, h, n)) (lt-or-le (sh.height (sh.tail b)) (sh.height (sh.head b)))
    where
      meets : (sh).tail a ≡ sh.head b
      meets = ap sh.tail (sym j) ∙ (J.follows b m).meet

      up : sh.height (sh.tail b) < sh.height (sh.head b) → ⊥
      up h = let u : Climbs pl Rising a = rw j at (rises-on b m h (rw (sym meets) o)) in omega (arith, u, r)

      n : sh.height (sh.tail b) ≡ sh.height (sh.head b) → ⊥
      n q = K.proper b m (K.flat _ _ (K.one_film b m) q)

  pub lawful : Lawful (plan_of K)
  lawful = record {
    flat = K.flat;
    proper = K.proper;
    same_film = K.one_film;
    order = tops-rise sh K.order;
    inside = λ e l. (J.follows e l).next_is_edge;
    joint = λ e l. (J.follows e l).meet;
    one_to_one = J.one_to_one;
    before = J.before;
    one_top = top_one;
    one_bottom = bottom-one;
    peak = peaks;
    split = splits;
  }

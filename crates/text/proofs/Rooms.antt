-- A room for edges, line by line: an edge put at its place stands there, and nothing else has changed.
use mathlib.Core.Path.{◌≡◌, refl, sym, ◌∙◌}
use mathlib.Core.List.{List, [], ◌∷◌, append_assoc}
use mathlib.Core.Logic.{⊎_elim}
use Prim.Native.Nat.{ℕ, suc, ◌+◌, ◌*◌, ◌≤◌, ◌<◌}
use native.Mathlib.Omega.{arith}
use lib.IntN.{ℤ, pos}
use lib.ListN.{get_or, length, take, drop, set, length-set}
use borrow.Rule.Slice.PartMut.{put_mid}
use Rattle.std.proofs.lemmas.Slice.{put_mid-paste}
use Rattle.std.proofs.lemmas.List.Edits.{paste_all, sets-eq}
use lib.Seq.{get_or-set_same, get_or-set_other}
use Rattle.laws.proofs.Deciding.{lt-or-le}
use Rattle.sheet.specs.declared.Edge.{Edge}
use Rattle.sheet.specs.Edges.{edge_at}
use Rattle.text.specs.Lines.{edge_in}
use Rattle.text.specs.Texts.{line_of, placed, Filled}
use Rattle.sheet.specs.Amounts.{numbers_per_edge}

placed-length : (l : List ℤ) (n : ℕ) (e : Edge) → length (placed l n e) ≡ length l
placed-length l n e = simp length-set

-- an edge's five numbers written over those at its place
pub five-placed : (l : List ℤ) (n k : ℕ) (e : Edge) {w : List ℤ} → 5 * n + 4 < length l → k ≡ 5 → w ≡ e.tail.x ∷ e.tail.y ∷ e.head.x ∷ e.head.y ∷ e.film ∷ []
    → put_mid (5 * n) k l w ≡ placed l n e
five-placed l n k e {w} h q f =
    let i = 5 * n in
    let v = e.tail.x ∷ e.tail.y ∷ e.head.x ∷ e.head.y ∷ e.film ∷ [] in
    let one : suc i ≡ i + 1 = omega arith in
    let two : suc (suc i) ≡ i + 2 = omega arith in
    let three : suc (suc (suc i)) ≡ i + 3 = omega arith in
    let four : suc (suc (suc (suc i))) ≡ i + 4 = omega arith in
    put_mid-paste i k l w v 5 f (sym q) refl
    ∙ paste_all l i v 5 refl
    ∙ sym (append_assoc (take i l) v (drop (i + 5) l))
    ∙ sym (sets-eq v l i (omega arith))
    ∙ rw (← one, ← two, ← three, ← four)

-- away from the edge's place nothing changes
placed-other : (l : List ℤ) (n : ℕ) (e : Edge) (k : ℕ) → ((j : ℕ) → j < 5 → k ≡ numbers_per_edge * n + j → ⊥) → get_or (placed l n e) k (pos 0) ≡ get_or l k (pos 0)
placed-other l n e k h =
    let a : k ≡ numbers_per_edge * n → ⊥ = λ q. h 0 (omega arith) (omega arith) in
    let b : k ≡ numbers_per_edge * n + 1 → ⊥ = h 1 (omega arith) in
    let c : k ≡ numbers_per_edge * n + 2 → ⊥ = h 2 (omega arith) in
    let d : k ≡ numbers_per_edge * n + 3 → ⊥ = h 3 (omega arith) in
    let f : k ≡ numbers_per_edge * n + 4 → ⊥ = h 4 (omega arith) in
    rw (get_or-set_other, get_or-set_other, get_or-set_other, get_or-set_other, get_or-set_other)

placed-there : (l : List ℤ) (n : ℕ) (e : Edge) → numbers_per_edge * n + 4 < length l → edge_at (placed l n e) n ≡ e
unfolding edge_at
placed-there l n e h = λ i. record { tail = record { x = tail_x i; y = tail_y i }; head = record { x = head_x i; y = head_y i }; film = film i }
  where
    -- the list after the first, second and third number
    one : List ℤ
    one = set l (numbers_per_edge * n) e.tail.x

    two : List ℤ
    two = set one (numbers_per_edge * n + 1) e.tail.y

    three : List ℤ
    three = set two (numbers_per_edge * n + 2) e.head.x

    tail_x : get_or (placed l n e) (numbers_per_edge * n) (pos 0) ≡ e.tail.x
    tail_x =
        let b : numbers_per_edge * n ≡ numbers_per_edge * n + 1 → ⊥ = λ q. omega arith in
        let c : numbers_per_edge * n ≡ numbers_per_edge * n + 2 → ⊥ = λ q. omega arith in
        let d : numbers_per_edge * n ≡ numbers_per_edge * n + 3 → ⊥ = λ q. omega arith in
        let f : numbers_per_edge * n ≡ numbers_per_edge * n + 4 → ⊥ = λ q. omega arith in
        rw (get_or-set_other, get_or-set_other, get_or-set_other, get_or-set_other) (get_or-set_same l (numbers_per_edge * n) e.tail.x (pos 0) (omega arith))

    tail_y : get_or (placed l n e) (numbers_per_edge * n + 1) (pos 0) ≡ e.tail.y
    tail_y =
        let c : numbers_per_edge * n + 1 ≡ numbers_per_edge * n + 2 → ⊥ = λ q. omega arith in
        let d : numbers_per_edge * n + 1 ≡ numbers_per_edge * n + 3 → ⊥ = λ q. omega arith in
        let f : numbers_per_edge * n + 1 ≡ numbers_per_edge * n + 4 → ⊥ = λ q. omega arith in
        let g : numbers_per_edge * n + 1 < length one = simp length-set (omega arith) in
        rw (get_or-set_other, get_or-set_other, get_or-set_other, get_or-set_same)

    head_x : get_or (placed l n e) (numbers_per_edge * n + 2) (pos 0) ≡ e.head.x
    head_x =
        let d : numbers_per_edge * n + 2 ≡ numbers_per_edge * n + 3 → ⊥ = λ q. omega arith in
        let f : numbers_per_edge * n + 2 ≡ numbers_per_edge * n + 4 → ⊥ = λ q. omega arith in
        let g : numbers_per_edge * n + 2 < length two = simp length-set (omega arith) in
        rw (get_or-set_other, get_or-set_other, get_or-set_same)

    head_y : get_or (placed l n e) (numbers_per_edge * n + 3) (pos 0) ≡ e.head.y
    head_y =
        let f : numbers_per_edge * n + 3 ≡ numbers_per_edge * n + 4 → ⊥ = λ q. omega arith in
        let g : numbers_per_edge * n + 3 < length three = simp length-set (omega arith) in
        rw (get_or-set_other, get_or-set_same)

    film : get_or (placed l n e) (numbers_per_edge * n + 4) (pos 0) ≡ e.film
    film =
        let g : numbers_per_edge * n + 4 < length (set three (numbers_per_edge * n + 3) e.head.y) = simp length-set h in
        rw get_or-set_same

edge_same : (l m : List ℤ) (n : ℕ) → ((j : ℕ) → j < 5 → get_or l (numbers_per_edge * n + j) (pos 0) ≡ get_or m (numbers_per_edge * n + j) (pos 0)) → edge_at l n ≡ edge_at m n
unfolding edge_at
edge_same l m n h = λ i. record {
  tail = record { x = first i; y = h 1 (omega arith) i };
  head = record { x = h 2 (omega arith) i; y = h 3 (omega arith) i };
  film = h 4 (omega arith) i;
}
  where
    first : get_or l (numbers_per_edge * n) (pos 0) ≡ get_or m (numbers_per_edge * n) (pos 0)
    first = let e : numbers_per_edge * n + 0 ≡ numbers_per_edge * n = omega arith in rw e at (h 0 (omega arith))

pub nothing-filled : (s : List ℕ) (l : List ℤ) → Filled s 0 l l
nothing-filled s l = record { same_length = refl; edges = λ n m. absurd (omega arith); rest = λ k m. refl }

module _ (s : List ℕ) (n : ℕ) {before after : List ℤ} (f : Filled s n before after) (room : numbers_per_edge * n + 4 < length before) where
  pub one-more-filled : {e : Edge} → edge_in (line_of s n) ≡ e → Filled s (n + 1) before (placed after n e)
  one-more-filled {e} h = record { same_length = placed-length after n e ∙ f.same_length; edges = edges; rest = rest }
    where
      edges : (m : ℕ) → m < n + 1 → edge_at (placed after n e) m ≡ edge_in (line_of s m)
      edges m l = ⊎_elim
          (λ t. edge_same (placed after n e) after m (λ j g. placed-other after n e (numbers_per_edge * m + j) (λ i k q. omega arith)) ∙ f.edges m t)
          (λ t. let q : m ≡ n = omega arith in rw q (placed-there after n e (omega (arith, f.same_length)) ∙ sym h))
          (lt-or-le m n)

      rest : (k : ℕ) → numbers_per_edge * (n + 1) ≤ k → get_or (placed after n e) k (pos 0) ≡ get_or before k (pos 0)
      rest k l = placed-other after n e k (λ j g q. omega arith) ∙ f.rest k (omega arith)

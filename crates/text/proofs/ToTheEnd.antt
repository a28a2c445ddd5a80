-- Lines to the very end: where a text answers with edges, its last line ends where the text does.
-- Each well-formed line has one newline, its last byte. So n such lines have n newlines up to the place after them, and a text with no more lines ends there.
use mathlib.Core.Path.{◌≡◌, refl, sym, ap, ◌∙◌}
use mathlib.Core.Bool.{true, false}
use mathlib.Core.List.{List}
use mathlib.Core.Logic.{⊎_elim}
use Prim.Native.Nat.{ℕ, zero, suc, ◌+◌, ◌-◌, ◌*◌, ◌≤◌, ◌<◌}
use native.Mathlib.Omega.{arith}
use lib.Dec.{ltb}
use lib.ListN.{length}
use borrow.Author.Tests.{ltb-false, lt-ltb, eq-eqb}
use Rattle.laws.specs.Counting.{bit, count}
use Rattle.laws.proofs.Deciding.{lt-or-le, true-or-false, neither-true}
use Rattle.laws.proofs.Counting.{count-more, count_none, count-from, count-grows}
use Rattle.laws.proofs.First.{first-least}
use Rattle.laws.proofs.Searching.{NoneBelow}
use Rattle.sheet.specs.declared.Edge.{Edge}
use Rattle.std.specs.Prelude.{Ok}
use Rattle.text.specs.Said.{Said, read, refused}
use Rattle.text.specs.Numbers.{byte_at}
use Rattle.text.specs.Lines.{is_malformed}
use Rattle.text.specs.Texts.{newline_at, newlines, unended, line_count, line_start, line_of, first_malformed, too_much, answer_of, reading_of}
use Rattle.text.proofs.Bytes.{byte-stands}
use Rattle.text.proofs.EnoughRoom.{few-lines, few_bytes}
use Rattle.text.proofs.LineEnds.{Ended, line-is, line-ends}
use Rattle.sheet.specs.Amounts.{numbers_per_edge}

pub has-edge : (l : Said Edge) → is_malformed l ≡ false → (e : Edge) × (c : ℕ) × (l ≡ read e c)
unfolding is_malformed
has-edge (read e c) h = (e, c, refl)
has-edge (refused n) h = let z : ◌≡◌ {A = ℕ} 0 1 = cc in absurd (omega arith)

none-malformed : (s : List ℕ) → line_count s ≤ first_malformed s (line_count s) → NoneBelow (λ k. is_malformed (line_of s k)) (line_count s)
unfolding first_malformed
none-malformed s h k l = first-least (λ k. is_malformed (line_of s k)) (line_count s) k (omega arith)

module _ (s : List ℕ) where
  newline-there : (k : ℕ) → byte_at s k ≡ 10 → newline_at s k ≡ true
  unfolding newline_at
  newline-there k e = eq-eqb (byte_at s k) 10 e

  -- a line has one newline
  one-newline : (i : ℕ) {c : ℕ} → Ended s i c → count (newline_at s) c ≡ count (newline_at s) i + 1
  one-newline i {c} f = omega (
    arith,
    ap (count (newline_at s)) f.past,
    count-more (newline_at s) f.end,
    ap bit (newline-there f.end f.byte),
    count-from (newline_at s) i f.end f.run.on,
    count_none (λ k. newline_at s (i + k)) (f.end - i) (λ k l. f.run.clear (i + k) (omega arith) (omega (arith, f.run.on))),
  )

  -- n lines, up to the place after them
  record Lines (n : ℕ) : Type 0 where
    counted : count (newline_at s) (line_start s n) ≡ n
    within : line_start s n ≤ length s
    ended : 0 < line_start s n → newline_at s (line_start s n - 1) ≡ true

  sound-lines : (n : ℕ) → NoneBelow (λ k. is_malformed (line_of s k)) n → Lines n
  unfolding line_start line_of count
  sound-lines zero h = record { counted = refl; within = omega arith; ended = λ l. absurd (omega arith) }
  sound-lines (suc n) h =
      let v = has-edge (line_of s n) (h n (omega arith)) in
      let f = line-is s (line_start s n) v.2 in
      let p = line-ends s (line_start s n) v.2 in
      let d = sound-lines n (λ k l. h k (omega arith)) in
      let b = byte-stands s f.end (omega (arith, f.byte)) in
      let e : line_start s (suc n) - 1 ≡ f.end = omega (arith, f.past) in
      record {
        counted = omega (arith, ap (count (newline_at s)) p, one-newline (line_start s n) f, d.counted);
        within = omega (arith, f.past, b);
        ended = λ l. ap (newline_at s) e ∙ newline-there f.end f.byte;
      }

  -- the last byte ends a line, newline or not
  counted-but-last : 0 < length s → count (newline_at s) (length s) ≡ bit (newline_at s (length s - 1)) + count (newline_at s) (length s - 1)
  counted-but-last l =
      let e : length s - 1 + 1 ≡ length s = omega arith in
      sym (ap (count (newline_at s)) e) ∙ count-more (newline_at s) (length s - 1)

  lines-but-last : 0 < length s → line_count s ≡ count (newline_at s) (length s - 1) + 1
  unfolding line_count newlines unended
  lines-but-last l = rw (lt-ltb 0 (length s) l) (⊎_elim
      (λ e. rw e (omega (arith, counted-but-last l, ap bit e)))
      (λ e. rw e (omega (arith, counted-but-last l, ap bit e)))
      (true-or-false (newline_at s (length s - 1))))

  no_lines : length s ≡ 0 → line_count s ≡ 0
  unfolding line_count newlines unended count
  no_lines e = rw e

  -- no line is malformed: the lines end where the text does
  all_lines : NoneBelow (λ k. is_malformed (line_of s k)) (line_count s) → line_start s (line_count s) ≡ length s
  all_lines h =
      let d = sound-lines (line_count s) h in
      ⊎_elim
      (λ l. absurd (omega (arith, d.counted, lines-but-last (omega arith), count-grows (newline_at s) (line_start s (line_count s)) (length s - 1) (omega arith))))
      (λ l. omega (arith, d.within))
      (lt-or-le (line_start s (line_count s)) (length s))

  -- lines that end where the text does are all its lines
  pub lines_are : (n : ℕ) → NoneBelow (λ k. is_malformed (line_of s k)) n → line_start s n ≡ length s → line_count s ≡ n
  lines_are n h e =
      let d = sound-lines n h in
      let c : count (newline_at s) (length s) ≡ n = sym (ap (count (newline_at s)) e) ∙ d.counted in
      ⊎_elim
      (λ l.
      let g : newline_at s (length s - 1) ≡ true = rw e at (d.ended (omega arith)) in
      omega (arith, c, lines-but-last l, counted-but-last l, ap bit g))
      (λ l. let z : length s ≡ 0 = omega arith in omega (arith, c, no_lines z, ap (count (newline_at s)) z, none_yet))
      (lt-or-le 0 (length s))
    where
      none_yet : count (newline_at s) 0 ≡ 0
      none_yet = count_none (newline_at s) 0 (λ k l. absurd (omega arith))

  pub record ReadWhole (size n : ℕ) : Type 0 where
    pub lines : n ≡ line_count s
    pub few : n ≤ 512
    pub bytes : length s ≤ 20480
    pub room : numbers_per_edge * n ≤ size
    pub sound : NoneBelow (λ k. is_malformed (line_of s k)) n
    pub end : line_start s n ≡ length s

  read_whole : (size : ℕ) → too_much s size ≡ false → line_count s ≤ first_malformed s (line_count s) → ReadWhole size (line_count s)
  unfolding too_much
  read_whole size t m =
      let h = none-malformed s m in
      let v = neither-true _ _ t in
      record {
        lines = refl;
        few = few-lines s v.0;
        bytes = few_bytes s v.0;
        room = ltb-false size (numbers_per_edge * line_count s) v.1;
        sound = h;
        end = all_lines h;
      }

  pub to_the_end : (size n : ℕ) → reading_of s size ≡ Ok n → ReadWhole size n
  unfolding reading_of answer_of
  to_the_end size n h = ⊎_elim
      (λ t. let z : ◌≡◌ {A = ℕ} 0 1 = cc (rw t at h) in absurd (omega arith))
      (λ t. ⊎_elim
      (λ g. let z : ◌≡◌ {A = ℕ} 0 1 = cc (rw (t, g) at h) in absurd (omega arith))
      (λ g. let e : line_count s ≡ n = cc (rw (t, g) at h) in rw (← e) (read_whole size t (ltb-false _ _ g)))
      (true-or-false (ltb (first_malformed s (line_count s)) (line_count s))))
      (true-or-false (too_much s size))

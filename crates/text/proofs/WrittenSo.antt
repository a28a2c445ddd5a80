-- What is read is written: where a line or a whole text of edges is read, it is that edge or list as it is written in decimal.
-- With ReadBack: the texts that answer with edges are the written lists of up to 512 edges and 20,480 bytes that the room takes, each the text of its own list.
use mathlib.Core.Path.{◌≡◌, refl, sym, ap, ◌∙◌}
use mathlib.Core.Bool.{false}
use mathlib.Core.List.{List, [], ◌∷◌, ◌++◌, append_assoc, append-nil}
use mathlib.Core.Logic.{⊎_elim}
use Prim.Native.Nat.{ℕ, zero, suc, ◌+◌, ◌*◌, ◌≤◌}
use native.Mathlib.Omega.{arith}
use lib.IntN.{ℤ}
use lib.ListN.{length, length-append, get_or-append}
use lib.Seq.{get_or-append_seam, ext_get_or}
use Rattle.laws.proofs.Deciding.{lt-or-le}
use Rattle.text.specs.Numbers.{byte_at}
use Rattle.text.specs.Written.{numeral, Short, with_byte, written_line, written, ShortEdge, AllShort}
use Rattle.laws.proofs.Searching.{NoneBelow}
use Rattle.sheet.specs.declared.Edge.{Edge}
use Rattle.text.specs.Said.{read}
use Rattle.std.specs.Prelude.{Ok}
use Rattle.text.specs.Lines.{field_at, space, newline, line_at, is_malformed, edge_in}
use Rattle.text.specs.Texts.{line_start, line_of, reading_of}
use Rattle.text.proofs.Parts.{field-parts, line-parts}
use Rattle.text.proofs.LineEnds.{line-ends}
use Rattle.text.proofs.ToTheEnd.{has-edge, to_the_end}
use Rattle.text.proofs.Spelled.{Spelled, spelled-join, spelled-byte}
use Rattle.text.proofs.NumeralsStand.{number-written}
use Rattle.sheet.specs.Amounts.{numbers_per_edge}

-- a number that was read, with the byte after it
record FieldWritten (s : List ℕ) (b i : ℕ) (z : ℤ) (end : ℕ) : Type 0 where
  short : Short z
  there : Spelled s i (with_byte z b)
  past : end ≡ i + length (with_byte z b)

field-written : (s : List ℕ) (b i : ℕ) {z : ℤ} {c : ℕ} → field_at s b i ≡ read z c → FieldWritten s b i z c
unfolding with_byte
field-written s b i {z} h =
    let f = field-parts s b i h in
    let n = number-written s i f.number in
    record {
      short = n.short;
      there = spelled-join s i (numeral z) (b ∷ []) n.there (spelled-byte s _ b (rw n.past at f.byte));
      past = omega (arith, f.past, n.past, length-append (numeral z) (b ∷ []));
    }

record LineWritten (s : List ℕ) (i : ℕ) (e : Edge) (end : ℕ) : Type 0 where
  short : ShortEdge e
  there : Spelled s i (written_line e)
  past : end ≡ i + length (written_line e)

line-written : (s : List ℕ) (i : ℕ) {e : Edge} {c : ℕ} → line_at s i ≡ read e c → LineWritten s i e c
unfolding written_line
line-written s i {e} h =
    let l = line-parts s i h in
    let f = field-written s space i l.tail_x in
    let g = field-written s space _ l.tail_y in
    let k = field-written s space _ l.head_x in
    let m = field-written s space _ l.head_y in
    let n = field-written s newline _ l.film in
    let a = with_byte e.tail.x space in
    let b = with_byte e.tail.y space in
    let c = with_byte e.head.x space in
    let d = with_byte e.head.y space in
    let o = with_byte e.film newline in
    record {
      short = record { tail_x = f.short; tail_y = g.short; head_x = k.short; head_y = m.short; film = n.short };
      there = spelled-join s i a (b ++ (c ++ (d ++ o))) f.there (rw f.past at (
          spelled-join s _ b (c ++ (d ++ o)) g.there (rw g.past at (
          spelled-join s _ c (d ++ o) k.there (rw k.past at (
          spelled-join s _ d o m.there (rw m.past at n.there)))))));
      past = omega (
        arith,
        f.past,
        g.past,
        k.past,
        m.past,
        n.past,
        length-append a (b ++ (c ++ (d ++ o))),
        length-append b (c ++ (d ++ o)),
        length-append c (d ++ o),
        length-append d o,
      );
    }

-- the edges of the first n lines
lines_of : List ℕ → ℕ → List Edge
lines_of s zero = []
lines_of s (suc n) = lines_of s n ++ (edge_in (line_of s n) ∷ [])

written-more : (es : List Edge) (e : Edge) → written (es ++ (e ∷ [])) ≡ written es ++ written_line e
unfolding written
written-more [] e = append-nil (written_line e)
written-more (x ∷ es) e = rw (written-more es e, append_assoc)

short-more : (es : List Edge) (e : Edge) → AllShort es → ShortEdge e → AllShort (es ++ (e ∷ []))
short-more es e l h d n g = ⊎_elim
    (λ m. rw (get_or-append es (e ∷ []) d n m) (l d n m))
    (λ m. let q : n ≡ length es = omega (arith, length-append es (e ∷ [])) in rw (q, get_or-append_seam es e [] d) h)
    (lt-or-le n (length es))

-- the first n lines stand at the front of the text as they are written
record FrontWritten (s : List ℕ) (n : ℕ) : Type 0 where
  as_many : length (lines_of s n) ≡ n
  short : AllShort (lines_of s n)
  there : Spelled s 0 (written (lines_of s n))
  past : line_start s n ≡ length (written (lines_of s n))

line-stands : (s : List ℕ) (n : ℕ) → is_malformed (line_of s n) ≡ false → LineWritten s (line_start s n) (edge_in (line_of s n)) (line_start s (suc n))
unfolding line_start line_of edge_in
line-stands s n h =
    let v = has-edge (line_of s n) h in
    rw (ap edge_in v.2, ← line-ends s (line_start s n) v.2) (line-written s (line_start s n) v.2)

line-more : (s : List ℕ) (n : ℕ) → FrontWritten s n → is_malformed (line_of s n) ≡ false → FrontWritten s (suc n)
unfolding lines_of
line-more s n f h =
    let l = line-stands s n h in
    let e = edge_in (line_of s n) in
    let w = written-more (lines_of s n) e in
    let q : line_start s n ≡ 0 + length (written (lines_of s n)) = omega (arith, f.past) in
    record {
      as_many = omega (arith, length-append (lines_of s n) (e ∷ []), f.as_many);
      short = short-more (lines_of s n) e f.short l.short;
      there = rw w (spelled-join s 0 (written (lines_of s n)) (written_line e) f.there (rw q at l.there));
      past = omega (arith, l.past, f.past, ap length w, length-append (written (lines_of s n)) (written_line e));
    }

front-written : (s : List ℕ) (n : ℕ) → NoneBelow (λ k. is_malformed (line_of s k)) n → FrontWritten s n
unfolding lines_of line_start written
front-written s zero h = record { as_many = refl; short = λ d k l. absurd (omega arith); there = λ k l. absurd (omega arith); past = refl }
front-written s (suc n) h = line-more s n (front-written s n (λ k l. h k (omega arith))) (h n (omega arith))

pub written-so : (s : List ℕ) (room n : ℕ) → reading_of s room ≡ Ok n
    → (es : List Edge) × (length es ≡ n) × (n ≤ 512) × (length s ≤ 20480) × (numbers_per_edge * n ≤ room) × AllShort es × (written es ≡ s)
unfolding byte_at
written-so s room n h =
    let r = to_the_end s room n h in
    let f = front-written s n r.sound in (
      lines_of s n,
      f.as_many,
      r.few,
      r.bytes,
      r.room,
      f.short,
      ext_get_or 256 (written (lines_of s n)) s (sym f.past ∙ r.end) (λ k l. let q : 0 + k ≡ k = omega arith in sym (f.there k l) ∙ ap (byte_at s) q),
    )

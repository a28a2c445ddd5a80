-- The whole output: what is read of a text is what is printed for it; laid at the front of a slice, the answer tells whether it fits.
use mathlib.Core.Path.{◌≡◌, refl, sym, ap, ◌∙◌}
use mathlib.Core.Bool.{Bool, true, false, cond}
use mathlib.Core.List.{List, ◌++◌}
use Prim.Native.Nat.{ℕ, ◌*◌, ◌≤◌, ◌<◌}
use native.Mathlib.Omega.{arith}
use lib.IntN.{ℤ}
use lib.Dec.{leb}
use lib.ListN.{length, length-append, take, drop}
use lib.Seq.{take_all, take_at, drop_at}
use borrow.Author.Tests.{le-leb, lt-leb, leb-true}
use Rattle.std.specs.Prelude.{Ok, Err}
use Rattle.text.specs.declared.TextRefusal.{TextRefusal}
use Rattle.text.specs.declared.TextRefusal.TheVariants.{TooMuch, Malformed}
use Rattle.text.specs.Texts.{Reading, reading_of, text_number_of, text_place_of, lines_read, Filled, Outcome}
use Rattle.numbering.specs.Outcome.{outcome}
use Rattle.printing.specs.Output.{refused, outcome_lines, lent_for, reading_lines, printed}
use Rattle.printing.specs.declared.bytes.Output.{Output}
use Rattle.printing.specs.Laid.{Laid, Put, Printed, too_short, Page, InFront}
use Rattle.printing.proofs.Laying.{laid-in-front, laid-length}
use Rattle.printing.proofs.EdgesRead.{all_read, edges-are-read}
use Rattle.sheet.specs.Amounts.{numbers_per_edge}

module _ {s l y : List ℕ} {n : ℕ} (a : Laid l 0 (printed s) y n) where
  pub page-too-short : length y < n → Page s l y too_short
  page-too-short h = record {
    answer = rw (lt-leb (length (printed s)) (length l) (omega (arith, laid-length a, a.place)));
    bytes = laid-in-front a;
  }

  pub page-whole : n ≤ length y → Page s l y (Ok n)
  page-whole h = record {
    answer = rw (le-leb (length (printed s)) (length l) (omega (arith, laid-length a, a.place))) (ap Ok (omega (arith, a.place)));
    bytes = laid-in-front a;
  }

-- a page that is what an output was put on
pub put-on-page : {l y w : List ℕ} {x z : Output} → x.page.now ≡ l → x.at ≡ 0 → Put x w z → y ≡ z.page.now → Laid l 0 w y z.at
put-on-page e q a f = rw (f, ← e, ← q) a.laid

-- a text read into a room of 2,560 numbers
module _ (s : List ℕ) {before after : List ℤ} {reading : Reading} (room : length before ≡ 2560) (o : Outcome s before after reading) where
  answer : reading_of s 2560 ≡ reading
  answer = rw room at (sym o.answer)

  pub few-edges : {n : ℕ} → reading ≡ Ok n → (n ≤ 512) × (numbers_per_edge * n ≤ length after)
  few-edges {n} e =
      let few : n ≤ 512 = (all_read s n (answer ∙ e)).few in
      (few, omega (arith, o.filled.same_length))

  module _ {x z : Output} where
    so-printed : {r : Reading} → reading ≡ r → Put x (reading_lines s r) z → Put x (printed s) z
    unfolding printed
    so-printed e a = rw (answer ∙ e) a

    pub edges-printed : (n : ℕ) → reading ≡ Ok n → Put x (outcome_lines n (outcome (lent_for n (take (numbers_per_edge * n) after)))) z → Put x (printed s) z
    edges-printed n e a =
        let filled : Filled s n before after = rw (ap (lines_read s) room ∙ (all_read s n (answer ∙ e)).all) at o.filled in
        so-printed e (rw (edges-are-read s n filled (few-edges e).1) at a)

    pub refusal-printed : (r : TextRefusal) {number place : ℕ} → reading ≡ Err r → number ≡ text_number_of r → place ≡ text_place_of r → Put x (refused number place) z → Put x (printed s) z
    refusal-printed TooMuch e p q a = so-printed e (rw (← p, ← q) a)
    refusal-printed (Malformed line) e p q a = so-printed e (rw (← p, ← q) a)

-- two outcomes of printing one text into one slice are the same
pub one-page : {s before a b : List ℕ} {p q : Printed} → Page s before a p → Page s before b q → (p ≡ q) × (a ≡ b)
one-page x y = (x.answer ∙ sym y.answer, x.bytes ∙ sym y.bytes)

-- an answer that it fits: the output stands in front
in-front-where : (s : List ℕ) {before after : List ℕ} (n : ℕ) → Page s before after (Ok n) → (t : Bool) → leb (length (printed s)) (length before) ≡ t → InFront s before after n
in-front-where s n x false e = let z : ◌≡◌ {A = ℕ} 0 1 = cc (x.answer ∙ ap (λ t. cond t (Ok (length (printed s))) too_short) e) in absurd (omega arith)
in-front-where s {before} {after} n x true e =
    let count : n ≡ length (printed s) = cc (x.answer ∙ ap (λ t. cond t (Ok (length (printed s))) too_short) e) in
    let fits : length (printed s) ≤ length before = leb-true _ _ e in
    let whole : after ≡ printed s ++ drop n before = x.bytes ∙ (λ i. take_all (length before) (printed s) fits i ++ drop (sym count i) before) in
    record {
      count = count;
      room = omega (arith, ap length whole, length-append (printed s) (drop n before));
      output = ap (take n) whole ∙ take_at (printed s) (drop n before) n (sym count);
      rest = ap (drop n) whole ∙ drop_at (printed s) (drop n before) n (sym count);
    }

pub in-front : {s before after : List ℕ} {r : Printed} (n : ℕ) → Page s before after r → r ≡ Ok n → InFront s before after n
in-front {s} {before} n x e = in-front-where s n (rw e at x) (leb (length (printed s)) (length before)) refl

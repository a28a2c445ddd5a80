-- `is_numeral` is the test, refusal by refusal: no digit, more than seven, a zero in front, a minus in front of a zero.
use Rattle.std.proofs.Common.{◌≡◌, ◌≢◌, ◌≤◌, length, arith, rules, sym, ◌∙◌}
use borrow.Author.Tests.{le-leb, lt-leb, eq-eqb, ne_eqb, lt-ltb, le-ltb}
use Rattle.text.specs.Numbers.{byte_at, is_numeral, leading_zero, minus_zero}
use Rattle.text.proofs.Bytes.{byte-in}
use Rattle.text.proofs.is_numeral.Goals as goal

pub returns-then-is_empty : goal.returns-then-is_empty
unfolding is_numeral
returns-then-is_empty c =
    let none : length c.args.digits.now ≡ 0 = search rules in
    simp (lt-leb 1 (length c.args.digits.now) (omega arith))

pub returns-then-digits-gt7 : goal.returns-then-digits-gt7
unfolding is_numeral
returns-then-digits-gt7 c = simp (le-leb 1 (length c.args.digits.now) (omega arith), lt-leb (length c.args.digits.now) 7 (omega arith))

pub returns-then-digits-ne48 : goal.returns-then-digits-ne48
unfolding is_numeral leading_zero minus_zero
returns-then-digits-ne48 c =
    let some : 1 ≤ length c.args.digits.now = search rules in
    let lead : byte_at c.args.digits.now 0 ≢ 48 = λ e. c.if-digits-ne48.true (byte-in c.args.digits.now 0 (omega arith) ∙ e) in
    simp (le-leb 1 (length c.args.digits.now) some, le-leb (length c.args.digits.now) 7 c.if-digits-gt7.false, ne_eqb (byte_at c.args.digits.now 0) 48 lead)

pub returns-then-digits-gt1 : goal.returns-then-digits-gt1
unfolding is_numeral leading_zero minus_zero
returns-then-digits-gt1 c =
    let some : 1 ≤ length c.args.digits.now = omega arith in
    let lead : byte_at c.args.digits.now 0 ≡ 48 = sym (byte-in c.args.digits.now 0 (omega arith)) ∙ c.if-digits-ne48.false in
    simp (
      le-leb 1 (length c.args.digits.now) some,
      le-leb (length c.args.digits.now) 7 c.if-digits-gt7.false,
      eq-eqb (byte_at c.args.digits.now 0) 48 lead,
      lt-ltb 1 (length c.args.digits.now) c.if-digits-gt1.true,
    )

pub returns : goal.returns
unfolding is_numeral leading_zero minus_zero
returns c =
    let some : 1 ≤ length c.args.digits.now = search rules in
    let lead : byte_at c.args.digits.now 0 ≡ 48 = sym (byte-in c.args.digits.now 0 (omega arith)) ∙ c.if-digits-ne48.false in
    simp (
      le-leb 1 (length c.args.digits.now) some,
      le-leb (length c.args.digits.now) 7 c.if-digits-gt7.false,
      eq-eqb (byte_at c.args.digits.now 0) 48 lead,
      le-ltb 1 (length c.args.digits.now) c.if-digits-gt1.false,
    )

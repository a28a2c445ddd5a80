-- How bytes lie in the slice lent for them. Those behind its end are left out, and the place after the last byte counts them all the same.
use Rattle.std.specs.Prelude.{ℕ, ◌+◌, ◌≤◌, ◌≡◌, cond, List, ◌++◌, leb, length, take, drop, Result, Ok, Err}
use Rattle.std.proofs.lemmas.List.Edits.{sets}
use Rattle.printing.specs.declared.bytes.Output.{Output}
use Rattle.printing.specs.declared.TooShort.{TooShort}
use Rattle.printing.specs.Output.{printed}

-- the bytes w put at a place, one after the other, and the place after them
pub record Laid (before : List ℕ) (at : ℕ) (w after : List ℕ) (next : ℕ) : Type 0 where
  pub bytes : after ≡ sets before at w
  pub place : next ≡ at + length w

-- the bytes w put on a page at the place that it has reached
pub record Put (before : Output) (w : List ℕ) (after : Output) : Type 0 where
  pub same_page : after.page.ghost_name ≡ before.page.ghost_name
  pub laid : Laid before.page.now before.at w after.page.now after.at

-- how many bytes are printed, or that they do not fit
abbrev pub Printed : Type 0
Printed = Result ℕ TooShort

abbrev pub too_short : Printed
too_short = Err (record {})

-- What printing a text into a slice answers and leaves there: how many bytes are printed, or that they do not fit; those that fit, from the front, and
-- behind them what stood there before.
pub record Page (s before after : List ℕ) (r : Printed) : Type 0 where
  pub answer : r ≡ cond (leb (length (printed s)) (length before)) (Ok (length (printed s))) too_short
  pub bytes : after ≡ take (length before) (printed s) ++ drop (length (printed s)) before

-- Where it fits: the first n bytes are the output, and behind them nothing has changed.
pub record InFront (s before after : List ℕ) (n : ℕ) : Type 0 where
  pub count : n ≡ length (printed s)
  pub room : n ≤ length after
  pub output : take n after ≡ printed s
  pub rest : drop n after ≡ drop n before

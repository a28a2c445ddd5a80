-- The order of trying, read off `checked`: the lists' lengths are answered before the journal's, whatever the journal is, and both before any edge.
use Rattle.std.specs.Prelude.{Err}
use mathlib.Core.Path.{◌≡◌}
use mathlib.Core.Bool.{true, false}
use Rattle.sheet.specs.declared.Refusal.TheVariants.{ListsDiffer, JournalShort}
use Rattle.sheet.specs.Answers.{Call, not_whole, too_many, lists_differ, journal_short, checked}

module _ (c : Call) (whole : not_whole c ≡ false) (few : too_many c ≡ false) where
  pub three-before-four : lists_differ c ≡ true → checked c ≡ Err ListsDiffer
  unfolding checked
  three-before-four h = rw (whole, few, h)

  pub four-before-edges : lists_differ c ≡ false → journal_short c ≡ true → checked c ≡ Err JournalShort
  unfolding checked
  four-before-edges h k = rw (whole, few, h, k)

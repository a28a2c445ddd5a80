-- `Rising::are_whole` meets its contract: the first key is looked at, and each key beside the next.
use Rattle.std.proofs.Common.{refl, sym, rules, ◌∙◌}
use Rattle.std.proofs.lemmas.List.Sorted.{answers_always}
use Rattle.laws.proofs.Deciding.{not-both}
use Rattle.turns.specs.Keys.{goes_on}
use Rattle.turns.proofs.Whole.{whole-none, whole-asked}
use Rattle.turns.proofs.rising.Rising.are_whole.Goals as goal

pub returns-then-is_empty : goal.returns-then-is_empty
returns-then-is_empty c = (λ q. whole-none (search rules), λ w. refl)

pub returns-then-self-key : goal.returns-then-self-key
returns-then-self-key c = (λ q. absurd (not-both q refl), λ W. absurd (c.if-self-key.true (W.begins (search rules) ∙ sym c.key.ensures)))

pub returns : goal.returns
returns c = whole-asked (c.if-self-key.false ∙ c.key.ensures) (c.is_sorted_by.ensures.cases goes_on (answers_always _ _ _ (λ f a r g called. search rules)))

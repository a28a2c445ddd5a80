-- The two lists of a numbering as one.
use Rattle.sheet.specs.TurnList.{NumberLists, number_lists}
use Rattle.turns.specs.declared.numbers.Numbers.{Numbers}

abbrev pub lists_of : Numbers → NumberLists
lists_of s = number_lists s.polygons.now s.sequences.now

-- `ends::EdgeList::top_word` meets its contract.
use Rattle.std.proofs.Common.{refl, ◌∙◌, arith, rules}
use Rattle.ends.proofs.Fitting.{film-in}
use Rattle.ends.proofs.Words.{bit-from, ranks-small, top-told}
use Rattle.ends.proofs.EdgeList.top_word.Goals as goal

pub word-requires : goal.word-requires
word-requires c = let small = ranks-small c.args.self.fits c.args.e c.requires c.at-edge.ensures refl refl in
    (rw c.at-edge.ensures (film-in c.args.self.fits c.args.e c.requires), omega (arith, c.top_rank.ensures, small.0, small.1), search rules, omega (arith, c.args.self.fits.few))

pub returns : goal.returns
returns c = c.word.ensures
    ∙ rw (c.top_rank.ensures, c.from.ensures, bit-from _, c.tail_rank-tail.ensures, c.head_rank-head.ensures) (top-told c.args.self.fits c.args.e c.requires c.at-edge.ensures refl refl)

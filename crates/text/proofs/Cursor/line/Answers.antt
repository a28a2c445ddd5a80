-- `line` is five fields, each read or refused: the definition at each of the six ways out.
use Rattle.std.proofs.Common.{rules, ◌∙◌}
use Rattle.std.proofs.lemmas.Int.{to_z-of_z}
use mir.Syntax.{w32}
use mir.Val.{SFits}
use Rattle.text.specs.Said.{and_then}
use Rattle.text.specs.Lines.{line_at}
use Rattle.text.proofs.Cursor.line.Goals as goal

pub returns-in_err-tail_x-clause-says : goal.returns-in_err-tail_x-clause-says
unfolding line_at and_then
returns-in_err-tail_x-clause-says c = rw (c.from_residual.ensures, ← c.in_err-tail_x.ensures.says)

pub returns-in_err-tail_y-clause-says : goal.returns-in_err-tail_y-clause-says
unfolding line_at and_then
returns-in_err-tail_y-clause-says c =
    let tail_y = rw c.in_ok-tail_x.ensures.text at c.in_err-tail_y.ensures.says in
    rw (c.from_residual-in_err-tail_y.ensures, ← c.in_ok-tail_x.ensures.says, ← tail_y)

pub returns-in_err-head_x-clause-says : goal.returns-in_err-head_x-clause-says
unfolding line_at and_then
returns-in_err-head_x-clause-says c =
    let third = c.in_ok-tail_y.ensures.text ∙ c.in_ok-tail_x.ensures.text in
    let tail_y = rw c.in_ok-tail_x.ensures.text at c.in_ok-tail_y.ensures.says in
    let head_x = rw third at c.in_err-head_x.ensures.says in
    rw (c.from_residual-in_err-head_x.ensures, ← c.in_ok-tail_x.ensures.says, ← tail_y, ← head_x)

pub returns-in_err-head_y-clause-says : goal.returns-in_err-head_y-clause-says
unfolding line_at and_then
returns-in_err-head_y-clause-says c =
    let third = c.in_ok-tail_y.ensures.text ∙ c.in_ok-tail_x.ensures.text in
    let fourth = c.in_ok-head_x.ensures.text ∙ third in
    let tail_y = rw c.in_ok-tail_x.ensures.text at c.in_ok-tail_y.ensures.says in
    let head_x = rw third at c.in_ok-head_x.ensures.says in
    let head_y = rw fourth at c.in_err-head_y.ensures.says in
    rw (c.from_residual-in_err-head_y.ensures, ← c.in_ok-tail_x.ensures.says, ← tail_y, ← head_x, ← head_y)

pub returns-in_err-film-clause-says : goal.returns-in_err-film-clause-says
unfolding line_at and_then
returns-in_err-film-clause-says c =
    let third = c.in_ok-tail_y.ensures.text ∙ c.in_ok-tail_x.ensures.text in
    let fourth = c.in_ok-head_x.ensures.text ∙ third in
    let fifth = c.in_ok-head_y.ensures.text ∙ fourth in
    let tail_y = rw c.in_ok-tail_x.ensures.text at c.in_ok-tail_y.ensures.says in
    let head_x = rw third at c.in_ok-head_x.ensures.says in
    let head_y = rw fourth at c.in_ok-head_y.ensures.says in
    let film = rw fifth at c.in_err-film.ensures.says in
    rw (c.from_residual-in_err-film.ensures, ← c.in_ok-tail_x.ensures.says, ← tail_y, ← head_x, ← head_y, ← film)

pub returns-clause-says : goal.returns-clause-says
unfolding line_at and_then
returns-clause-says c =
    let tail_x_fits : SFits w32 c.in_ok-tail_x.tail_x = search rules in
    let tail_y_fits : SFits w32 c.in_ok-tail_y.tail_y = search rules in
    let head_x_fits : SFits w32 c.in_ok-head_x.head_x = search rules in
    let head_y_fits : SFits w32 c.in_ok-head_y.head_y = search rules in
    let film_fits : SFits w32 c.in_ok-film.film = search rules in
    let third = c.in_ok-tail_y.ensures.text ∙ c.in_ok-tail_x.ensures.text in
    let fourth = c.in_ok-head_x.ensures.text ∙ third in
    let fifth = c.in_ok-head_y.ensures.text ∙ fourth in
    let tail_y = rw c.in_ok-tail_x.ensures.text at c.in_ok-tail_y.ensures.says in
    let head_x = rw third at c.in_ok-head_x.ensures.says in
    let head_y = rw fourth at c.in_ok-head_y.ensures.says in
    let film = rw fifth at c.in_ok-film.ensures.says in
    rw (
      to_z-of_z w32 c.in_ok-tail_x.tail_x tail_x_fits,
      to_z-of_z w32 c.in_ok-tail_y.tail_y tail_y_fits,
      to_z-of_z w32 c.in_ok-head_x.head_x head_x_fits,
      to_z-of_z w32 c.in_ok-head_y.head_y head_y_fits,
      to_z-of_z w32 c.in_ok-film.film film_fits,
      ← c.in_ok-tail_x.ensures.says,
      ← tail_y,
      ← head_x,
      ← head_y,
      ← film,
    )

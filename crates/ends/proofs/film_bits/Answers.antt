-- `ends::film_bits` meets its contract: a film is not below 0, so its bits are the film.
use Rattle.std.proofs.Common.{◌≡◌, ◌<◌, pos, ◌∙◌, arith, w32, to_z, of_z, true, ℤ}
use lib.Signed.{mag}
use Rattle.laws.proofs.Bits.{read_back, cast-value}
use Rattle.sheet.proofs.Places.{film-small}
use Rattle.sheet.specs.Points.{is_film}
use Rattle.sheet.specs.Amounts.{films}
use Rattle.ends.proofs.film_bits.Goals as goal

read : (film : ℤ) → is_film film ≡ true → (mag film < films) × (to_z w32 (of_z w32 film) ≡ pos (mag film))
read film h =
    let small = film-small film h in
    (small.0, read_back film (omega (arith, small.0)) ∙ small.1)

pub returns : goal.returns
returns c =
    let r = read c.args.edge.film c.requires in
    let value = cast-value r.1 (omega (arith, r.0)) in
    let same = c.from.ensures ∙ c.unsigned_abs.ensures.value ∙ value.0 in
    (same, omega (arith, same, r.0))

-- Two turns compared.
use Rattle.std.specs.Prelude.{Bool, not, ◌&&◌}
use Rattle.sheet.specs.Turning.{Sign, nought, is_sign}

-- two turns the same way, neither nought
unfoldable pub alike : Sign → Sign → Bool
alike a b = is_sign a b && not (is_sign a nought)

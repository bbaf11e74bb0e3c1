-- In the service of the code: bounds of numbers by their digits.
use Rattle.std.specs.Prelude.{ℕ, zero, suc, ◌*◌}

-- ten to a power
unfoldable pub tens : ℕ → ℕ
tens zero = 1
tens (suc n) = tens n * 10

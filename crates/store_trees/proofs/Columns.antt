-- Rows by their columns.
use Rattle.std.proofs.Common.{◌≡◌, List, [], ◌∷◌, length, get_or, refl, arith}
use Rattle.sqlite_value.specs.Order.{Row, column}

pub three_columns : (r : Row) → length r ≡ 3 → r ≡ column r 0 ∷ column r 1 ∷ column r 2 ∷ []
three_columns [] long = absurd (omega (arith, long))
three_columns (a ∷ []) long = absurd (omega (arith, long))
three_columns (a ∷ b ∷ []) long = absurd (omega (arith, long))
three_columns (a ∷ b ∷ c ∷ []) long = refl
three_columns (a ∷ b ∷ c ∷ d ∷ more) long = absurd (omega (arith, long))

pub five_columns : (r : Row) → length r ≡ 5 → r ≡ column r 0 ∷ column r 1 ∷ column r 2 ∷ column r 3 ∷ column r 4 ∷ []
five_columns [] long = absurd (omega (arith, long))
five_columns (a ∷ []) long = absurd (omega (arith, long))
five_columns (a ∷ b ∷ []) long = absurd (omega (arith, long))
five_columns (a ∷ b ∷ c ∷ []) long = absurd (omega (arith, long))
five_columns (a ∷ b ∷ c ∷ d ∷ []) long = absurd (omega (arith, long))
five_columns (a ∷ b ∷ c ∷ d ∷ e ∷ []) long = refl
five_columns (a ∷ b ∷ c ∷ d ∷ e ∷ f ∷ more) long = absurd (omega (arith, long))

pub six_columns : (r : Row) → length r ≡ 6 → r ≡ column r 0 ∷ column r 1 ∷ column r 2 ∷ column r 3 ∷ column r 4 ∷ column r 5 ∷ []
six_columns [] long = absurd (omega (arith, long))
six_columns (a ∷ []) long = absurd (omega (arith, long))
six_columns (a ∷ b ∷ []) long = absurd (omega (arith, long))
six_columns (a ∷ b ∷ c ∷ []) long = absurd (omega (arith, long))
six_columns (a ∷ b ∷ c ∷ d ∷ []) long = absurd (omega (arith, long))
six_columns (a ∷ b ∷ c ∷ d ∷ e ∷ []) long = absurd (omega (arith, long))
six_columns (a ∷ b ∷ c ∷ d ∷ e ∷ f ∷ []) long = refl
six_columns (a ∷ b ∷ c ∷ d ∷ e ∷ f ∷ g ∷ more) long = absurd (omega (arith, long))

pub seven_columns : (r : Row) → length r ≡ 7 → r ≡ column r 0 ∷ column r 1 ∷ column r 2 ∷ column r 3 ∷ column r 4 ∷ column r 5 ∷ column r 6 ∷ []
seven_columns [] long = absurd (omega (arith, long))
seven_columns (a ∷ []) long = absurd (omega (arith, long))
seven_columns (a ∷ b ∷ []) long = absurd (omega (arith, long))
seven_columns (a ∷ b ∷ c ∷ []) long = absurd (omega (arith, long))
seven_columns (a ∷ b ∷ c ∷ d ∷ []) long = absurd (omega (arith, long))
seven_columns (a ∷ b ∷ c ∷ d ∷ e ∷ []) long = absurd (omega (arith, long))
seven_columns (a ∷ b ∷ c ∷ d ∷ e ∷ f ∷ []) long = absurd (omega (arith, long))
seven_columns (a ∷ b ∷ c ∷ d ∷ e ∷ f ∷ g ∷ []) long = refl
seven_columns (a ∷ b ∷ c ∷ d ∷ e ∷ f ∷ g ∷ h ∷ more) long = absurd (omega (arith, long))

pub two_rows : (both : List Row) (d : Row) → length both ≡ 2 → both ≡ get_or both 0 d ∷ get_or both 1 d ∷ []
two_rows [] d long = absurd (omega (arith, long))
two_rows (a ∷ []) d long = absurd (omega (arith, long))
two_rows (a ∷ b ∷ []) d long = refl
two_rows (a ∷ b ∷ c ∷ more) d long = absurd (omega (arith, long))

pub four_rows : (all : List Row) (d : Row) → length all ≡ 4 → all ≡ get_or all 0 d ∷ get_or all 1 d ∷ get_or all 2 d ∷ get_or all 3 d ∷ []
four_rows [] d long = absurd (omega (arith, long))
four_rows (a ∷ []) d long = absurd (omega (arith, long))
four_rows (a ∷ b ∷ []) d long = absurd (omega (arith, long))
four_rows (a ∷ b ∷ c ∷ []) d long = absurd (omega (arith, long))
four_rows (a ∷ b ∷ c ∷ e ∷ []) d long = refl
four_rows (a ∷ b ∷ c ∷ e ∷ f ∷ more) d long = absurd (omega (arith, long))

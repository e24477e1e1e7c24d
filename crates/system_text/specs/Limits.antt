-- The limits of a system text.
use Rattle.std.specs.Prelude.{ℕ}

-- the most digits of a number
abbrev pub most_digits : ℕ
most_digits = 18

-- the greatest exponent of a parenthesis
abbrev pub most_power : ℕ
most_power = 64

-- the most parentheses that are open
abbrev pub most_depth : ℕ
most_depth = 64

-- the width that each product fits
abbrev pub text_width : ℕ
text_width = 10000

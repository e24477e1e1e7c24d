-- What digits stand for.
use Rattle.std.specs.Prelude.{ℕ, ltb, cond, List, length, Option, Some, None}
use Rattle.std.specs.Str.Parse.{digits_value}
use Rattle.system_text.specs.Limits.{most_digits}

-- the number that the digits write, where they aren't too many
abbrev pub number_read : List ℕ → Option ℕ
number_read digits = cond (ltb most_digits (length digits)) None (Some (digits_value 10 digits))

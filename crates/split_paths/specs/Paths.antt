-- Paths: at each split on the way from the root, the number of the child, from 1.
use Rattle.std.specs.Prelude.{◌≡◌, ℕ, List, [], ◌∷◌, map}
use Rattle.std.specs.Cmp.Lexicographic.{slice_cmp}
use Rattle.std.specs.Fmt.{decimal}
use Rattle.std.specs.List.{join_with_byte}
use Rattle.std.specs.Ordering.{nat_cmp}
use Rattle.std.specs.declared.cmp.Ordering.TheVariants.{Less}

-- the path p comes before the path q in lexicographic order
abbrev pub IsBefore : List ℕ → List ℕ → Type 0
IsBefore p q = slice_cmp nat_cmp p q ≡ Less

-- a hyphen for the root's path, and for any other its numbers, joined by points
abbrev pub path_text : List ℕ → List ℕ
path_text [] = 45 ∷ []
path_text (i ∷ is) = join_with_byte 46 (map decimal (i ∷ is))

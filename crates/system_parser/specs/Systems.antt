-- Systems, and what was read of a text.
use Rattle.std.specs.Prelude.{◌≡◌, ℕ, ◌≤◌, List, [], ◌∷◌, map, Option, Some, None, length}
use Rattle.std.specs.String.{string_bytes}
use Rattle.std.specs.declared.string.String.{String}
use Rattle.std.specs.declared.alloc.Global.{Global}
use Rattle.mono_words.specs.declared.mono.TheConstants.{VARS}
use Rattle.polynomials.specs.Polynomials.{ArePolynomials}
use Rattle.sparse_poly.specs.declared.system.System.{System}
use Rattle.system_text.specs.Lines.{TextSystem, Progress as TextProgress, setting_of, lines_of}
use Rattle.system_text.specs.Readings.{Setting}
use Rattle.system_parser.specs.declared.text.Progress.{Progress}
use Rattle.system_parser.specs.declared.text.Progress.TheVariants.{AtPrime, AtOrder, AtSums}

-- names by their bytes
abbrev pub names_of : List (String Global) → List (List ℕ)
names_of names = map (λ name. string_bytes name) names

-- a system, with the bytes of its names
abbrev pub text_system_of : System → TextSystem
text_system_of s =
    record { prime = s.field; names = names_of s.names; inputs = s.inputs; nonzero = s.nonzero }

-- what polynomials of a system are read over
abbrev pub setting_over : System → Setting
setting_over s = setting_of VARS (text_system_of s)

-- what was read of a text
abbrev pub progress_of : Progress → TextProgress
progress_of AtPrime = TextProgress.AtPrime
progress_of (AtOrder p) = TextProgress.AtOrder p
progress_of (AtSums s) = TextProgress.AtSums (text_system_of s)

-- there are at most as many names as variables, and the polynomials are canonical
pub record IsOverVariables (s : System) : Type 0 where
  pub names : length s.names ≤ VARS
  pub inputs : ArePolynomials s.field VARS s.inputs
  pub nonzero : ArePolynomials s.field VARS s.nonzero

-- the system that was read is over the variables
abbrev pub IsProgress : Progress → Type 0
IsProgress AtPrime = Unit {0}
IsProgress (AtOrder p) = Unit {0}
IsProgress (AtSums s) = IsOverVariables s

-- the lines that are left, where some are
abbrev pub lines_left : Option (List ℕ) → List (List ℕ)
lines_left None = []
lines_left (Some bytes) = lines_of bytes

-- what stands after the first byte, where there is one
abbrev pub after_first : List ℕ → Option (List ℕ)
after_first [] = None
after_first (b ∷ bs) = Some bs

-- what was taken stood in front, or there was nothing, and nothing is left
abbrev pub TakesLine : Option (List ℕ) → List (List ℕ) → List (List ℕ) → Type 0
TakesLine None before after = (before ≡ []) × (after ≡ [])
TakesLine (Some line) before after = before ≡ line ∷ after

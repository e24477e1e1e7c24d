-- The lines of certificates, and the text of a chain with its certificates.
use Rattle.std.specs.Prelude.{◌≡◌, ℕ, ◌<◌, List, [], ◌∷◌, ◌++◌, get_or, length, All, codes}
use Rattle.std.specs.List.{filter_map, flat_map, zip}
use Rattle.polynomials.specs.Polynomials.{Polynomial}
use Rattle.polynomials.specs.Views.{main_var}
use Rattle.zero_sets.specs.ZeroSets.{members_below}
use Rattle.zero_sets.specs.Certificates.{Certificate}
use Rattle.report_text.specs.Polynomials.{poly_text, IsInLeast}
use Rattle.report_text.specs.Lines.{plain_chain_text}

-- the name of a variable
abbrev pub name_of : List (List ℕ) → ℕ → List ℕ
name_of names v = get_or names v []

-- the variable whose polynomial's initial is certified, and the cofactor of that initial
abbrev pub regular_line : List (List ℕ) → ℕ → Polynomial → List ℕ
regular_line names v a =
    codes "regular " ++ (name_of names v
    ++ (codes " by " ++ (poly_text names a ++ codes "\n")))

-- a lesser main variable, and the cofactor of its polynomial; no line where that is 0
abbrev pub with_line : List (List ℕ) → (ℕ × Polynomial) → List ℕ
with_line names (u, []) = []
with_line names (u, t ∷ b) =
    codes "with " ++ (name_of names u
    ++ (codes " " ++ (poly_text names (t ∷ b) ++ codes "\n")))

-- what the products add up to
abbrev pub value_line : List (List ℕ) → Polynomial → List ℕ
value_line names r = codes "value " ++ (poly_text names r ++ codes "\n")

-- the cofactors of a certificate below its main variable, each with its variable
abbrev pub cofactors_below : List Polynomial → Certificate → List (ℕ × Polynomial)
cofactors_below chain c = zip (filter_map main_var (members_below c.of chain)) c.below

-- a certificate for an initial of the chain
abbrev pub certificate_text : List (List ℕ) → List Polynomial → Certificate → List ℕ
certificate_text names chain c =
    regular_line names c.of c.cofactor
    ++ (flat_map (with_line names) (cofactors_below chain c) ++ value_line names c.value)

-- a chain: its path, its polynomials and its certificates
abbrev pub chain_text
    : List (List ℕ) → List ℕ → List Polynomial → List Certificate → List ℕ
chain_text names path chain cs =
    plain_chain_text names path chain ++ flat_map (certificate_text names chain) cs

-- only the k least variables occur in a certificate, which has a cofactor for each polynomial of
-- the chain below its main variable
pub record IsNamedCertificate (k : ℕ) (chain : List Polynomial) (c : Certificate) : Type 0 where
  pub of : c.of < k
  pub cofactor : IsInLeast k c.cofactor
  pub below : All (IsInLeast k) c.below
  pub value : IsInLeast k c.value
  pub count : length c.below ≡ length (members_below c.of chain)

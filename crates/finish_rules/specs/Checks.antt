-- The test of a certificate.
use Rattle.std.specs.Prelude.{ℕ, Bool, true, false, ◌&&◌, not, eqb, List, [], ◌∷◌, length, Option, Some, None}
use Rattle.std.specs.List.{list_all}
use Rattle.polynomials.specs.Polynomials.{Polynomial, sum_of, is_zero, same_polynomial}
use Rattle.polynomials.specs.Views.{degree_in, main_var, initial_of, is_constant}
use Rattle.zero_sets.specs.ZeroSets.{member_in, members_below}
use Rattle.zero_sets.specs.Certificates.{Certificate}
use Rattle.division_rules.specs.Lists.{list_operations}
use Rattle.division_rules.specs.Within.{and_then, times_within}

-- the variable, where there is one, doesn't occur in f
abbrev pub lacks_variable : Option ℕ → Polynomial → Bool
lacks_variable None f = true
lacks_variable (Some v) f = eqb (degree_in v f) 0

-- no main variable of the chain occurs in f
abbrev pub is_free_of_main : Polynomial → List Polynomial → Bool
is_free_of_main f chain = list_all (λ t. lacks_variable (main_var t) f) chain

-- f is the certificate's value, which isn't 0 and has no main variable of the chain
abbrev pub is_value : List Polynomial → Certificate → Polynomial → Bool
is_value chain c f =
    same_polynomial f c.value && (not (is_zero c.value) && is_free_of_main c.value chain)

-- in n variables modulo p, with products within the width w
module _ (p n w : ℕ) where
  -- the sum of the cofactors times the generators, where each product fits
  abbrev pub combination_within : List Polynomial → List Polynomial → Option Polynomial
  combination_within [] gs = Some []
  combination_within (c ∷ cs) [] = Some []
  combination_within (c ∷ cs) (g ∷ gs) =
      and_then (times_within (list_operations p n) w c g) (λ x.
      and_then (combination_within cs gs) (λ y. Some (sum_of p x y)))

  -- the test of the identity of t, with the chain below it
  abbrev pub checked_identity : List Polynomial → Certificate → Polynomial → Option Bool
  checked_identity chain c t =
      and_then
      (combination_within (c.cofactor ∷ c.below) (initial_of t ∷ members_below c.of chain))
      (λ f. Some (is_value chain c f))

  -- the test for t: its initial needs a certificate, with a cofactor for each polynomial below it
  abbrev pub checked_at : List Polynomial → Certificate → Option Polynomial → Option Bool
  checked_at chain c None = Some false
  checked_at chain c (Some t) = elim (is_constant (initial_of t)) [
    | true ↦ Some false
    | false ↦ elim (eqb (length c.below) (length (members_below c.of chain))) [
      | true ↦ checked_identity chain c t
      | false ↦ Some false
    ]
  ]

  -- whether it certifies an initial of the chain; None where its shape is right and a product
  -- doesn't fit
  abbrev pub checked : List Polynomial → Certificate → Option Bool
  checked chain c = checked_at chain c (member_in c.of chain)

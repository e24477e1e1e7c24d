-- Remainders by a triangular set, one polynomial of a list after the other.
use Rattle.std.proofs.Common.{◌≡◌, ◌↔◌, ℕ, Bool, true, false, IsTrue, List, [], ◌∷◌, Option, Some, None, refl, ap, ◌∙◌}
use Rattle.mono_words.specs.declared.mono.TheConstants.{VARS}
use Rattle.polynomials.specs.Polynomials.{Polynomial, is_zero}
use Rattle.division_rules.specs.Rows.{Row, plain, plains}
use Rattle.division_rules.specs.Within.{and_then, reduction_within}
use Rattle.pseudo_division.specs.FieldOperations.{operations, first_of}
use Rattle.case_rules.specs.Finish.{has_zero_remainder, first_remainder}

-- the test tells whether f is 0
pub is_zero_by : (test : Bool) (f : Polynomial) → IsTrue test ↔ (f ≡ []) → is_zero f ≡ test
is_zero_by true [] h = refl
is_zero_by true (t ∷ f) h = let none : t ∷ f ≡ [] = h.0 refl in cc
is_zero_by false [] h = let some : false ≡ true = h.1 refl in cc
is_zero_by false (t ∷ f) h = refl

-- the remainder is the first entry of the reduced row
first_entry : (row : Option (Row Polynomial)) → and_then row (λ g. Some g.first) ≡ first_of row
first_entry None = refl
first_entry (Some row) = refl

module _ (p w : ℕ) (chain : List Polynomial) (f : Polynomial) (fs : List Polynomial) where
  -- what a reduction of f gives
  abbrev Gives : Option Polynomial → Type 0
  Gives made = first_of (reduction_within (operations p) w (plains chain) (plain f)) ≡ made

  -- whether a remainder is 0, by what f gives
  zero_by : (made : Option Polynomial) → Gives made → has_zero_remainder p VARS w chain (f ∷ fs) ≡ and_then made (λ r. elim (is_zero r) as (λ _. Option Bool) [ true ↦ Some true | false ↦ has_zero_remainder p VARS w chain fs ])
  zero_by made e = ap (λ o. and_then o (λ r. elim (is_zero r) as (λ _. Option Bool) [ true ↦ Some true | false ↦ has_zero_remainder p VARS w chain fs ])) (first_entry (reduction_within (operations p) w (plains chain) (plain f)) ∙ e)

  pub zero_too_wide : Gives None → has_zero_remainder p VARS w chain (f ∷ fs) ≡ None
  zero_too_wide e = zero_by None e

  pub zero_by_test : (r : Polynomial) (test : Bool) → Gives (Some r) → is_zero r ≡ test → has_zero_remainder p VARS w chain (f ∷ fs) ≡ elim test as (λ _. Option Bool) [ true ↦ Some true | false ↦ has_zero_remainder p VARS w chain fs ]
  zero_by_test r test e is = zero_by (Some r) e ∙ ap (λ b. elim b as (λ _. Option Bool) [ true ↦ Some true | false ↦ has_zero_remainder p VARS w chain fs ]) is

  -- the first remainder that isn't 0, by what f gives
  first_by : (made : Option Polynomial) → Gives made → first_remainder p VARS w chain (f ∷ fs) ≡ and_then made (λ r. elim (is_zero r) as (λ _. Option (Option Polynomial)) [ true ↦ first_remainder p VARS w chain fs | false ↦ Some (Some r) ])
  first_by made e = ap (λ o. and_then o (λ r. elim (is_zero r) as (λ _. Option (Option Polynomial)) [ true ↦ first_remainder p VARS w chain fs | false ↦ Some (Some r) ])) (first_entry (reduction_within (operations p) w (plains chain) (plain f)) ∙ e)

  pub first_too_wide : Gives None → first_remainder p VARS w chain (f ∷ fs) ≡ None
  first_too_wide e = first_by None e

  pub first_by_test : (r : Polynomial) (test : Bool) → Gives (Some r) → is_zero r ≡ test → first_remainder p VARS w chain (f ∷ fs) ≡ elim test as (λ _. Option (Option Polynomial)) [ true ↦ first_remainder p VARS w chain fs | false ↦ Some (Some r) ]
  first_by_test r test e is = first_by (Some r) e ∙ ap (λ b. elim b as (λ _. Option (Option Polynomial)) [ true ↦ first_remainder p VARS w chain fs | false ↦ Some (Some r) ]) is

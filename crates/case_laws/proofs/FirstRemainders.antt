-- The remainders that are sought among those of several polynomials.
use Rattle.std.proofs.Common.{◌≡◌, ℕ, true, false, List, [], ◌∷◌, Some, None, subst}
use Rattle.std.specs.List.{AllByRecursion}
use Rattle.polynomials.specs.Polynomials.{Polynomial, is_zero}
use Rattle.division_rules.proofs.ListLaws.{zero_by_test}
use Rattle.division_rules.proofs.Steps.{choose}
use Rattle.impose_laws.proofs.Options.{then_some}
use Rattle.finish_rules.specs.Remainders.{remainder_of}
use Rattle.case_rules.specs.Finish.{has_zero_remainder, first_remainder}

module _ (p n w : ℕ) (chain : List Polynomial) where
  -- what holds where there is a remainder
  abbrev pub IfRemainder : (Polynomial → Type 0) → Polynomial → Type 0
  IfRemainder Q f = (r : Polynomial) → remainder_of p n w chain f ≡ Some r → Q r

  -- what holds of each remainder holds of the first that isn't 0
  pub first_found : (Q : Polynomial → Type 0) (fs : List Polynomial) → AllByRecursion (IfRemainder Q) fs → (r : Polynomial) → first_remainder p n w chain fs ≡ Some (Some r) → Q r
  first_found Q [] each r found = cc
  first_found Q (f ∷ fs) each r found =
      let parts = then_some (remainder_of p n w chain f) (λ g. elim (is_zero g) [ true ↦ first_remainder p n w chain fs | false ↦ Some (Some g) ]) (Some r) found in
      choose (λ x. x ≡ Some (Some r) → Q r) (is_zero parts.0) (first_remainder p n w chain fs) (Some (Some parts.0)) (λ null later. first_found Q fs each.1 r later) (λ some here. subst Q (let same : parts.0 ≡ r = cc in same) (each.0 parts.0 parts.1)) parts.2

  -- where none is found, each is 0
  pub each_zero : (Q : Polynomial → Type 0) (fs : List Polynomial) → AllByRecursion (λ f. remainder_of p n w chain f ≡ Some [] → Q f) fs → first_remainder p n w chain fs ≡ Some None → AllByRecursion Q fs
  each_zero Q [] each none = tt
  each_zero Q (f ∷ fs) each none =
      let parts = then_some (remainder_of p n w chain f) (λ g. elim (is_zero g) [ true ↦ first_remainder p n w chain fs | false ↦ Some (Some g) ]) None none in
      choose (λ x. x ≡ Some None → AllByRecursion Q (f ∷ fs)) (is_zero parts.0) (first_remainder p n w chain fs) (Some (Some parts.0)) (λ null later. (each.0 (subst (λ g. remainder_of p n w chain f ≡ Some g) (zero_by_test parts.0 null) parts.1), each_zero Q fs each.1 later)) (λ some here. cc) parts.2

  -- where a zero remainder is found, what follows from each follows
  pub zero_found : (Q : Type 0) (fs : List Polynomial) → AllByRecursion (λ f. remainder_of p n w chain f ≡ Some [] → Q) fs → has_zero_remainder p n w chain fs ≡ Some true → Q
  zero_found Q [] each found = cc
  zero_found Q (f ∷ fs) each found =
      let parts = then_some (remainder_of p n w chain f) (λ g. elim (is_zero g) [ true ↦ Some true | false ↦ has_zero_remainder p n w chain fs ]) true found in
      choose (λ x. x ≡ Some true → Q) (is_zero parts.0) (Some true) (has_zero_remainder p n w chain fs) (λ null here. each.0 (subst (λ g. remainder_of p n w chain f ≡ Some g) (zero_by_test parts.0 null) parts.1)) (λ some later. zero_found Q fs each.1 later) parts.2

-- The member of a chain that a certificate names: its initial, and the polynomials below it.
use Rattle.std.proofs.Common.{◌≡◌, ℕ, Bool, true, false, eqb, List, ◌∷◌, length, Option, Some, None, IfSome, IsSome, refl, sym, ap, ◌∙◌, subst}
use Rattle.std.proofs.lemmas.Bool.{eq-eqb}
use Rattle.polynomials.specs.Polynomials.{Polynomial, IsPolynomial, ArePolynomials}
use Rattle.polynomials.specs.Views.{initial_of, is_constant}
use Rattle.polynomials.proofs.InitialLemmas.{IsPolynomial-initial_of}
use Rattle.zero_sets.specs.ZeroSets.{member_in, members_below}
use Rattle.zero_sets.specs.Certificates.{Certificate}
use Rattle.division_rules.specs.Within.{and_then}
use Rattle.impose_rules.proofs.ChainParts.{each_canonical, canonical_each, each_below, member_of_chain}
use Rattle.finish_rules.specs.Checks.{combination_within, is_value, checked_identity, checked_at, checked}

-- the initial of a member of a canonical chain is canonical
pub member_initial : (p n v : ℕ) (chain : List Polynomial) (h : Polynomial) → ArePolynomials p n chain → IsSome (member_in v chain) → IfSome (member_in v chain) (λ t. h ≡ initial_of t) → IsPolynomial p n h
member_initial p n v chain h are = go (member_in v chain) refl
  where
    go : (o : Option Polynomial) → member_in v chain ≡ o → IsSome o → IfSome o (λ t. h ≡ initial_of t) → IsPolynomial p n h
    go None found some is = cc
    go (Some t) found some is = subst (IsPolynomial p n) (sym is) (IsPolynomial-initial_of p n t (member_of_chain (IsPolynomial p n) v chain t found (each_canonical p n chain are)).0)

-- so are the polynomials below
pub lower_canonical : (p n v : ℕ) (chain below : List Polynomial) → ArePolynomials p n chain → below ≡ members_below v chain → ArePolynomials p n below
lower_canonical p n v chain below are is = subst (ArePolynomials p n) (sym is) (canonical_each p n (members_below v chain) (each_below (IsPolynomial p n) v chain (each_canonical p n chain are)))

-- where the initial needs a certificate, and the list has its length, the test is that of the identity
pub checked_member : (p n w v : ℕ) (chain below : List Polynomial) (c : Certificate) (h : Polynomial) → v ≡ c.of → IsSome (member_in v chain) → IfSome (member_in v chain) (λ t. h ≡ initial_of t) → below ≡ members_below v chain → is_constant h ≡ false → length c.below ≡ length below → checked p n w chain c ≡ and_then (combination_within p n w (c.cofactor ∷ c.below) (h ∷ below)) (λ f. Some (is_value chain c f))
checked_member p n w v chain below c h same some is lower nonconstant count = go (member_in c.of chain) (subst (λ u. IsSome (member_in u chain)) same some) (subst (λ u. IfSome (member_in u chain) (λ t. h ≡ initial_of t)) same is)
  where
    there : below ≡ members_below c.of chain
    there = lower ∙ ap (λ u. members_below u chain) same

    go : (o : Option Polynomial) → IsSome o → IfSome o (λ t. h ≡ initial_of t) → checked_at p n w chain c o ≡ and_then (combination_within p n w (c.cofactor ∷ c.below) (h ∷ below)) (λ f. Some (is_value chain c f))
    go None s i = cc
    go (Some t) s i =
        ap (λ b. elim b as (λ _. Option Bool) [ true ↦ Some false | false ↦ elim (eqb (length c.below) (length (members_below c.of chain))) as (λ _. Option Bool) [ true ↦ checked_identity p n w chain c t | false ↦ Some false ] ]) (sym (ap is_constant i) ∙ nonconstant)
        ∙ ap (λ b. elim b as (λ _. Option Bool) [ true ↦ checked_identity p n w chain c t | false ↦ Some false ]) (eq-eqb (length c.below) (length (members_below c.of chain)) (count ∙ ap length there))
        ∙ ap (λ g. and_then (combination_within p n w (c.cofactor ∷ c.below) (g ∷ members_below c.of chain)) (λ f. Some (is_value chain c f))) (sym i)
        ∙ ap (λ gs. and_then (combination_within p n w (c.cofactor ∷ c.below) (h ∷ gs)) (λ f. Some (is_value chain c f))) (sym there)

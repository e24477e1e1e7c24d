-- Main variables that don't occur in a polynomial.
use Rattle.std.proofs.Common.{◌≡◌, ℕ, suc, ◌≤◌, Bool, true, false, eqb, List, [], ◌∷◌, Option, Some, None, inl, inr, refl, sym, ap, ◌∙◌, subst, arith}
use Rattle.std.proofs.lemmas.Bool.{cases_eq, eq-eqb}
use Rattle.polynomials.specs.Polynomials.{Polynomial}
use Rattle.polynomials.specs.Views.{main_var, IsFreeOf}
use Rattle.zero_sets.specs.ZeroSets.{is_variable, member_in}
use Rattle.zero_sets.specs.Certificates.{LacksVariable, IsFreeOfMain}
use Rattle.row_laws.specs.Members.{LacksMainFrom}

-- where u is no main variable those from u on are those from the next on
pub lacks_absent : (u : ℕ) (f : Polynomial) (chain : List Polynomial) → member_in u chain ≡ None → LacksMainFrom (suc u) f chain → LacksMainFrom u f chain
lacks_absent u f [] none lacks = tt
lacks_absent u f (t ∷ chain) none lacks = go (is_variable u (main_var t)) refl none (λ further. lacks_absent u f chain further lacks.1)
  where
    go : (b : Bool) → is_variable u (main_var t) ≡ b → elim b as (λ _. Option Polynomial) [ true ↦ Some t | false ↦ member_in u chain ] ≡ None → (member_in u chain ≡ None → LacksMainFrom u f chain) → LacksMainFrom u f (t ∷ chain)
    go true e none_here rest = cc
    go false e none_here rest = (
      λ x main from. elim (cases_eq x u) [
        | inl same ↦ let is : eqb x u ≡ false = sym (ap (is_variable u) main) ∙ e in let is_not = eq-eqb x u same in cc
        | inr other ↦ lacks.0 x main (omega (arith, from, other))
      ],
      rest none_here,
    )

-- and so they are where u doesn't occur
pub lacks_free : (u : ℕ) (f : Polynomial) (chain : List Polynomial) → IsFreeOf u f → LacksMainFrom (suc u) f chain → LacksMainFrom u f chain
lacks_free u f [] free lacks = tt
lacks_free u f (t ∷ chain) free lacks = (
  (λ x main from. elim (cases_eq x u) [
    | inl same ↦ subst (λ y. IsFreeOf y f) (sym same) free
    | inr other ↦ lacks.0 x main (omega (arith, from, other))
  ]),
  lacks_free u f chain free lacks.1,
)

-- what is without all variables from u on lacks them
pub lacks_all : (u : ℕ) (f : Polynomial) (chain : List Polynomial) → ((x : ℕ) → u ≤ x → IsFreeOf x f) → LacksMainFrom u f chain
lacks_all u f [] free = tt
lacks_all u f (t ∷ chain) free = ((λ x main from. free x from), lacks_all u f chain free)

-- from 0 on that is each main variable
pub lacks_each : (f : Polynomial) (chain : List Polynomial) → LacksMainFrom 0 f chain → IsFreeOfMain f chain
lacks_each f [] lacks = tt
lacks_each f (t ∷ chain) lacks = (go (main_var t) refl, lacks_each f chain lacks.1)
  where
    go : (o : Option ℕ) → main_var t ≡ o → LacksVariable o f
    go None e = tt
    go (Some x) e = lacks.0 x e (omega arith)

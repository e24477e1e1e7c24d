-- Leads that are constant: no case, no factor and nothing to note.
use Rattle.std.proofs.Common.{◌≡◌, ℕ, zero, suc, true, false, ◌||◌, List, [], ◌∷◌, ◌++◌, refl, ap, ◌∙◌, arith}
use Rattle.std.specs.List.{AllByRecursion}
use Rattle.polynomials.specs.Polynomials.{Polynomial, monic}
use Rattle.polynomials.specs.Views.{degree_in, lead_in, is_constant, IsFreeOf}
use Rattle.polynomials.proofs.Degrees.{coefficient_in_free}
use Rattle.polynomials.proofs.MainVariables.{is_constant_iff}
use Rattle.zero_sets.specs.Tasks.{is_member, is_known_nonzero, with_nonzero}
use Rattle.division_rules.specs.Quotients.{without_factors, without_factor, factor_bound}
use Rattle.impose_rules.specs.Leads.{with_all_nonzero, unknown_from, lead_cases}
use Rattle.impose_laws.proofs.CommonRows.{lead_in_keeps_free}
use Rattle.step_bounds.specs.Terms.{HasVariablesBelow}

-- each is constant
abbrev pub AreConstant : List Polynomial → Type 0
AreConstant ls = AllByRecursion (λ l. is_constant l ≡ true) ls

-- so they are where no variable occurs
pub constants_from_free : (ls : List Polynomial) → ((x : ℕ) → AllByRecursion (IsFreeOf x) ls) → AreConstant ls
constants_from_free [] free = tt
constants_from_free (l ∷ ls) free = ((is_constant_iff l).1 (λ x. (free x).0), constants_from_free ls (λ x. (free x).1))

-- in one variable a lead is
pub lead_constant : (f : Polynomial) → HasVariablesBelow 1 f → is_constant (lead_in 0 f) ≡ true
lead_constant f below = (is_constant_iff (lead_in 0 f)).1 free
  where
    free : (x : ℕ) → IsFreeOf x (lead_in 0 f)
    free zero = coefficient_in_free 0 (degree_in 0 f) f
    free (suc x) = lead_in_keeps_free (suc x) 0 f (below (suc x) (omega arith))

-- a constant is known not to vanish
pub constant_known : (p : ℕ) (ns : List Polynomial) (l : Polynomial) → is_constant l ≡ true → is_known_nonzero p ns l ≡ true
constant_known p ns l constant = ap (λ b. b || is_member (monic p l) ns) constant

pub with_constant : (p : ℕ) (ns : List Polynomial) (l : Polynomial) → is_constant l ≡ true → with_nonzero p ns l ≡ ns
with_constant p ns l constant = ap (λ b. elim b as (λ _. List Polynomial) [ true ↦ ns | false ↦ ns ++ monic p l ∷ [] ]) (constant_known p ns l constant)

pub with_all_constant : (p : ℕ) (ns ls : List Polynomial) → AreConstant ls → with_all_nonzero p ns ls ≡ ns
with_all_constant p ns [] each = refl
with_all_constant p ns (l ∷ ls) each = ap (λ ms. with_all_nonzero p ms ls) (with_constant p ns l each.0) ∙ with_all_constant p ns ls each.1

-- no lead is a case
none_unknown : (p : ℕ) (ns : List Polynomial) (j : ℕ) (ls : List Polynomial) → AreConstant ls → unknown_from p ns j ls ≡ []
none_unknown p ns j [] each = refl
none_unknown p ns j (l ∷ ls) each = ap (λ b. elim b as (λ _. List ℕ) [ true ↦ unknown_from p (with_nonzero p ns l) (suc j) ls | false ↦ j ∷ unknown_from p (with_nonzero p ns l) (suc j) ls ]) (constant_known p ns l each.0) ∙ none_unknown p (with_nonzero p ns l) (suc j) ls each.1

pub no_lead_cases : (p : ℕ) (ns ls : List Polynomial) → AreConstant ls → lead_cases p ns ls ≡ []
no_lead_cases p ns [] each = refl
no_lead_cases p ns (l ∷ ls) each = none_unknown p (with_nonzero p ns l) 2 ls each.1

-- constant factors are passed over
pub without_constants : (p w : ℕ) (ls : List Polynomial) (f : Polynomial) → AreConstant ls → without_factors p w ls f ≡ f
without_constants p w [] f each = refl
without_constants p w (l ∷ ls) f each = ap (λ b. elim b as (λ _. Polynomial) [ true ↦ without_factors p w ls f | false ↦ without_factors p w ls (without_factor p w l (factor_bound f) f) ]) each.0 ∙ without_constants p w ls f each.1

-- The children in cases are those of the step.
use Rattle.std.proofs.Common.{◌≡◌, ℕ, Bool, true, false, List, [], ◌∷◌, map, Option, Some, refl, ap, ap₂, ◌∙◌}
use Rattle.mono_words.specs.declared.mono.TheConstants.{VARS}
use Rattle.polynomials.specs.Primes.{IsPrime}
use Rattle.polynomials.specs.Polynomials.{Polynomial, IsPolynomial}
use Rattle.polynomials.specs.Views.{degree_in, lead_in, main_var}
use Rattle.polynomials.proofs.Coefficients.{IsPolynomial-coefficient_in}
use Rattle.polynomials.proofs.Degrees.{coefficient_in_free}
use Rattle.zero_sets.specs.Tasks.{Task, is_known_nonzero}
use Rattle.impose_rules.specs.Factors.{stripped}
use Rattle.impose_rules.specs.Leads.{with_all_nonzero}
use Rattle.impose_rules.specs.Impose.{child_extended, child_initial, child_lead}
use Rattle.impose_laws.proofs.Stripped.{main_var-stripped}
use Rattle.chains.specs.Members.{with_member_at}
use Rattle.intersect.specs.declared.cases.Case.{Case}
use Rattle.intersect.specs.declared.cases.Case.TheVariants.{Lead, Initial}
use Rattle.intersect.specs.declared.head.Head.{Head}
use Rattle.intersect.specs.Cases.{initial_cases, cases_of_head}
use Rattle.intersect.specs.Children.{child_in, child_with_member, child_with_initial}

-- the head r with the main variable v and these leads
abbrev pub head_of : ℕ → Polynomial → List Polynomial → Head
head_of v r ls = record { poly = r; variable = v; leads = ls }

module _ (p w v : ℕ) (r : Polynomial) (left : Task) where
  -- of the initial
  pub initial_child : (ls more : List Polynomial) → map (child_in p (head_of v r ls) left) (initial_cases p left.nonzero (lead_in v r ∷ more)) ≡ child_initial p VARS w left.chain left.queue left.nonzero v r
  initial_child ls more = go (is_known_nonzero p left.nonzero (lead_in v r))
    where
      go : (b : Bool) → map (child_in p (head_of v r ls) left) (elim b as (λ _. List Case) [ true ↦ [] | false ↦ Initial ∷ [] ]) ≡ elim b as (λ _. List Task) [ true ↦ [] | false ↦ child_with_initial (head_of v r ls) left ∷ [] ]
      go true = refl
      go false = refl

  -- of leads
  pub lead_children : (ls : List Polynomial) (js : List ℕ) → map (child_in p (head_of v r ls) left) (map Lead js) ≡ map (child_lead p VARS w left.chain left.queue left.nonzero r ls) js
  lead_children ls [] = refl
  lead_children ls (j ∷ js) = ap (λ kids. child_lead p VARS w left.chain left.queue left.nonzero r ls j ∷ kids) (lead_children ls js)

  -- of a polynomial that stands in the chain
  pub member_child : (ls : List Polynomial) (t : Polynomial) → main_var t ≡ Some v → child_with_member p (head_of v r ls) left t ≡ record { chain = with_member_at (Some v) t left.chain; queue = left.queue; nonzero = with_all_nonzero p left.nonzero ls }
  member_child ls t main = ap (λ (o : Option ℕ). let x : Task = record { chain = with_member_at o t left.chain; queue = left.queue; nonzero = with_all_nonzero p left.nonzero ls } in x) main

  -- where the variable is new
  new_variable_children : IsPrime p → IsPolynomial p VARS r → main_var r ≡ Some v → map (child_in p (head_of v r (lead_in v r ∷ [])) left) (cases_of_head p w left.nonzero r (lead_in v r ∷ [])) ≡ child_extended p VARS w left.chain left.queue left.nonzero v r ∷ child_initial p VARS w left.chain left.queue left.nonzero v r
  new_variable_children prime i main = ap₂ ◌∷◌ (member_child (lead_in v r ∷ []) (stripped p w (lead_in v r ∷ []) r) (main_var-stripped p VARS w prime (lead_in v r ∷ []) (IsPolynomial-coefficient_in v (degree_in v r) p VARS r i, tt) v (coefficient_in_free v (degree_in v r) r, tt) r i main)) (initial_child (lead_in v r ∷ []) [])

  -- also where its lead, the cases and the children were made
  pub new_variable_kids : (ls ns : List Polynomial) (cases : List Case) (kids : List Task) → IsPrime p → IsPolynomial p VARS r → main_var r ≡ Some v → ls ≡ lead_in v r ∷ [] → ns ≡ left.nonzero → cases ≡ cases_of_head p w ns r ls → kids ≡ map (child_in p (head_of v r ls) left) cases → kids ≡ child_extended p VARS w left.chain left.queue left.nonzero v r ∷ child_initial p VARS w left.chain left.queue left.nonzero v r
  new_variable_kids ls ns cases kids prime i main lead known those made =
      made
      ∙ ap (map (child_in p (head_of v r ls) left)) (those ∙ ap (λ ms. cases_of_head p w ms r ls) known)
      ∙ ap (λ xs. map (child_in p (head_of v r xs) left) (cases_of_head p w left.nonzero r xs)) lead
      ∙ new_variable_children prime i main

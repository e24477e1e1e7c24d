-- The one lead is the initial.
use Rattle.std.proofs.Common.{◌≡◌, ◌≢◌, ℕ, List, [], ◌∷◌, ◌++◌, All, Some, sym, ap, ◌∙◌, subst}
use Rattle.std.proofs.lemmas.List.Elements.{All-nil, All-cons}
use Rattle.mono_words.specs.declared.mono.TheConstants.{VARS}
use Rattle.polynomials.specs.Polynomials.{Polynomial, IsPolynomial, ArePolynomials}
use Rattle.polynomials.specs.Views.{degree_in, lead_in, main_var}
use Rattle.polynomials.proofs.Coefficients.{IsPolynomial-coefficient_in}
use Rattle.polynomials.proofs.Degrees.{lead_in_nonzero}
use Rattle.polynomials.proofs.MainVariables.{degree_in_main_var}
use Rattle.zero_sets.specs.Tasks.{Task}
use Rattle.impose_laws.proofs.CommonRows.{occurring_nonzero}
use Rattle.chains.proofs.MemberSteps.{main_variable_small}
use Rattle.sparse_poly.proofs.SortedTerms.{IfOk-implied}
use Rattle.intersect.proofs.CaseChildren.{new_variable_kids}
use Rattle.intersect.proofs.rows.children_in_new_variable.Goals as goal

leads_canonical : (p v : ℕ) (r : Polynomial) (ls : List Polynomial) → IsPolynomial p VARS r → ls ≡ lead_in v r ∷ [] → ArePolynomials p VARS ls
leads_canonical p v r ls i is = subst (ArePolynomials p VARS) (sym is) (IsPolynomial-coefficient_in v (degree_in v r) p VARS r i, tt)

leads_nonzero : (v : ℕ) (r : Polynomial) (ls : List Polynomial) → main_var r ≡ Some v → ls ≡ lead_in v r ∷ [] → All (λ l. l ≢ []) ls
leads_nonzero v r ls main is = subst (All (λ (l : Polynomial). l ≢ [])) (sym is) (All-cons (λ (l : Polynomial). l ≢ []) (lead_in v r) [] (lead_in_nonzero v r (occurring_nonzero v r (degree_in_main_var v r main))) (All-nil (λ (l : Polynomial). l ≢ [])))

pub lead_in-requires : goal.lead_in-requires
lead_in-requires c = main_variable_small c.args.w.now.field VARS c.args.v c.args.r c.requires.head c.requires.variable

pub cases_of_head-requires-clause-over : goal.cases_of_head-requires-clause-over
cases_of_head-requires-clause-over c = leads_canonical c.args.w.now.field c.args.v c.args.r c.push.new.self c.requires.head (c.in_ok-push.ensures.ok ∙ ap (λ ls. ls ++ c.in_ok-lead_in.field-0 ∷ []) c.new-leads.ensures ∙ ap (λ l. l ∷ []) c.in_ok-lead_in.ensures.lead)

pub cases_of_head-requires-clause-leads : goal.cases_of_head-requires-clause-leads
cases_of_head-requires-clause-leads c = leads_nonzero c.args.v c.args.r c.push.new.self c.requires.variable (c.in_ok-push.ensures.ok ∙ ap (λ ls. ls ++ c.in_ok-lead_in.field-0 ∷ []) c.new-leads.ensures ∙ ap (λ l. l ∷ []) c.in_ok-lead_in.ensures.lead)

pub children_in-requires-clause-head : goal.children_in-requires-clause-head
children_in-requires-clause-head c = record {
  main = c.requires.variable;
  canonical = c.requires.head;
  leads = leads_canonical c.args.w.now.field c.args.v c.args.r c.push.new.self c.requires.head (c.in_ok-push.ensures.ok ∙ ap (λ ls. ls ++ c.in_ok-lead_in.field-0 ∷ []) c.new-leads.ensures ∙ ap (λ l. l ∷ []) c.in_ok-lead_in.ensures.lead);
  nonzero = leads_nonzero c.args.v c.args.r c.push.new.self c.requires.variable (c.in_ok-push.ensures.ok ∙ ap (λ ls. ls ++ c.in_ok-lead_in.field-0 ∷ []) c.new-leads.ensures ∙ ap (λ l. l ∷ []) c.in_ok-lead_in.ensures.lead);
}

pub returns : goal.returns
returns c = IfOk-implied _ _ c.children_in.result (λ kids made. new_variable_kids c.args.w.now.field c.args.w.now.width c.args.v c.args.r c.args.left c.push.new.self c.left-2.inside.nonzero c.in_ok-cases.cases kids c.facts.ensures.prime c.requires.head c.requires.variable (c.in_ok-push.ensures.ok ∙ ap (λ ls. ls ++ c.in_ok-lead_in.field-0 ∷ []) c.new-leads.ensures ∙ ap (λ l. l ∷ []) c.in_ok-lead_in.ensures.lead) (ap (λ (t : Task). t.nonzero) c.left-2.view_is) c.in_ok-cases.ensures made) c.children_in.ensures

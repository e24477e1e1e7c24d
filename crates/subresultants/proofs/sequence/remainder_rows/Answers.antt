-- What the laws say of remainder rows and of what is kept of them.
use Rattle.std.proofs.Common.{◌≡◌, Bool, [], ◌∷◌, sym, subst}
use Rattle.mono_words.specs.declared.mono.TheConstants.{VARS}
use Rattle.polynomials.specs.Polynomials.{Polynomial}
use Rattle.division_rules.specs.Rows.{Row}
use Rattle.division_rules.specs.PolynomialRows.{IsPolynomialRow}
use Rattle.division_rules.specs.Units.{IsCombinationOf}
use Rattle.pseudo_division.specs.FieldOperations.{operations}
use Rattle.subresultants.specs.Cofactors.{IfCommon, HasCofactorSteps, VanishesByLeads, ShowsLeadWhereReduced}
use Rattle.subresultants.specs.Ends.{EachEnd, IfEnds, HasLeads, ends_of}
use Rattle.subresultants.specs.Outcomes.{remainders_of}
use Rattle.subresultants.specs.Shape.{EachRemainderRow}
use Rattle.subresultants.proofs.CofactorClauses.{cofactor_steps, cofactor_lead, reduced_cofactor}
use Rattle.subresultants.proofs.PolynomialRemainders.{if_ok, over, falls, last_lead, leads, reduced, zeros, combinations, no_cofactors, kept, kept_leads}
use Rattle.subresultants.proofs.sequence.remainder_rows.Goals as goal

pub returns-clause-each_over : goal.returns-clause-each_over
returns-clause-each_over c = over c.args.w.field c.args.w.width c.args.v c.args.cofactors c.facts.ensures.prime c.args.t.now c.args.c.now c.args.below.now c.requires.first c.requires.second c.requires.chain c.requires.start

pub returns-clause-each_identity : goal.returns-clause-each_identity
returns-clause-each_identity c with_cofactors = subst (λ (b : Bool). EachRemainderRow (IsCombinationOf (operations c.args.w.field) (c.args.c.now ∷ c.args.t.now ∷ c.args.below.now)) (remainders_of c.args.w.field c.args.w.width c.args.v b c.args.t.now c.args.c.now c.args.below.now)) (sym with_cofactors) (combinations c.args.w.field c.args.w.width c.args.v c.facts.ensures.prime c.args.t.now c.args.c.now c.args.below.now c.requires.first c.requires.second c.requires.chain c.requires.start)

pub returns-clause-each_plain : goal.returns-clause-each_plain
returns-clause-each_plain c without = subst (λ (b : Bool). EachRemainderRow (λ (f : Row Polynomial). f.cofactors ≡ []) (remainders_of c.args.w.field c.args.w.width c.args.v b c.args.t.now c.args.c.now c.args.below.now)) (sym without) (no_cofactors c.args.w.field c.args.w.width c.args.v c.facts.ensures.prime c.args.t.now c.args.c.now c.args.below.now c.requires.first c.requires.second c.requires.chain c.requires.start)

pub returns-clause-over : goal.returns-clause-over
returns-clause-over c = if_ok (EachEnd (IsPolynomialRow c.args.w.field VARS)) (ends_of (remainders_of c.args.w.field c.args.w.width c.args.v c.args.cofactors c.args.t.now c.args.c.now c.args.below.now)) c.rows_of_generators.result c.rows_of_generators.ensures (kept c.args.w.field c.args.w.width c.args.v c.args.cofactors c.args.t.now c.args.c.now c.args.below.now (IsPolynomialRow c.args.w.field VARS) (returns-clause-each_over c))

pub returns-clause-identity : goal.returns-clause-identity
returns-clause-identity c with_cofactors = if_ok (EachEnd (IsCombinationOf (operations c.args.w.field) (c.args.c.now ∷ c.args.t.now ∷ c.args.below.now))) (ends_of (remainders_of c.args.w.field c.args.w.width c.args.v c.args.cofactors c.args.t.now c.args.c.now c.args.below.now)) c.rows_of_generators.result c.rows_of_generators.ensures (kept c.args.w.field c.args.w.width c.args.v c.args.cofactors c.args.t.now c.args.c.now c.args.below.now (IsCombinationOf (operations c.args.w.field) (c.args.c.now ∷ c.args.t.now ∷ c.args.below.now)) (returns-clause-each_identity c with_cofactors))

pub returns-clause-plain : goal.returns-clause-plain
returns-clause-plain c without = if_ok (EachEnd (λ (f : Row Polynomial). f.cofactors ≡ [])) (ends_of (remainders_of c.args.w.field c.args.w.width c.args.v c.args.cofactors c.args.t.now c.args.c.now c.args.below.now)) c.rows_of_generators.result c.rows_of_generators.ensures (kept c.args.w.field c.args.w.width c.args.v c.args.cofactors c.args.t.now c.args.c.now c.args.below.now (λ (f : Row Polynomial). f.cofactors ≡ []) (returns-clause-each_plain c without))

pub returns-clause-leads : goal.returns-clause-leads
returns-clause-leads c = if_ok (IfEnds (HasLeads c.args.w.field)) (ends_of (remainders_of c.args.w.field c.args.w.width c.args.v c.args.cofactors c.args.t.now c.args.c.now c.args.below.now)) c.rows_of_generators.result c.rows_of_generators.ensures (kept_leads c.args.w.field c.args.w.width c.args.v c.args.cofactors c.facts.ensures.prime c.args.t.now c.args.c.now c.args.below.now c.requires.first c.requires.second c.requires.chain c.requires.start)

pub returns-clause-falls : goal.returns-clause-falls
returns-clause-falls c = falls c.args.w.field c.args.w.width c.args.v c.args.cofactors c.facts.ensures.prime c.args.t.now c.args.c.now c.args.below.now c.requires.first c.requires.second c.requires.chain c.requires.start

pub returns-clause-reduced : goal.returns-clause-reduced
returns-clause-reduced c = reduced c.args.w.field c.args.w.width c.args.v c.args.cofactors c.facts.ensures.prime c.args.t.now c.args.c.now c.args.below.now c.requires.first c.requires.second c.requires.chain c.requires.start

pub returns-clause-each_lead : goal.returns-clause-each_lead
returns-clause-each_lead c = leads c.args.w.field c.args.w.width c.args.v c.args.cofactors c.facts.ensures.prime c.args.t.now c.args.c.now c.args.below.now c.requires.first c.requires.second c.requires.chain c.requires.start

pub returns-clause-last : goal.returns-clause-last
returns-clause-last c = last_lead c.args.w.field c.args.w.width c.args.v c.args.cofactors c.facts.ensures.prime c.args.t.now c.args.c.now c.args.below.now c.requires.first c.requires.second c.requires.chain c.requires.start

pub returns-clause-zeros : goal.returns-clause-zeros
returns-clause-zeros c = zeros c.args.w.field c.args.w.width c.args.v c.args.cofactors c.facts.ensures.prime c.args.t.now c.args.c.now c.args.below.now c.requires.first c.requires.second c.requires.chain c.requires.start

pub returns-clause-cofactor_steps : goal.returns-clause-cofactor_steps
returns-clause-cofactor_steps c with_cofactors = subst (λ (b : Bool). IfCommon (HasCofactorSteps c.args.w.field c.args.w.width c.args.v c.args.below.now) (remainders_of c.args.w.field c.args.w.width c.args.v b c.args.t.now c.args.c.now c.args.below.now)) (sym with_cofactors) (cofactor_steps c.args.w.field c.args.w.width c.args.v c.facts.ensures.prime c.args.t.now c.args.c.now c.args.below.now c.requires.first c.requires.second c.requires.chain c.requires.start)

pub returns-clause-cofactor_lead : goal.returns-clause-cofactor_lead
returns-clause-cofactor_lead c with_cofactors = subst (λ (b : Bool). IfCommon (VanishesByLeads c.args.w.field c.args.v c.args.t.now c.args.below.now) (remainders_of c.args.w.field c.args.w.width c.args.v b c.args.t.now c.args.c.now c.args.below.now)) (sym with_cofactors) (cofactor_lead c.args.w.field c.args.w.width c.args.v c.facts.ensures.prime c.args.t.now c.args.c.now c.args.below.now c.requires.first c.requires.second c.requires.chain c.requires.start)

pub returns-clause-shown_lead : goal.returns-clause-shown_lead
returns-clause-shown_lead c with_cofactors = subst (λ (b : Bool). IfCommon (ShowsLeadWhereReduced c.args.w.field c.args.v c.args.t.now c.args.c.now c.args.below.now) (remainders_of c.args.w.field c.args.w.width c.args.v b c.args.t.now c.args.c.now c.args.below.now)) (sym with_cofactors) (reduced_cofactor c.args.w.field c.args.w.width c.args.v c.facts.ensures.prime c.args.t.now c.args.c.now c.args.below.now c.requires.first c.requires.second c.requires.chain c.requires.start)

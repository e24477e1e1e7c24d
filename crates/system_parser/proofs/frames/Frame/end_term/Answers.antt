-- What was appended is the term with its sign.
use Rattle.std.proofs.Common.{◌++◌, ◌∙◌, ap, sym, subst, arith}
use Rattle.std.proofs.lemmas.Result.{on_ok_weaker}
use Rattle.mono_words.specs.declared.mono.TheConstants.{VARS}
use Rattle.polynomials.specs.Polynomials.{IsPolynomial}
use Rattle.sparse_poly.specs.Falling.{HaveVariables, AreResidues}
use Rattle.system_parser.specs.Sums.{signed_terms}
use Rattle.system_parser.proofs.SignedTerms.{collected-ended, signed_terms_small, signed_terms_variables, AreResidues-append, HaveLength-append}
use Rattle.system_parser.proofs.frames.Frame.end_term.Goals as goal

pub returns-clause-sum : goal.returns-clause-sum
returns-clause-sum c =
    on_ok_weaker c.append_signed.result
    (λ appended. collected-ended c.args.f VARS (omega (arith, c.facts.ensures.least)) c.args.self.now.is_negative c.args.self.now.product c.args.self.now.terms.items c.append_signed.new.out.items c.args.value.now c.requires.frame.variables c.requires.over
    (appended ∙ ap (λ g. c.args.self.now.terms.items ++ signed_terms c.args.f c.args.self.now.is_negative g) c.terms.ensures.terms))
    c.append_signed.ensures

pub returns-clause-frame : goal.returns-clause-frame
returns-clause-frame c =
    let is = subst (IsPolynomial c.args.f VARS) (sym c.terms.ensures.terms) c.requires.over in
    on_ok_weaker c.append_signed.result
    (λ appended. record {
      variables = subst (HaveVariables VARS) (sym appended) (HaveLength-append VARS c.args.self.now.terms.items (signed_terms c.args.f c.args.self.now.is_negative c.terms.result.now) c.requires.frame.variables (signed_terms_variables c.args.f VARS c.args.self.now.is_negative c.terms.result.now is));
      small = subst (AreResidues c.args.f) (sym appended) (AreResidues-append c.args.f c.args.self.now.terms.items (signed_terms c.args.f c.args.self.now.is_negative c.terms.result.now) c.requires.frame.small (signed_terms_small c.args.f VARS c.args.self.now.is_negative c.terms.result.now is));
      product = c.requires.frame.product;
    })
    c.append_signed.ensures

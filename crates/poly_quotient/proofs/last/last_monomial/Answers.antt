-- The last term stands after all others.
use Rattle.std.proofs.Common.{◌≢◌, ◌+◌, ◌-◌, ◌<◌, [], ◌∷◌, length, take, refl, sym, ◌∙◌, arith}
use Rattle.std.proofs.lemmas.List.{take_all, take_more}
use Rattle.polynomials.specs.Polynomials.{Polynomial}
use Rattle.poly_quotient.proofs.last.last_monomial.Goals as goal

some_terms : (f : Polynomial) → f ≢ [] → 0 < length f
some_terms [] some = absurd (some refl)
some_terms (t ∷ f) some = omega arith

pub returns : goal.returns
returns c =
    let some = some_terms c.args.terms.now c.requires in (
      take (length c.args.terms.now - 1) c.args.terms.now,
      (
        _,
        sym (take_all (length c.args.terms.now - 1 + 1) c.args.terms.now (omega arith))
            ∙ take_more c.args.terms.now (length c.args.terms.now - 1) c.index-terms-last.result (omega arith),
      ),
    )

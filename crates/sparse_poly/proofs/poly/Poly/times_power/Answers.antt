-- The power of the variable is a polynomial, and fits where the degree has room.
use Rattle.std.proofs.Common.{[], ◌∷◌, sym, subst, arith}
use Rattle.polynomials.specs.Polynomials.{term, IsPolynomial}
use Rattle.polynomials.proofs.LeadAndTail.{IsPolynomial-variable_power}
use Rattle.mono_words.specs.declared.mono.TheConstants.{VARS}
use Rattle.sparse_poly.proofs.PowerMonomials.{FitsEach-power}
use Rattle.sparse_poly.proofs.poly.Poly.times_power.Goals as goal

pub term_times-requires-clause-term : goal.term_times-requires-clause-term
term_times-requires-clause-term c =
    subst (λ m. IsPolynomial c.args.f VARS (term m 1 ∷ [])) (sym c.power.ensures)
    (IsPolynomial-variable_power c.args.f VARS c.args.v c.args.e (omega (arith, c.facts.ensures.least)))

pub term_times-requires-clause-fit : goal.term_times-requires-clause-fit
term_times-requires-clause-fit c =
    rw (c.power.ensures, c.terms.ensures.terms)
    (FitsEach-power VARS c.args.v c.args.e c.args.self.now c.requires.variable c.terms.ensures.exponents c.requires.room)

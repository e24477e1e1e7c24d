-- The lead is at its place.
use Rattle.std.proofs.Common.{◌≡◌, ◌-◌, [], IfOk, sym, subst}
use Rattle.std.proofs.lemmas.Option.{get_or_from_slice_get}
use Rattle.mono_words.specs.declared.mono.TheConstants.{VARS}
use Rattle.polynomials.specs.Polynomials.{Polynomial, monic}
use Rattle.polynomials.proofs.PolynomialLists.{IsPolynomial-at}
use Rattle.intersect.proofs.children.monic_lead.Goals as goal

pub monic-requires : goal.monic-requires
monic-requires c = IsPolynomial-at c.args.w.now.field VARS c.args.head.now.leads (c.args.j - 1) c.at.result.now c.requires.head.leads c.at.ensures

pub returns : goal.returns
returns c = subst (λ (x : Polynomial). IfOk c.monic.result (λ r. r ≡ monic c.args.w.now.field x)) (sym (get_or_from_slice_get c.args.head.now.leads (c.args.j - 1) c.at.result.now [] c.at.ensures)) c.monic.ensures.monic

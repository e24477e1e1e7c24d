-- The coefficients are residues.
use Rattle.std.proofs.Common.{◌<◌, List, sym, subst}
use Rattle.std.specs.List.{All}
use Rattle.polynomials.specs.Polynomials.{Term}
use Rattle.system_parser.proofs.SignedTerms.{All-from_residues}
use Rattle.system_parser.proofs.frames.Frame.sum.Goals as goal

pub from_terms-requires : goal.from_terms-requires
from_terms-requires c =
    let P : List Term → Type 0 = λ ts. All (λ t. t.1 < c.args.f) ts in
    subst P (sym c.deref.ensures.value) (All-from_residues c.args.f c.args.self.now.terms.items c.requires.small)

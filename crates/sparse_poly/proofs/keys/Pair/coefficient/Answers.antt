-- The coefficients are residues.
use Rattle.std.proofs.Common.{get_or}
use Rattle.std.proofs.lemmas.List.{get_or_default}
use Rattle.mono_words.specs.declared.mono.TheConstants.{VARS}
use Rattle.sparse_poly.proofs.Places.{IsPolynomial-item}
use Rattle.sparse_poly.proofs.keys.Pair.coefficient.Goals as goal

pub mul-requires-clause-left : goal.mul-requires-clause-left
mul-requires-clause-left c =
    let item = get_or c.args.short.now c.args.self.left c.index-short-self.result in
    (IsPolynomial-item c.args.f VARS c.args.self.left c.args.short.now item c.requires.left_over c.requires.left (get_or_default c.args.short.now c.args.self.left c.index-short-self.result item c.requires.left)).2

pub mul-requires-clause-right : goal.mul-requires-clause-right
mul-requires-clause-right c =
    let item = get_or c.args.long.now c.args.self.right c.index-long-self.result in
    (IsPolynomial-item c.args.f VARS c.args.self.right c.args.long.now item c.requires.right_over c.requires.right (get_or_default c.args.long.now c.args.self.right c.index-long-self.result item c.requires.right)).2

-- The monomials fit.
use Rattle.std.proofs.Common.{get_or}
use Rattle.std.proofs.lemmas.List.{get_or_default}
use Rattle.sparse_poly.proofs.FittingPairs.{PairsFit-items}
use Rattle.sparse_poly.proofs.keys.Pair.monomial.Goals as goal

pub product-requires : goal.product-requires
product-requires c =
    let item = get_or c.args.long.now c.args.self.right c.index-long-self.result in
    PairsFit-items c.args.short.now c.args.long.now c.args.self.left c.args.self.right c.index-short-self.result item c.requires.fit
    c.requires.left c.index-short-self.is
    c.requires.right (get_or_default c.args.long.now c.args.self.right c.index-long-self.result item c.requires.right)

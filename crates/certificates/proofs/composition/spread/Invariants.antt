-- The entries so far and those to come are what is spread.
use Rattle.std.proofs.Common.{◌≡◌, ◌++◌, [], ◌∷◌, ◌-◌, drop, replicate}
use Rattle.row_laws.specs.Compositions.{spread}
use Rattle.certificates.proofs.composition.spread.Given as goal

abbrev pub invariant-loop-i : goal.invariant-loop-i
invariant-loop-i l = l.places ++ drop l.i l.cofactors ≡ [] ∷ drop 2 l.cofactors

abbrev pub invariant-loop-j : goal.invariant-loop-j
invariant-loop-j l = l.places ++ replicate (l.count - l._j) [] ≡ spread l.count l.cofactors

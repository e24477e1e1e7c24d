-- The task that the tree of a system starts with.
use Rattle.std.proofs.Common.{◌≡◌, ℕ, Bool, true, false, List, [], ◌∷◌, None, refl, ap, ◌∙◌, inl, inr}
use Rattle.std.specs.List.{list_any}
use Rattle.std.proofs.lemmas.Bool.{or_cases}
use Rattle.std.proofs.lemmas.List.Folds.{list_any-from_Any}
use Rattle.polynomials.specs.Polynomials.{Polynomial, is_zero, monic, one_of}
use Rattle.polynomials.specs.Views.{main_var}
use Rattle.polynomials.proofs.Canonical.{IsPolynomial-one_of}
use Rattle.polynomials.proofs.MainVariables.{main_var_none}
use Rattle.zero_sets.specs.Domains.{Tables, IsPointOver, value_at}
use Rattle.zero_sets.specs.ZeroSets.{AreNonZero}
use Rattle.zero_sets.specs.Systems.{IsSolution}
use Rattle.zero_sets.specs.Tasks.{InTask}
use Rattle.division_rules.proofs.ListLaws.{zero_by_test}
use Rattle.impose_rules.specs.Impose.{children_by_head, step_to_fitting}
use Rattle.impose_laws.proofs.KnownNonzero.{with_all_points}
use Rattle.impose_laws.proofs.MonicForms.{degree_in-monic}
use Rattle.case_rules.specs.Cases.{case_step, root_by_zero}
use Rattle.case_laws.specs.Lawful.{IsLawfulTask}
use Rattle.case_laws.specs.Laws.{RootsStartWell, ZeroLeavesNothing}
use Rattle.case_laws.proofs.LawfulNonzero.{one_free, one_lawful, with_all_nonzero_lawful}
use Rattle.finish_laws.proofs.Parts.{canonical_lawful}

-- 0 is no polynomial that isn't zero at a point
zero_vanishes : (r : Tables) (xs : List ℕ) (fs : List Polynomial) → list_any is_zero fs ≡ true → AreNonZero r xs fs → ⊥
zero_vanishes r xs [] found nonzero = cc
zero_vanishes r xs (f ∷ fs) found nonzero = elim (or_cases (is_zero f) (list_any is_zero fs) found) [
  | inl here ↦ nonzero.0 (ap (value_at r xs) (zero_by_test f here))
  | inr later ↦ zero_vanishes r xs fs later nonzero.1
]

-- the law of roots
pub roots_start_well : RootsStartWell
roots_start_well n k system lawful = record {
  lawful = by_zero (list_any is_zero system.nonzero);
  zeros = λ r xs at solution. has r xs at solution (list_any is_zero system.nonzero) refl;
}
  where
    by_zero : (b : Bool) → IsLawfulTask system.prime n k (root_by_zero n system b)
    by_zero true = record { chain = record { lawful = tt; triangular = tt }; queue = (one_lawful system.prime n k lawful.prime, lawful.inputs); nonzero = tt }
    by_zero false = record { chain = record { lawful = tt; triangular = tt }; queue = lawful.inputs; nonzero = with_all_nonzero_lawful system.prime n k lawful.prime [] system.nonzero tt lawful.nonzero }

    has : (r : Tables) (xs : List ℕ) → IsPointOver system.prime r xs → IsSolution r xs system → (b : Bool) → list_any is_zero system.nonzero ≡ b → InTask r xs (root_by_zero n system b)
    has r xs at solution true e = absurd (zero_vanishes r xs system.nonzero e solution.1)
    has r xs at solution false e = ((tt, tt), solution.0, with_all_points system.prime n lawful.prime r at.domain xs at.point [] system.nonzero (canonical_lawful system.prime n k system.nonzero lawful.nonzero) tt solution.1)

-- the law of 0 among what must not vanish
pub zero_leaves_nothing : ZeroLeavesNothing
zero_leaves_nothing n k w system lawful (place, below, same) =
    ap (λ b. case_step n w system (root_by_zero n system b)) found
    ∙ ap (λ o. step_to_fitting (children_by_head system.prime n w [] system.inputs [] (monic system.prime (one_of n)) o)) main
  where
    found : list_any is_zero system.nonzero ≡ true
    found = list_any-from_Any is_zero system.nonzero (place, [], below, same, refl)

    main : main_var (monic system.prime (one_of n)) ≡ None
    main = main_var_none (monic system.prime (one_of n)) (λ v. degree_in-monic system.prime n lawful.prime v (one_of n) (IsPolynomial-one_of system.prime n lawful.prime.many) ∙ one_free n v)

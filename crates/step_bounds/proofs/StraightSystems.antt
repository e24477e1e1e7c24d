-- Systems whose steps are straight are never stopped.
use Rattle.std.proofs.Common.{◌≡◌, ℕ, zero, suc, ◌<◌, Bool, true, false, List, [], ◌∷◌, ◌++◌, length, Contains, None, refl, sym, subst, arith}
use Rattle.std.specs.List.{AllByRecursion, list_any, flat_map}
use Rattle.std.proofs.lemmas.List.Folds.{Any-from_list_any}
use Rattle.polynomials.specs.Polynomials.{Polynomial, monic, is_zero}
use Rattle.zero_sets.specs.Systems.{PolynomialSystem}
use Rattle.zero_sets.specs.Tasks.{Task, is_known_nonzero, with_nonzero}
use Rattle.division_rules.proofs.ListLaws.{zero_by_test}
use Rattle.division_rules.proofs.Steps.{choose}
use Rattle.split_paths.specs.declared.splitter.Step.{Step}
use Rattle.split_paths.specs.declared.splitter.Step.TheVariants.{Gone}
use Rattle.split_paths.specs.Answer.{answer_of}
use Rattle.split_paths.specs.Tree.{event_here, children, event_at, preorder_below, events_of}
use Rattle.impose_rules.specs.Leads.{with_all_nonzero}
use Rattle.impose_rules.proofs.Lists.{each_appended}
use Rattle.case_rules.specs.Cases.{case_step, root_by_zero}
use Rattle.case_laws.specs.Lawful.{IsLawfulSystem}
use Rattle.case_laws.proofs.Roots.{zero_leaves_nothing}
use Rattle.step_bounds.specs.Bounds.{IsNeverStopped}
use Rattle.step_bounds.proofs.StraightTrees.{IsStraight, IsGoodBelow, straight_trees_end}

-- what monic forms keep holds of polynomials that don't vanish and more of them
pub each_nonzero : (p : ℕ) (Q : Polynomial → Type 0) → ((f : Polynomial) → Q f → Q (monic p f)) → (ns hs : List Polynomial) → AllByRecursion Q ns → AllByRecursion Q hs → AllByRecursion Q (with_all_nonzero p ns hs)
each_nonzero p Q step ns [] each more = each
each_nonzero p Q step ns (h ∷ hs) each more = each_nonzero p Q step (with_nonzero p ns h) hs (choose (AllByRecursion Q) (is_known_nonzero p ns h) ns (ns ++ monic p h ∷ []) (λ e. each) (λ e. each_appended Q ns (monic p h ∷ []) each (step h more.0, tt))) more.1

-- where the first step leaves nothing the tree isn't stopped
gone_ends : {T L : Type 0} (step : T → Step T L) (n : ℕ) (path : List ℕ) (task : T) → step task ≡ Gone → (answer_of (preorder_below step (event_at step) (suc n) path task)).stop ≡ None
gone_ends step n path task gone = subst (λ made. (answer_of (event_here path (suc n) made ++ flat_map (λ kid. preorder_below step (event_at step) n kid.path kid.task) (children path (suc n) made))).stop ≡ None) (sym gone) refl

-- so a system isn't, where its steps are straight for good tasks and its root is one
pub never_stopped : (n k w steps : ℕ) (system : PolynomialSystem) → IsLawfulSystem n k system → (Good : Task → Type 0) → ((task : Task) → Good task → IsStraight (IsGoodBelow Good (λ x. length x.queue) (length task.queue)) (case_step n w system task)) → Good (root_by_zero n system false) → length system.inputs < steps → IsNeverStopped n w steps system
never_stopped n k w steps system lawful Good straight starts enough = go (list_any is_zero system.nonzero) refl
  where
    ends : (m : ℕ) → length system.inputs < m → (task : Task) → case_step n w system task ≡ Gone → (answer_of (preorder_below (case_step n w system) (event_at (case_step n w system)) m [] task)).stop ≡ None
    ends zero low task gone = absurd (omega (arith, low))
    ends (suc m) low task gone = gone_ends (case_step n w system) m [] task gone

    zero_gone : list_any is_zero system.nonzero ≡ true → case_step n w system (root_by_zero n system true) ≡ Gone
    zero_gone found =
        let (place, f, below, same, null) = Any-from_list_any is_zero system.nonzero found in
        subst (λ b. case_step n w system (root_by_zero n system b) ≡ Gone) found (zero_leaves_nothing n k w system lawful (subst (Contains system.nonzero) (zero_by_test f null) (place, below, same)))

    go : (b : Bool) → list_any is_zero system.nonzero ≡ b → (answer_of (events_of (case_step n w system) (record { path = []; steps = steps; task = root_by_zero n system b }))).stop ≡ None
    go true found = ends steps enough (root_by_zero n system true) (zero_gone found)
    go false found = straight_trees_end (case_step n w system) Good (λ x. length x.queue) straight (record { path = []; steps = steps; task = root_by_zero n system false }) starts enough

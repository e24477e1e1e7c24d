-- The children of a finished task, and of any step, have less rank.
use Rattle.std.proofs.Common.{◌≡◌, ◌≢◌, ℕ, Bool, true, false, List, [], ◌∷◌, ◌++◌, Option, Some, None, IfSome, refl, sym, subst}
use Rattle.std.specs.List.{AllByRecursion}
use Rattle.polynomials.specs.Primes.{IsPrime}
use Rattle.polynomials.specs.Polynomials.{Polynomial, ArePolynomials, is_zero}
use Rattle.polynomials.specs.Views.{initial_of}
use Rattle.zero_sets.specs.Certificates.{Certificate}
use Rattle.zero_sets.specs.Systems.{PolynomialSystem}
use Rattle.zero_sets.specs.Tasks.{Task}
use Rattle.zero_sets.specs.ZeroSets.{IsTriangular}
use Rattle.division_rules.specs.Rows.{Row}
use Rattle.division_rules.proofs.ListLaws.{not_zero_by_test}
use Rattle.division_rules.proofs.Steps.{choose}
use Rattle.split_paths.specs.declared.splitter.Step.{Step}
use Rattle.split_paths.specs.declared.splitter.Step.TheVariants.{Gone, Emit, TooWide, Kids}
use Rattle.impose_rules.specs.Impose.{impose_children, step_to_fitting}
use Rattle.impose_rules.proofs.Lists.{each_implied}
use Rattle.impose_laws.proofs.Options.{then_some}
use Rattle.tree_laws.specs.Steps.{emitted_then, with_each_kid}
use Rattle.tree_laws.proofs.Steps.{fitting_holds}
use Rattle.finish_rules.specs.Identities.{certificate_of}
use Rattle.finish_rules.specs.Leaves.{Leaf}
use Rattle.finish_rules.specs.Initials.{turned, regularised, certified}
use Rattle.finish_rules.specs.Remainders.{remainder_of}
use Rattle.finish_rules.specs.Turns.{Turned}
use Rattle.finish_laws.specs.Identities.{IsMemberOver}
use Rattle.finish_laws.proofs.EachInitial.{each_holds}
use Rattle.finish_laws.proofs.IdentitiesKept.{Keep, turned_holds}
use Rattle.finish_laws.proofs.Parts.{canonical_lawful}
use Rattle.rank_rules.specs.Orders.{IsLessFromFirst}
use Rattle.rank_rules.specs.Ranks.{degrees_below, phase_of, rank_of}
use Rattle.case_rules.specs.Finish.{has_zero_remainder, first_remainder, imposing, step_by_remainder, step_by_inputs, step_by_nonzero, finish_step}
use Rattle.case_rules.specs.Cases.{step_by_queue}
use Rattle.case_laws.proofs.FirstRemainders.{IfRemainder, first_found}
use Rattle.rank_laws.specs.Kids.{EachKid}
use Rattle.rank_laws.specs.Laws.{HasLessRank, CaseStepsLowerTheRank}
use Rattle.rank_laws.proofs.ImposedRanks.{imposed_children_have_less_rank}
use Rattle.rank_laws.proofs.KidLemmas.{emitted_kids, given_kids, changed_kids}
use Rattle.rank_laws.proofs.Orders.{less_behind}
use Rattle.rank_laws.proofs.Phases.{IsNewHead, new_less}
use Rattle.rank_laws.proofs.TurnHeads.{remainder_new, vanishing_new}

module _ (p n w v : ℕ) (chain ns : List Polynomial) (t : Polynomial) (member : IsMemberOver p n v chain t) where
  abbrev GivesHeads : Turned → Type 0
  GivesHeads made = EachKid (IsNewHead p n chain) made

  heads_given : Keep p n w v chain ns t member (λ s. Unit {0}) GivesHeads
  heads_given = record {
    wide = tt;
    gone = λ f made null. tt;
    start = λ f made is. tt;
    done = λ s is more. tt;
    coprime = λ u s q rows f is more makes composes next. tt;
    common = λ u s q rows z b is more makes last reduced. given_kids (Row Polynomial) (IsNewHead p n chain) _ (vanishing_new p n w v u chain ns t member (initial_of t) s is q rows makes z last b reduced);
  }

  -- what an initial gives way to are new heads
  regularised_heads : EachKid (IsNewHead p n chain) (regularised p n w chain ns v (initial_of t))
  regularised_heads = emitted_kids (IsNewHead p n chain) (turned p n w chain ns v (initial_of t)) (λ f. Emit (certificate_of v f)) (turned_holds p n w v chain ns t member (λ s. Unit {0}) GivesHeads heads_given) (λ f. tt)

module _ (p n w : ℕ) (prime : IsPrime p) (chain ns : List Polynomial) (are : ArePolynomials p n chain) (triangular : IsTriangular chain) where
  abbrev MadeHeads : Step Polynomial (List Certificate) → Type 0
  MadeHeads made = EachKid (IsNewHead p n chain) made

  -- so with the initials of the chain
  certified_heads : MadeHeads (certified p n w chain ns chain)
  certified_heads = each_holds p n w prime chain ns are triangular (λ rest made. MadeHeads made) (record {
    nothing = tt;
    passed = λ t rest e later. later;
    needed = λ t rest v e member initial later. emitted_kids (IsNewHead p n chain) (regularised p n w chain ns v (initial_of t)) (λ c. emitted_then (certified p n w chain ns rest) (λ cs. Emit (c ∷ cs))) (regularised_heads p n w v chain ns t member) (λ c. emitted_kids (IsNewHead p n chain) (certified p n w chain ns rest) (λ cs. Emit (c ∷ cs)) later (λ cs. tt));
  })

  -- the first remainder that is found isn't 0
  found_nonzero : (fs : List Polynomial) (r : Polynomial) → first_remainder p n w chain fs ≡ Some (Some r) → r ≢ []
  found_nonzero [] r found = cc
  found_nonzero (f ∷ fs) r found =
      let parts = then_some (remainder_of p n w chain f) (λ g. elim (is_zero g) [ true ↦ first_remainder p n w chain fs | false ↦ Some (Some g) ]) (Some r) found in
      choose (λ x. x ≡ Some (Some r) → r ≢ []) (is_zero parts.0) (first_remainder p n w chain fs) (Some (Some parts.0)) (λ null later. found_nonzero fs r later) (λ some here. subst (λ x. x ≢ []) (let same : parts.0 ≡ r = cc in same) (not_zero_by_test parts.0 some)) parts.2

  -- whatever is imposed is a new head
  abbrev pub ImposesHead : Task → Type 0
  ImposesHead kid = (x : Polynomial) × IsNewHead p n chain x × (kid ≡ imposing chain ns x)

  abbrev ImposeHeads : Step Task Leaf → Type 0
  ImposeHeads made = EachKid ImposesHead made

  module _ (inputs : List Polynomial) (are_inputs : ArePolynomials p n inputs) where
    by_remainder : (cs : List Certificate) (found : Option Polynomial) → first_remainder p n w chain inputs ≡ Some found → ImposeHeads (step_by_remainder chain ns cs found)
    by_remainder cs None e = tt
    by_remainder cs (Some r) e = ((r, first_found p n w chain (λ g. g ≢ [] → IsNewHead p n chain g) inputs (each inputs are_inputs) r e (found_nonzero inputs r e), refl), tt)
      where
        each : (fs : List Polynomial) → ArePolynomials p n fs → AllByRecursion (IfRemainder p n w chain (λ g. g ≢ [] → IsNewHead p n chain g)) fs
        each [] are_fs = tt
        each (f ∷ fs) are_fs = ((λ g made some. remainder_new p n w prime chain ns are triangular f g are_fs.0 made some), each fs are_fs.1)

    by_zero : (zero : Bool) → ImposeHeads (step_by_nonzero p n w chain ns inputs zero)
    by_zero true = tt
    by_zero false = emitted_kids ImposesHead (with_each_kid (imposing chain ns) (certified p n w chain ns chain)) (λ cs. step_by_inputs p n w chain ns inputs cs) (changed_kids (IsNewHead p n chain) ImposesHead (imposing chain ns) (λ x new. (x, new, refl)) (certified p n w chain ns chain) certified_heads) (λ cs. fitting_holds ImposeHeads (first_remainder p n w chain inputs) (λ found. step_by_remainder chain ns cs found) tt (λ found e. by_remainder cs found e))

  -- so it has less rank than the task without a queue
  pub head_lower : (k : ℕ) (kid : Task) → ImposesHead kid → IsLessFromFirst (rank_of p n k w kid) (degrees_below k chain ++ phase_of p n w chain ns [])
  head_lower k kid (x, new, same) = subst (λ y. IsLessFromFirst (rank_of p n k w y) (degrees_below k chain ++ phase_of p n w chain ns [])) (sym same) (less_behind (degrees_below k chain) (phase_of p n w chain ns (x ∷ [])) (1 ∷ 0 ∷ []) (new_less p n w prime chain are triangular ns x [] new))

-- what a finished task imposes
finish_imposes_heads : (n w : ℕ) (system : PolynomialSystem) (task : Task) (prime : IsPrime system.prime) (are : ArePolynomials system.prime n task.chain) (triangular : IsTriangular task.chain) → ArePolynomials system.prime n system.inputs → EachKid (ImposesHead system.prime n w prime task.chain task.nonzero are triangular) (finish_step n w system task)
finish_imposes_heads n w system task prime are triangular are_inputs = fitting_holds (λ made. EachKid (ImposesHead system.prime n w prime task.chain task.nonzero are triangular) made) (has_zero_remainder system.prime n w task.chain task.nonzero) (λ zero. step_by_nonzero system.prime n w task.chain task.nonzero system.inputs zero) tt (λ zero e. by_zero system.prime n w prime task.chain task.nonzero are triangular system.inputs are_inputs zero)

-- what holds of each child, from what holds of it otherwise
kids_implied : {T L : Type 0} (P Q : T → Type 0) → ((x : T) → P x → Q x) → (s : Step T L) → EachKid P s → EachKid Q s
kids_implied P Q step Gone each = tt
kids_implied P Q step (Emit x) each = tt
kids_implied P Q step TooWide each = tt
kids_implied P Q step (Kids kids) each = each_implied P Q step kids each

imposed_kids : (L : Type 0) (P : Task → Type 0) (kids : Option (List Task)) → IfSome kids (AllByRecursion P) → EachKid {T = Task} {L = L} P (step_to_fitting kids)
imposed_kids L P None each = tt
imposed_kids L P (Some []) each = tt
imposed_kids L P (Some (kid ∷ kids)) each = each

-- the law of all steps
pub case_steps_lower_the_rank : CaseStepsLowerTheRank
case_steps_lower_the_rank n k w system task lawful of_task = by_queue task.queue refl
  where
    are : ArePolynomials system.prime n task.chain
    are = canonical_lawful system.prime n k task.chain of_task.chain.lawful

    by_queue : (queue : List Polynomial) → task.queue ≡ queue → EachKid (HasLessRank system.prime n k w task) (step_by_queue n w system task queue)
    by_queue [] starts = subst (λ q. EachKid (λ kid. IsLessFromFirst (rank_of system.prime n k w kid) (degrees_below k task.chain ++ phase_of system.prime n w task.chain task.nonzero q)) (finish_step n w system task)) (sym starts) (kids_implied (ImposesHead system.prime n w lawful.prime task.chain task.nonzero are of_task.chain.triangular) (λ kid. IsLessFromFirst (rank_of system.prime n k w kid) (degrees_below k task.chain ++ phase_of system.prime n w task.chain task.nonzero [])) (head_lower system.prime n w lawful.prime task.chain task.nonzero are of_task.chain.triangular k) (finish_step n w system task) (finish_imposes_heads n w system task lawful.prime are of_task.chain.triangular (canonical_lawful system.prime n k system.inputs lawful.inputs)))
    by_queue (f ∷ rest) starts = imposed_kids Leaf (HasLessRank system.prime n k w task) (impose_children system.prime n w task.chain rest task.nonzero f) (imposed_children_have_less_rank system.prime n k w task f rest lawful.prime of_task starts)

-- What is to come before and after a turn.
use Rattle.std.proofs.Common.{◌≡◌, ℕ, zero, suc, ◌+◌, cond, List, [], ◌∷◌, ◌++◌, length, Result, Ok, Err, IfOk, IfErr, refl, sym, ap, subst, ◌∙◌, arith, append_assoc, nat_lt, count_by}
use Rattle.std.proofs.lemmas.Bool.Decides.{nat_tests}
use Rattle.std.proofs.lemmas.List.Concat.{flat_map-append}
use Rattle.std.proofs.lemmas.List.Sums.{sum_by-cons}
use Rattle.std.specs.List.{AllByRecursion}
use Rattle.split_paths.specs.declared.event.Event.{Event}
use Rattle.split_paths.specs.declared.event.Event.TheVariants as event
use Rattle.split_paths.specs.declared.event.Outcome.TheVariants as outcome
use Rattle.split_paths.specs.declared.splitter.Step.{Step}
use Rattle.split_paths.specs.declared.splitter.Step.TheVariants.{Gone, Emit, TooWide, Kids}
use Rattle.split_paths.specs.Lawful.{IsLawfulStep, IsLawfulEvent}
use Rattle.split_paths.specs.Places.{Place}
use Rattle.split_paths.specs.Tree.{event_here, children_of, event_at, events_of, events_to_come, offers_of, offers_to_come, steps_to_come}
use Rattle.split_paths.proofs.Closed.{lawful_children, lawful_here}
use Rattle.split_paths.proofs.Lists.{all_append}
use Rattle.split_paths.proofs.OfferOrder.{itself}
use Rattle.split_paths.proofs.Unfolds.{preorder_unfolds}
use Rattle.generators.specs.declared.turn.Starved.{Starved}
use Rattle.generators.specs.declared.turn.Turn.{Turn}
use Rattle.generators.specs.declared.turn.Turn.TheVariants.{Quiet, Done}
use Rattle.generators.specs.declared.turn.Turn.TheVariants as turn
use Rattle.generators.specs.Steps.{GivesWayTo}
use Rattle.generators.specs.Turns.{AreLawful, FirstGaveWay, GivesWay, Meets, IsLawfulTurn, StarvesAt, turns_to_come, turns_made, steps_made}

-- one step for a place with a step left
abbrev steps_at : ℕ → ℕ
steps_at n = cond (nat_lt 0 n) 1 0

one_at : (n : ℕ) → steps_at (suc n) ≡ 1
one_at n = grind (arith, nat_tests)

made_by : {L : Type 0} (here met : Event L) (n : ℕ) → here ∷ [] ≡ met ∷ [] → n ≡ steps_made (turn.Event here)
    → n ≡ steps_made (turn.Event met)
made_by here met n same made =
    let e : here ≡ met = cc in made ∙ ap (λ (x : Event _). steps_made (turn.Event x)) e

module _ {T L : Type 0} where
  quiet_steps : (path : List ℕ) (n : ℕ) (made : Step T L) → event_here path n made ≡ [] → steps_at n ≡ 1
  quiet_steps path zero made met = cc
  quiet_steps path (suc n) made met = one_at n

  -- the event of a place with a step left is no leaf without steps
  event_steps : (path : List ℕ) (n : ℕ) (made : Step T L) (met : Event L) → event_here path n made ≡ met ∷ []
      → steps_at n ≡ steps_made (turn.Event met)
  event_steps path zero made met same = made_by (event.Leaf path outcome.Steps) met 0 same refl
  event_steps path (suc n) Gone met same = made_by (event.Leaf path outcome.Gone) met (steps_at (suc n)) same (one_at n)
  event_steps path (suc n) (Emit leaf) met same = made_by (event.Leaf path (outcome.Chain leaf)) met (steps_at (suc n)) same (one_at n)
  event_steps path (suc n) TooWide met same = made_by (event.Leaf path outcome.TooWide) met (steps_at (suc n)) same (one_at n)
  event_steps path (suc n) (Kids []) met same = made_by (event.Leaf path outcome.Gone) met (steps_at (suc n)) same (one_at n)
  event_steps path (suc n) (Kids (only ∷ [])) met same = cc
  event_steps path (suc n) (Kids (first ∷ second ∷ others)) met same =
      made_by (event.Split path (length (first ∷ second ∷ others))) met (steps_at (suc n)) same (one_at n)

module _ {T L : Type 0} (step : T → Step T L) where
  -- what is to come of a first place is its own, and then what comes of its children
  events_first : (first : Place T) (rest : List (Place T))
      → events_to_come step (first ∷ rest) ≡ event_at step first ++ events_to_come step (children_of step first ++ rest)
  events_first first rest =
      ap (λ (es : List (Event L)). es ++ events_to_come step rest) (preorder_unfolds step (event_at step) first)
      ∙ (append_assoc (event_at step first) (events_to_come step (children_of step first)) (events_to_come step rest)
      ∙ ap
      (λ (es : List (Event L)). event_at step first ++ es)
      (sym (flat_map-append (events_of step) (children_of step first) rest)))

  offers_first : (first : Place T) (rest : List (Place T))
      → offers_to_come step (first ∷ rest) ≡ first ∷ offers_to_come step (children_of step first ++ rest)
  offers_first first rest =
      ap (λ (os : List (Place T)). os ++ offers_to_come step rest) (preorder_unfolds step itself first)
      ∙ ap
      (λ (os : List (Place T)). first ∷ os)
      (sym (flat_map-append (offers_of step) (children_of step first) rest))

  events_gone : (old new : List (Place T)) (events : List (Event L)) → FirstGaveWay step old new events
      → events_to_come step old ≡ events ++ events_to_come step new
  events_gone old new events way =
      ap (λ (w : List (Place T)). events_to_come step w) way.waited
      ∙ (events_first way.first way.rest
      ∙ (ap (λ (es : List (Event L)). es ++ events_to_come step (children_of step way.first ++ way.rest)) way.met
      ∙ ap (λ (w : List (Place T)). events ++ events_to_come step w) (sym way.wait)))

  offers_gone : (old new : List (Place T)) (events : List (Event L)) (way : FirstGaveWay step old new events)
      → offers_to_come step old ≡ way.first ∷ offers_to_come step new
  offers_gone old new events way =
      ap (λ (w : List (Place T)). offers_to_come step w) way.waited
      ∙ (offers_first way.first way.rest
      ∙ ap (λ (w : List (Place T)). way.first ∷ offers_to_come step w) (sym way.wait))

  -- a turn takes the event that it met
  pub meets : (old new : List (Place T)) (made : Turn L) → GivesWay step old new made
      → Meets (events_to_come step old) (events_to_come step new) made
  meets old new Quiet way = sym (events_gone old new [] way)
  meets old new (turn.Event event) way = events_gone old new (event ∷ []) way
  meets old new Done none = (ap (λ (w : List (Place T)). events_to_come step w) none.0, ap (λ (w : List (Place T)). events_to_come step w) none.1)

  one_fewer : (old new : List (Place T)) (events : List (Event L)) → FirstGaveWay step old new events
      → turns_to_come step old ≡ 1 + turns_to_come step new
  one_fewer old new events way = omega (arith, ap length (offers_gone old new events way))

  pub fewer_turns : (old new : List (Place T)) (made : Turn L) → GivesWay step old new made
      → turns_to_come step old ≡ turns_made made + turns_to_come step new
  fewer_turns old new Quiet way = one_fewer old new [] way
  fewer_turns old new (turn.Event event) way = one_fewer old new (event ∷ []) way
  fewer_turns old new Done none =
      ap (λ (w : List (Place T)). turns_to_come step w) (none.0 ∙ sym none.1) ∙ omega arith

  steps_gone : (old new : List (Place T)) (events : List (Event L)) (way : FirstGaveWay step old new events)
      → steps_to_come step old ≡ steps_at way.first.steps + steps_to_come step new
  steps_gone old new events way =
      ap (λ (os : List (Place T)). count_by (λ (p : Place T). nat_lt 0 p.steps) os) (offers_gone old new events way)
      ∙ sum_by-cons (λ (p : Place T). steps_at p.steps) way.first (offers_to_come step new)

  pub fewer_steps : (old new : List (Place T)) (made : Turn L) → GivesWay step old new made
      → steps_to_come step old ≡ steps_made made + steps_to_come step new
  fewer_steps old new Quiet way =
      steps_gone old new [] way
      ∙ ap (λ (n : ℕ). n + steps_to_come step new)
      (quiet_steps way.first.path way.first.steps (step way.first.task) way.met)
  fewer_steps old new (turn.Event event) way =
      steps_gone old new (event ∷ []) way
      ∙ ap (λ (n : ℕ). n + steps_to_come step new)
      (event_steps way.first.path way.first.steps (step way.first.task) event way.met)
  fewer_steps old new Done none =
      ap (λ (w : List (Place T)). steps_to_come step w) (none.0 ∙ sym none.1) ∙ omega arith

module _ {T L : Type 0} (lawful_task : T → Type 0) (lawful_leaf : L → Type 0) (step : T → Step T L)
    (keeps : (task : T) → lawful_task task → IsLawfulStep lawful_task lawful_leaf (step task)) where
  lawful_way : (old new : List (Place T)) (events : List (Event L)) → FirstGaveWay step old new events
      → AreLawful lawful_task old → AreLawful lawful_task new
  lawful_way old new events way lawful =
      let were : AreLawful lawful_task (way.first ∷ way.rest) = subst (λ (w : List (Place T)). AreLawful lawful_task w) way.waited lawful in
      subst
      (λ (w : List (Place T)). AreLawful lawful_task w)
      (sym way.wait)
      (all_append
      (λ (p : Place T). lawful_task p.task)
      (children_of step way.first)
      way.rest
      (lawful_children lawful_task lawful_leaf way.first.path way.first.steps (step way.first.task) (keeps way.first.task were.0))
      were.1)

  pub lawful_after : (old new : List (Place T)) (r : Result (Turn L) Starved) → IfOk r (GivesWay step old new)
      → IfErr r (λ starved. StarvesAt old new starved.path)
      → AreLawful lawful_task old → AreLawful lawful_task new
  lawful_after old new (Ok Quiet) way starves lawful = lawful_way old new [] way lawful
  lawful_after old new (Ok (turn.Event event)) way starves lawful = lawful_way old new (event ∷ []) way lawful
  lawful_after old new (Ok Done) none starves lawful = subst (λ (w : List (Place T)). AreLawful lawful_task w) (sym none.1) tt
  lawful_after old new (Err starved) way starves lawful = subst (λ (w : List (Place T)). AreLawful lawful_task w) (sym starves.none) tt

  pub lawful_met : (old new : List (Place T)) → AreLawful lawful_task old → (made : Turn L)
      → GivesWay step old new made → IsLawfulTurn lawful_leaf made
  lawful_met old new lawful Quiet way = tt
  lawful_met old new lawful (turn.Event event) way =
      let were : AreLawful lawful_task (way.first ∷ way.rest) = subst (λ (w : List (Place T)). AreLawful lawful_task w) way.waited lawful in
      let of_event : AllByRecursion (IsLawfulEvent lawful_leaf) (event ∷ []) =
      subst (λ (es : List (Event L)). AllByRecursion (IsLawfulEvent lawful_leaf) es) way.met
      (lawful_here lawful_task lawful_leaf way.first.path way.first.steps (step way.first.task) (keeps way.first.task were.0))
      in of_event.0
  lawful_met old new lawful Done none = tt

-- the first place gives way to the places that a step made of it
pub from_front : {T L : Type 0} (step : T → Step T L) (first : Place T) (rest old new : List (Place T)) (made : Turn L)
    → old ≡ first ∷ rest → GivesWayTo (children_of step first) (event_at step first) rest new made
    → GivesWay step old new made
from_front step first rest old new Quiet waited to =
    record { first = first; rest = rest; waited = waited; wait = to.0; met = to.1 }
from_front step first rest old new (turn.Event event) waited to =
    record { first = first; rest = rest; waited = waited; wait = to.0; met = to.1 }
from_front step first rest old new Done waited to = absurd to

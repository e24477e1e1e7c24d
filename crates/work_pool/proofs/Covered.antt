-- What waits within a closed key.
use Rattle.std.proofs.Common.{◌≡◌, List, [], ◌∷◌, ◌++◌, refl, sym, ap, ◌∙◌, subst}
use Rattle.std.proofs.lemmas.List.Concat.{flat_map-append}
use Rattle.std.proofs.Common.{append-nil}
use Rattle.std.specs.List.{AllByRecursion, flat_map}
use Rattle.split_paths.specs.declared.event.Event.{Event}
use Rattle.split_paths.specs.declared.splitter.Step.{Step}
use Rattle.split_paths.specs.Key.{IsClosedKey, IsTrueEvent, IsTrueOffer}
use Rattle.split_paths.specs.Places.{Place}
use Rattle.split_paths.specs.Tree.{events_of, events_to_come}
use Rattle.split_paths.proofs.Lists.{all_append, all_weaker, all_flat_map}
use Rattle.generators.specs.Turns.{AreLawful}

module _ {T L : Type 0} (step : T → Step T L) (lawful : T → Type 0) (events : List (Event L)) (offers : List (Place T)) where
  pub lawful_waiting : (waiting : List (Place T)) → IsClosedKey step lawful events offers
      → AllByRecursion (IsTrueOffer offers) waiting → AreLawful lawful waiting
  lawful_waiting waiting key known = all_weaker (IsTrueOffer offers) (λ (p : Place T). lawful p.task) (λ p is. (key p is).task) waiting known

  pub true_to_come : (waiting : List (Place T)) → IsClosedKey step lawful events offers
      → AllByRecursion (IsTrueOffer offers) waiting → AllByRecursion (IsTrueEvent events) (events_to_come step waiting)
  true_to_come waiting key known =
      all_flat_map (IsTrueEvent events) (events_of step) waiting
      (all_weaker (IsTrueOffer offers) (λ (p : Place T). AllByRecursion (IsTrueEvent events) (events_of step p)) (λ p is. (key p is).below) waiting known)

module _ {A : Type 0} (P : A → Type 0) where
  pub all_front : (xs less : List A) (x : A) → AllByRecursion P xs → xs ≡ less ++ x ∷ [] → AllByRecursion P less
  all_front xs less x all cut = front less x (subst (λ (ys : List A). AllByRecursion P ys) cut all)
    where
      front : (less : List A) (x : A) → AllByRecursion P (less ++ x ∷ []) → AllByRecursion P less
      front [] x all = tt
      front (y ∷ less) x all = (all.0, front less x all.1)

-- the last of several lists
pub flat_last : {X A : Type 0} (f : X → List A) (xs less : List X) (x : X) → xs ≡ less ++ x ∷ []
    → flat_map f xs ≡ flat_map f less ++ f x
flat_last f xs less x cut =
    ap (flat_map f) cut ∙ (flat_map-append f less (x ∷ []) ∙ ap (λ ys. flat_map f less ++ ys) (append-nil (f x)))

pub flat_one : {X A : Type 0} (f : X → List A) (xs : List X) (x : X) → xs ≡ x ∷ [] → flat_map f xs ≡ f x
flat_one f xs x one = ap (flat_map f) one ∙ append-nil (f x)

module _ {A : Type 0} (P : A → Type 0) where
  pub the_last : (xs less : List A) (x : A) → AllByRecursion P xs → xs ≡ less ++ x ∷ [] → P x
  the_last xs less x all cut = last less x (subst (λ (ys : List A). AllByRecursion P ys) cut all)
    where
      last : (less : List A) (x : A) → AllByRecursion P (less ++ x ∷ []) → P x
      last [] x all = all.0
      last (y ∷ less) x all = last less x all.1

  pub all_left : (xs ys : List A) → AllByRecursion P (xs ++ ys) → AllByRecursion P xs
  all_left [] ys all = tt
  all_left (x ∷ xs) ys all = (all.0, all_left xs ys all.1)

  pub all_right : (xs ys : List A) → AllByRecursion P (xs ++ ys) → AllByRecursion P ys
  all_right [] ys all = all
  all_right (x ∷ xs) ys all = all_right xs ys all.1

-- The answer of two lists of events, by the answers of each.
use Rattle.std.proofs.Common.{◌≡◌, ℕ, List, [], ◌++◌, Option, Some, None, refl, sym, ap, ◌∙◌, subst}
use Rattle.std.specs.Option.{option_map_or}
use Rattle.std.specs.List.{Any}
use Rattle.split_paths.specs.declared.event.Event.{Event}
use Rattle.split_paths.specs.declared.event.Why.{Why}
use Rattle.split_paths.specs.Answer.{Answer, answer_of}
use Rattle.split_paths.proofs.Answers.{answer_of-append}
use Rattle.tree_laws.proofs.Some.{some_left, some_right}

-- what stops the first stops both
first_goes_on : (first second : Option (List ℕ × Why)) → option_map_or (λ stop. Some stop) first second ≡ None → first ≡ None
first_goes_on None second e = refl
first_goes_on (Some stop) second e = cc

module _ {L : Type 0} where
  -- where two lists aren't stopped the first isn't
  pub first_unstopped : (xs ys : List (Event L)) → (answer_of (xs ++ ys)).stop ≡ None → (answer_of xs).stop ≡ None
  first_unstopped xs ys e = first_goes_on (answer_of xs).stop (answer_of ys).stop (sym (ap (λ (a : Answer L). a.stop) (answer_of-append xs ys)) ∙ e)

  -- and the second neither
  pub second_unstopped : (xs ys : List (Event L)) → (answer_of (xs ++ ys)).stop ≡ None → (answer_of ys).stop ≡ None
  second_unstopped xs ys e = sym (ap (λ o. option_map_or (λ stop. Some stop) o (answer_of ys).stop) (first_unstopped xs ys e)) ∙ sym (ap (λ (a : Answer L). a.stop) (answer_of-append xs ys)) ∙ e

  module _ (P : List ℕ × L → Type 0) (xs ys : List (Event L)) where
    -- a leaf of the first is one of both
    pub some_of_first : Any P (answer_of xs).chains → Any P (answer_of (xs ++ ys)).chains
    some_of_first some = subst (λ (a : Answer L). Any P a.chains) (sym (answer_of-append xs ys)) (some_left P (answer_of xs).chains (option_map_or (λ stop. []) (answer_of xs).stop (answer_of ys).chains) some)

    -- a leaf of the second too, where the first isn't stopped
    pub some_of_second : (answer_of xs).stop ≡ None → Any P (answer_of ys).chains → Any P (answer_of (xs ++ ys)).chains
    some_of_second on some = subst (λ (a : Answer L). Any P a.chains) (sym (answer_of-append xs ys)) (some_right P (answer_of xs).chains (option_map_or (λ stop. []) (answer_of xs).stop (answer_of ys).chains) (subst (λ o. Any P (option_map_or (λ stop. []) o (answer_of ys).chains)) (sym on) some))

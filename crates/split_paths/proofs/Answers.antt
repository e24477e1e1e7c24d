-- The answer of two lists of events, one after the other.
use Rattle.std.proofs.Common.{◌≡◌, List, [], ◌∷◌, ◌++◌, refl, ap}
use Rattle.split_paths.specs.declared.event.Event.{Event}
use Rattle.split_paths.specs.declared.event.Event.TheVariants.{Split, Leaf}
use Rattle.split_paths.specs.declared.event.Outcome.TheVariants as outcome
use Rattle.split_paths.specs.Answer.{Answer, after_chain, answer_of, joined}

pub answer_of-append : {L : Type 0} (xs ys : List (Event L)) → answer_of (xs ++ ys) ≡ joined (answer_of xs) (answer_of ys)
answer_of-append [] ys = refl
answer_of-append (Split path kids ∷ xs) ys = answer_of-append xs ys
answer_of-append (Leaf path outcome.Gone ∷ xs) ys = answer_of-append xs ys
answer_of-append (Leaf path (outcome.Chain leaf) ∷ xs) ys = ap (λ (a : Answer _). after_chain (path, leaf) a) (answer_of-append xs ys)
answer_of-append (Leaf path outcome.Steps ∷ xs) ys = refl
answer_of-append (Leaf path outcome.TooWide ∷ xs) ys = refl

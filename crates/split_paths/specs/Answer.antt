-- The answer of a tree: its leaves up to the first that stops it.
use Rattle.std.specs.Prelude.{ℕ, List, [], ◌∷◌, ◌++◌, Option, Some, None}
use Rattle.std.specs.Option.{option_map_or}
use Rattle.split_paths.specs.declared.event.Event.{Event}
use Rattle.split_paths.specs.declared.event.Event.TheVariants.{Split, Leaf}
use Rattle.split_paths.specs.declared.event.Outcome.TheVariants as outcome
use Rattle.split_paths.specs.declared.event.Why.{Why}
use Rattle.split_paths.specs.declared.event.Why.TheVariants as why

-- the emitted leaves with their paths, and the path and cause of what stopped them, if anything did
pub record Answer (L : Type 0) : Type 0 where
  pub chains : List (List ℕ × L)
  pub stop : Option (List ℕ × Why)

-- one more emitted leaf before an answer
abbrev pub after_chain : {L : Type 0} → (List ℕ × L) → Answer L → Answer L
after_chain chain answer = record answer { chains = chain ∷ answer.chains }

-- an answer that is stopped at once
abbrev pub stopped_at : {L : Type 0} → List ℕ → Why → Answer L
stopped_at path cause = record { chains = []; stop = Some (path, cause) }

-- the emitted leaves before the first leaf that has no step left or is too wide, and that leaf if
-- there is one
abbrev pub answer_of : {L : Type 0} → List (Event L) → Answer L
answer_of [] = record { chains = []; stop = None }
answer_of (Split path kids ∷ events) = answer_of events
answer_of (Leaf path outcome.Gone ∷ events) = answer_of events
answer_of (Leaf path (outcome.Chain leaf) ∷ events) = after_chain (path, leaf) (answer_of events)
answer_of (Leaf path outcome.Steps ∷ events) = stopped_at path why.Steps
answer_of (Leaf path outcome.TooWide ∷ events) = stopped_at path why.Size

-- the answer of two lists of events, one after the other: the second counts where the first wasn't
-- stopped
abbrev pub joined : {L : Type 0} → Answer L → Answer L → Answer L
joined first second =
    record {
      chains = first.chains ++ option_map_or (λ stop. []) first.stop second.chains;
      stop = option_map_or (λ stop. Some stop) first.stop second.stop;
    }

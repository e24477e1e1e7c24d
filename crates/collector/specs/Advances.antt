-- What an advance of a walk answers.
use Rattle.std.specs.Prelude.{◌≡◌, ℕ, List, [], IfSome, None}
use Rattle.std.specs.List.{AllByRecursion}
use Rattle.split_paths.specs.Answer.{Answer, after_chain, stopped_at}
use Rattle.split_paths.specs.Paths.{IsBefore}
use Rattle.collector.specs.declared.advance.Advance.{Advance}
use Rattle.collector.specs.declared.advance.Advance.TheVariants.{Item, Waiting, Finished, Stopped}

-- what is to be handed out before and after an advance, and the cursor after it
abbrev pub Advances : {L : Type 0} → Answer L → Answer L → List ℕ → Advance L → Type 0
Advances old new cursor (Item path leaf) =
    (old ≡ after_chain (path, leaf) new) × (cursor ≡ path)
Advances old new cursor Waiting = new ≡ old
Advances old new cursor Finished =
    (old ≡ record { chains = []; stop = None }) × (new ≡ old) × (cursor ≡ [])
Advances old new cursor (Stopped why) = (old ≡ stopped_at cursor why) × (new ≡ old)

-- P, if the walk waits
abbrev pub IfWaits : {L : Type 0} → Type 0 → Advance L → Type 0
IfWaits P (Item path leaf) = Unit {0}
IfWaits P Waiting = P
IfWaits P Finished = Unit {0}
IfWaits P (Stopped why) = Unit {0}

-- P, unless the walk waits
abbrev pub UnlessWaits : {L : Type 0} → Type 0 → Advance L → Type 0
UnlessWaits P (Item path leaf) = P
UnlessWaits P Waiting = Unit {0}
UnlessWaits P Finished = P
UnlessWaits P (Stopped why) = P

-- nothing of an answer has a path before this one
abbrev pub IsFrom : {L : Type 0} → List ℕ → Answer L → Type 0
IsFrom cursor answer =
    AllByRecursion (λ chain. ¬ IsBefore chain.0 cursor) answer.chains
    × IfSome answer.stop (λ stop. ¬ IsBefore stop.0 cursor)

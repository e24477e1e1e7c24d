-- What a taker took.
use Rattle.std.specs.Prelude.{◌≡◌, ℕ, List, [], ◌∷◌, ◌++◌, Option, Some, None, Result, Ok, Err, ◌⊎◌}
use Rattle.split_paths.specs.Answer.{Answer, answer_of}
use Rattle.split_paths.specs.declared.splitter.Step.{Step}
use Rattle.split_paths.specs.Tree.{events_of}
use Rattle.split_paths.specs.declared.event.Why.{Why}
use Rattle.work_pool.specs.declared.taker.PoolError.{PoolError}
use Rattle.work_pool.specs.declared.taker.PoolError.TheVariants as error
use Rattle.work_pool.specs.declared.taker.End.{End}
use Rattle.work_pool.specs.declared.taker.End.TheVariants as end

-- the end of an answer
abbrev pub IsEnd : Option (List ℕ × Why) → End → Type 0
IsEnd stop end.Finished = stop ≡ None
IsEnd stop (end.Stopped path why) = stop ≡ Some (path, why)

module _ {K L : Type 0} (takes : K → List ℕ → L → K → Type 0) where
  -- the pairs were taken one after the other
  abbrev pub Took : K → List (List ℕ × L) → K → Type 0
  Took before [] after = before ≡ after
  Took before (pair ∷ pairs) after =
      (between : K) × takes before pair.0 pair.1 between × Took between pairs after

  -- a beginning of the pairs was taken, and the next one failed
  abbrev pub FailedAt : {F : Type 0} → (K → List ℕ → L → F → K → Type 0) → K → List (List ℕ × L)
      → F → K → Type 0
  FailedAt fails before [] fault after = ⊥
  FailedAt fails before (pair ∷ pairs) fault after =
      (fails before pair.0 pair.1 fault after)
      ⊎ ((between : K) × takes before pair.0 pair.1 between
      × FailedAt fails between pairs fault after)

module _ {K L F : Type 0} (takes : K → List ℕ → L → K → Type 0)
    (fails : K → List ℕ → L → F → K → Type 0) where
  -- a beginning of the pairs was taken
  abbrev pub TookSome : K → List (List ℕ × L) → K → Type 0
  TookSome before [] after = before ≡ after
  TookSome before (pair ∷ pairs) after =
      (before ≡ after)
      ⊎ ((between : K) × takes before pair.0 pair.1 between × TookSome between pairs after)

  -- what a run that ended early did with the pairs
  abbrev pub IsCut : K → List (List ℕ × L) → PoolError F → K → Type 0
  IsCut before pairs error.Memory after = TookSome before pairs after
  IsCut before pairs (error.Each fault) after = FailedAt takes fails before pairs fault after

  -- what is done with the rest is done with the whole
  unfoldable pub HandsOn : K → Answer L → K → Answer L → Type 0
  HandsOn now rest first whole =
      ((later : K) → Took takes now rest.chains later → Took takes first whole.chains later)
      × ((error : PoolError F) (later : K) → IsCut now rest.chains error later
      → IsCut first whole.chains error later)
      × (rest.stop ≡ whole.stop)

  -- where the answer has ended, all of it was taken; else the rest is still to be handed out
  abbrev pub IfReady : K → Answer L → K → Answer L → Option End → Type 0
  IfReady first whole now rest None = HandsOn now rest first whole
  IfReady first whole now rest (Some end) = Took takes first whole.chains now × IsEnd whole.stop end

  -- how a run ended, and what was done with the whole by then
  abbrev pub IsEnded : K → Answer L → Result End (PoolError F) → K → Type 0
  IsEnded first whole (Ok end) now = Took takes first whole.chains now × IsEnd whole.stop end
  IsEnded first whole (Err error) now = IsCut first whole.chains error now

-- the answer of the tree of a task, whose root has the empty path
abbrev pub answer_below : {T L : Type 0} → (T → Step T L) → ℕ → T → Answer L
answer_below step steps task =
    answer_of (events_of step (record { path = []; steps = steps; task = task }))

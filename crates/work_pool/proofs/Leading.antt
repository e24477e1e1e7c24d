-- An answer that is handed out in several parts.
use Rattle.std.proofs.Common.{◌≡◌, ℕ, List, Result, Ok, Err, IfOk, ◌∙◌}
use Rattle.split_paths.specs.Answer.{Answer}
use Rattle.std.specs.Prelude.{Option, Some, None, IfErr}
use Rattle.work_pool.specs.Taken.{HandsOn, Took, IsCut, IsEnd, IsEnded}
use Rattle.work_pool.specs.declared.taker.End.{End}
use Rattle.work_pool.specs.declared.taker.PoolError.{PoolError}
use Rattle.work_pool.proofs.Handing.{hands_took, hands_cut, hands_end}

module _ {K L F : Type 0} (takes : K → List ℕ → L → K → Type 0) (fails : K → List ℕ → L → F → K → Type 0) where
  pub hands_then : (now mid first : K) (rest half whole : Answer L) → HandsOn takes fails now rest mid half
      → HandsOn takes fails mid half first whole → HandsOn takes fails now rest first whole
  unfolding HandsOn
  hands_then now mid first rest half whole one two =
      (λ later took. two.0 later (one.0 later took), λ error later cut. two.1 error later (one.1 error later cut), one.2 ∙ two.2)

  pub ended_on : (now first later : K) (rest whole : Answer L) (result : Result End (PoolError F)) → HandsOn takes fails now rest first whole
      → IfOk result (λ end. Took takes now rest.chains later) → IfOk result (IsEnd rest.stop)
      → IfErr result (λ error. IsCut takes fails now rest.chains error later)
      → IsEnded takes fails first whole result later
  ended_on now first later rest whole (Ok end) on took is cut =
      (hands_took takes fails now first later rest whole on took, hands_end takes fails now first rest whole end on is)
  ended_on now first later rest whole (Err error) on took is cut = hands_cut takes fails now first later rest whole error on cut

  pub ended_took : (first now : K) (whole : Answer L) (result : Result End (PoolError F)) → IsEnded takes fails first whole result now
      → IfOk result (λ end. Took takes first whole.chains now)
  ended_took first now whole (Ok end) ended = ended.0
  ended_took first now whole (Err error) ended = tt

  pub ended_end : (first now : K) (whole : Answer L) (result : Result End (PoolError F)) → IsEnded takes fails first whole result now
      → IfOk result (IsEnd whole.stop)
  ended_end first now whole (Ok end) ended = ended.1
  ended_end first now whole (Err error) ended = tt

  pub ended_cut : (first now : K) (whole : Answer L) (result : Result End (PoolError F)) → IsEnded takes fails first whole result now
      → IfErr result (λ error. IsCut takes fails first whole.chains error now)
  ended_cut first now whole (Ok end) ended = tt
  ended_cut first now whole (Err error) ended = ended

pub all_ok : {A E : Type 0} (result : Result A E) (P : Type 0) → P → IfOk result (λ value. P)
all_ok (Ok value) P holds = holds
all_ok (Err error) P holds = tt

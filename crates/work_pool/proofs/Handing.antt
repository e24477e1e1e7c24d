-- An answer that is handed out pair by pair.
use Rattle.std.proofs.Common.{◌≡◌, ◌<◌, ℕ, List, [], ◌∷◌, length, Option, Some, None, Result, Ok, Err, refl, sym, ap, ◌∙◌, subst, arith, inl, inr, ◌⊎◌}
use Rattle.std.specs.List.{AllByRecursion, Contains}
use Rattle.std.proofs.lemmas.List.Elements.{All-contains, All-from_recursion}
use Rattle.split_paths.specs.Answer.{Answer, after_chain}
use Rattle.split_paths.specs.declared.event.Event.{Event}
use Rattle.split_paths.specs.Walk.{path_of, HasEventAt}
use Rattle.split_paths.proofs.Lists.{all_weaker}
use Rattle.collector.specs.Notes.{Notes, IsNoted}
use Rattle.work_pool.specs.Noting.{AreNoted}
use Rattle.work_pool.specs.Taken.{Took, TookSome, IsCut, IsEnd, HandsOn}
use Rattle.work_pool.specs.declared.taker.End.{End}
use Rattle.work_pool.specs.declared.taker.PoolError.{PoolError}
use Rattle.work_pool.specs.declared.taker.PoolError.TheVariants as error

module _ {K L F : Type 0} (takes : K → List ℕ → L → K → Type 0) (fails : K → List ℕ → L → F → K → Type 0) where
  -- one more pair before what a cut run did
  cut_later : (error : PoolError F) (now next later : K) (pair : List ℕ × L) (pairs : List (List ℕ × L)) → takes now pair.0 pair.1 next
      → IsCut takes fails next pairs error later → IsCut takes fails now (pair ∷ pairs) error later
  cut_later error.Memory now next later pair pairs took cut = inr (next, took, cut)
  cut_later (error.Each fault) now next later pair pairs took cut = inr (next, took, cut)

  pub hands_itself : (first : K) (whole : Answer L) → HandsOn takes fails first whole first whole
  unfolding HandsOn
  hands_itself first whole = (λ later took. took, λ error later cut. cut, refl)

  pub hands_next : (now next first : K) (rest less whole : Answer L) (path : List ℕ) (leaf : L)
      → HandsOn takes fails now rest first whole → rest ≡ after_chain (path, leaf) less → takes now path leaf next
      → HandsOn takes fails next less first whole
  unfolding HandsOn
  hands_next now next first rest less whole path leaf on cut took = (
    λ later more. on.0 later (subst (λ (a : Answer L). Took takes now a.chains later) (sym cut) (next, took, more)),
    λ error later more. on.1 error later (subst (λ (a : Answer L). IsCut takes fails now a.chains error later) (sym cut) (cut_later error now next later (path, leaf) less.chains took more)),
    sym (ap (λ (a : Answer L). a.stop) cut) ∙ on.2,
  )

  pub hands_same : (now first : K) (rest less whole : Answer L) → HandsOn takes fails now rest first whole → less ≡ rest
      → HandsOn takes fails now less first whole
  hands_same now first rest less whole on same = subst (λ (a : Answer L). HandsOn takes fails now a first whole) (sym same) on

  pub hands_done : (now first : K) (rest whole : Answer L) → HandsOn takes fails now rest first whole → rest.chains ≡ []
      → Took takes first whole.chains now
  unfolding HandsOn
  hands_done now first rest whole on none = on.0 now (subst (λ (ps : List (List ℕ × L)). Took takes now ps now) (sym none) refl)

  pub hands_stop : (now first : K) (rest whole : Answer L) → HandsOn takes fails now rest first whole → whole.stop ≡ rest.stop
  unfolding HandsOn
  hands_stop now first rest whole on = sym on.2

  pub hands_took : (now first later : K) (rest whole : Answer L) → HandsOn takes fails now rest first whole
      → Took takes now rest.chains later → Took takes first whole.chains later
  unfolding HandsOn
  hands_took now first later rest whole on took = on.0 later took

  pub hands_cut : (now first later : K) (rest whole : Answer L) (error : PoolError F) → HandsOn takes fails now rest first whole
      → IsCut takes fails now rest.chains error later → IsCut takes fails first whole.chains error later
  unfolding HandsOn
  hands_cut now first later rest whole error on cut = on.1 error later cut

  pub hands_end : (now first : K) (rest whole : Answer L) (end : End) → HandsOn takes fails now rest first whole
      → IsEnd rest.stop end → IsEnd whole.stop end
  unfolding HandsOn
  hands_end now first rest whole end on is = subst (λ s. IsEnd s end) on.2 is

  pub took_none : (now : K) (pairs : List (List ℕ × L)) → TookSome takes fails now pairs now
  took_none now [] = refl
  took_none now (pair ∷ pairs) = inl refl

  pub hands_starved : (now first : K) (rest whole : Answer L) → HandsOn takes fails now rest first whole
      → IsCut takes fails first whole.chains error.Memory now
  unfolding HandsOn
  hands_starved now first rest whole on = on.1 error.Memory now (took_none now rest.chains)

  pub hands_failed : (now next first : K) (rest less whole : Answer L) (path : List ℕ) (leaf : L) (fault : F)
      → HandsOn takes fails now rest first whole → rest ≡ after_chain (path, leaf) less → fails now path leaf fault next
      → IsCut takes fails first whole.chains (error.Each fault) next
  unfolding HandsOn
  hands_failed now next first rest less whole path leaf fault on cut failed =
      on.1 (error.Each fault) next (subst (λ (a : Answer L). IsCut takes fails now a.chains (error.Each fault) next) (sym cut) (inl failed))

module _ {L : Type 0} (events : List (Event L)) where
  pub still_noted : (c d : Notes L) (met : List (Event L)) → ((path : List ℕ) → IsNoted events c path → IsNoted events d path)
      → AreNoted events c met → AreNoted events d met
  unfolding AreNoted
  still_noted c d met on noted =
      all_weaker (λ (e : Event L). IsNoted events c (path_of e)) (λ (e : Event L). IsNoted events d (path_of e)) (λ e. on (path_of e)) met noted

  pub noted_at : (c : Notes L) (path : List ℕ) → AreNoted events c events → HasEventAt events path → IsNoted events c path
  unfolding AreNoted
  noted_at c path noted has =
      subst (IsNoted events c) has.2
      (All-contains (λ (e : Event L). IsNoted events c (path_of e)) events has.0
      (All-from_recursion (λ (e : Event L). IsNoted events c (path_of e)) events noted) has.1)

module _ {K L : Type 0} (may : K → L → Type 0) where
  pub may_next : (now next : K) (rest less : Answer L) (path : List ℕ) (leaf : L)
      → AllByRecursion (λ (pair : List ℕ × L). may now pair.1) rest.chains → rest ≡ after_chain (path, leaf) less
      → ((other : L) → may now other → may next other)
      → AllByRecursion (λ (pair : List ℕ × L). may next pair.1) less.chains
  may_next now next rest less path leaf all cut keeps =
      let were : AllByRecursion (λ (pair : List ℕ × L). may now pair.1) ((path, leaf) ∷ less.chains) =
      subst (λ (a : Answer L). AllByRecursion (λ (pair : List ℕ × L). may now pair.1) a.chains) cut all in
      all_weaker (λ (pair : List ℕ × L). may now pair.1) (λ (pair : List ℕ × L). may next pair.1) (λ pair. keeps pair.1) less.chains were.1

pub ruleset hand_rules = (hands_itself, hands_same, hands_done, hands_stop, hands_starved, hands_failed, still_noted, noted_at)

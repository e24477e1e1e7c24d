-- What was taken, one pair after the other, and where that ended early.
use Rattle.std.proofs.Common.{◌≡◌, ℕ, List, [], ◌∷◌, ◌++◌, inl, inr, refl, sym, ap, ◌∙◌}
use Rattle.work_pool.specs.Taken.{Took, TookSome, FailedAt, IsCut}
use Rattle.work_pool.specs.declared.taker.PoolError.{PoolError}
use Rattle.work_pool.specs.declared.taker.PoolError.TheVariants as error

-- what no take changes is the same after all
pub took_keeps : {P L V : Type 0} (takes : P → List ℕ → L → P → Type 0) (view : P → V) → ((before : P) (path : List ℕ) (leaf : L) (after : P) → takes before path leaf after → view after ≡ view before) → (pairs : List (List ℕ × L)) (before after : P) → Took takes before pairs after → view after ≡ view before
took_keeps takes view each [] before after took = ap view (sym took)
took_keeps takes view each (pair ∷ pairs) before after (between, first, later) = took_keeps takes view each pairs between after later ∙ each before pair.0 pair.1 between first

module _ {P L F : Type 0} (takes : P → List ℕ → L → P → Type 0) (fails : P → List ℕ → L → F → P → Type 0) where
  -- the first of the pairs were taken
  pub record IsFront (before : P) (pairs : List (List ℕ × L)) (after : P) : Type 0 where
    pub front : List (List ℕ × L)
    pub rest : List (List ℕ × L)
    pub same : pairs ≡ front ++ rest
    pub took : Took takes before front after

  pub front_of : (pairs : List (List ℕ × L)) (before after : P) → TookSome takes fails before pairs after → IsFront before pairs after
  front_of [] before after took = record { front = []; rest = []; same = refl; took = took }
  front_of (pair ∷ pairs) before after (inl none) = record { front = []; rest = pair ∷ pairs; same = refl; took = none }
  front_of (pair ∷ pairs) before after (inr (between, first, later)) =
      let h = front_of pairs between after later in
      record { front = pair ∷ h.front; rest = h.rest; same = ap (λ ps. pair ∷ ps) h.same; took = (between, first, h.took) }

  -- the first of the pairs were taken, and the next one failed
  pub record IsFailure (before : P) (pairs : List (List ℕ × L)) (fault : F) (after : P) : Type 0 where
    pub front : List (List ℕ × L)
    pub pair : List ℕ × L
    pub rest : List (List ℕ × L)
    pub between : P
    pub same : pairs ≡ front ++ pair ∷ rest
    pub took : Took takes before front between
    pub failed : fails between pair.0 pair.1 fault after

  pub failure_of : (pairs : List (List ℕ × L)) (fault : F) (before after : P) → FailedAt takes fails before pairs fault after → IsFailure before pairs fault after
  failure_of [] fault before after failed = absurd failed
  failure_of (pair ∷ pairs) fault before after (inl failed) = record { front = []; pair = pair; rest = pairs; between = before; same = refl; took = refl; failed = failed }
  failure_of (pair ∷ pairs) fault before after (inr (between, first, later)) =
      let h = failure_of pairs fault between after later in
      record { front = pair ∷ h.front; pair = h.pair; rest = h.rest; between = h.between; same = ap (λ ps. pair ∷ ps) h.same; took = (between, first, h.took); failed = h.failed }

  -- what neither a take nor a fault changes is the same where a run was cut short
  pub cut_keeps : {V : Type 0} (view : P → V) → ((before : P) (path : List ℕ) (leaf : L) (after : P) → takes before path leaf after → view after ≡ view before) → ((before : P) (path : List ℕ) (leaf : L) (fault : F) (after : P) → fails before path leaf fault after → view after ≡ view before) → (pairs : List (List ℕ × L)) (error : PoolError F) (before after : P) → IsCut takes fails before pairs error after → view after ≡ view before
  cut_keeps view each each_fault pairs error.Memory before after cut =
      let h = front_of pairs before after cut in
      took_keeps takes view each h.front before after h.took
  cut_keeps view each each_fault pairs (error.Each fault) before after cut =
      let h = failure_of pairs fault before after cut in
      each_fault h.between h.pair.0 h.pair.1 fault after h.failed ∙ took_keeps takes view each h.front before h.between h.took

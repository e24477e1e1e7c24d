-- What counters count of an answer.
use Rattle.std.proofs.Common.{◌≡◌, ℕ, ◌+◌, List, [], ◌∷◌, length, ap, subst, arith}
use Rattle.std.proofs.lemmas.List.Sums.{sum_by-cons}
use Rattle.finish_rules.specs.Leaves.{Leaf}
use Rattle.report_text.specs.Answers.{count_polys}
use Rattle.split_paths.specs.Answer.{Answer}
use Rattle.work_pool.specs.Taken.{Took, IsEnd}
use Rattle.work_pool.specs.declared.taker.End.{End}
use Rattle.tri_many.specs.declared.counter.Counter.{Counter}
use Rattle.tri_many.specs.Early.{HasCounted}

-- a chain and its polynomials are counted
abbrev pub Counts : Counter → List ℕ → Leaf → Counter → Type 0
Counts before path leaf after = (after.chains ≡ before.chains + 1) × (after.polys ≡ before.polys + length leaf.chain)

took_chains : (pairs : List (List ℕ × Leaf)) (before after : Counter) → Took Counts before pairs after → after.chains ≡ before.chains + length pairs
took_chains [] before after took = let same = ap (λ (c : Counter). c.chains) took in omega (arith, same)
took_chains (pair ∷ pairs) before after (between, first, later) =
    let one = first.0 in
    let more = took_chains pairs between after later in
    omega (arith, one, more)

took_polys : (pairs : List (List ℕ × Leaf)) (before after : Counter) → Took Counts before pairs after → after.polys ≡ before.polys + count_polys pairs
took_polys [] before after took = let same = ap (λ (c : Counter). c.polys) took in omega (arith, same)
took_polys (pair ∷ pairs) before after (between, first, later) =
    let one = first.1 in
    let more = took_polys pairs between after later in
    let sum : count_polys (pair ∷ pairs) ≡ length pair.1.chain + count_polys pairs = sum_by-cons (λ (p : List ℕ × Leaf). length p.1.chain) pair pairs in
    omega (arith, one, more, sum)

-- all of the answer below the root
pub counted_all : (below answer : Answer Leaf) → below ≡ answer → (before after : Counter) (end : End) → Took Counts before below.chains after → IsEnd below.stop end → before.chains ≡ 0 → before.polys ≡ 0 → HasCounted answer (after, end)
counted_all below answer same before after end took ended no_chains no_polys =
    let chains = took_chains below.chains before after took in
    let polys = took_polys below.chains before after took in
    subst (λ a. HasCounted a (after, end)) same
    (record { chains = omega (arith, chains, no_chains); polys = omega (arith, polys, no_polys); ended = ended })

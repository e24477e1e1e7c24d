-- The lead cases are the numbers of the unknown leads.
use Rattle.std.proofs.Common.{◌≡◌, ℕ, suc, ◌+◌, ◌-◌, Bool, true, false, not, cond, List, [], ◌∷◌, ◌++◌, length, filter, take, get_or, append_assoc, refl, sym, ap, ap₂, ◌∙◌, arith}
use Rattle.std.specs.List.{range_with_len}
use Rattle.polynomials.specs.Polynomials.{Polynomial}
use Rattle.zero_sets.specs.Tasks.{is_known_nonzero, with_nonzero}
use Rattle.impose_rules.specs.Leads.{with_all_nonzero, unknown_from}
use Rattle.impose_rules.specs.Laws.{is_unknown, LeadCasesAreTheUnknown}
use Rattle.impose_rules.proofs.LeadPlaces.{place_of, with_all-one_more, next_place}

-- a known lead is left out
left_out : (j : ℕ) (b : Bool) (js ks : List ℕ) → js ≡ ks → elim b as (λ _. List ℕ) [ true ↦ js | false ↦ j ∷ js ] ≡ cond (not b) (j ∷ ks) ks
left_out j true js ks e = e
left_out j false js ks e = ap (λ is. j ∷ is) e

-- from a place on
numbers_from : (p : ℕ) (ns ls before later ms : List Polynomial) (j : ℕ) → ls ≡ before ++ later → j ≡ suc (length before) → ms ≡ with_all_nonzero p ns before → unknown_from p ms j later ≡ filter (is_unknown p ns ls) (range_with_len j (length later))
numbers_from p ns ls before [] ms j e at same = refl
numbers_from p ns ls before (l ∷ later) ms j e at same =
    let place = place_of ls before l later j e at in
    let known : is_known_nonzero p ms l ≡ is_known_nonzero p (with_all_nonzero p ns (take (j - 1) ls)) (get_or ls (j - 1) []) = ap₂ (is_known_nonzero p) (same ∙ ap (with_all_nonzero p ns) (sym place.1)) (sym place.0) in
    let rest = numbers_from p ns ls (before ++ l ∷ []) later (with_nonzero p ms l) (suc j) (e ∙ sym (append_assoc before (l ∷ []) later)) (next_place before l j at) (ap (λ x. with_nonzero p x l) same ∙ sym (with_all-one_more p ns before l)) ∙ ap (λ i. filter (is_unknown p ns ls) (range_with_len i (length later))) (next j) in
    left_out j (is_known_nonzero p ms l) (unknown_from p (with_nonzero p ms l) (suc j) later) (filter (is_unknown p ns ls) (range_with_len (j + 1) (length later))) rest ∙ ap (λ b. cond (not b) (j ∷ filter (is_unknown p ns ls) (range_with_len (j + 1) (length later))) (filter (is_unknown p ns ls) (range_with_len (j + 1) (length later)))) known
  where
    next : (i : ℕ) → suc i ≡ i + 1
    next i = omega arith

-- the law of lead cases
pub lead_cases_are_the_unknown : LeadCasesAreTheUnknown
lead_cases_are_the_unknown p ns [] = refl
lead_cases_are_the_unknown p ns (l ∷ ls) = numbers_from p ns (l ∷ ls) (l ∷ []) ls (with_nonzero p ns l) 2 refl refl refl ∙ ap (λ k. filter (is_unknown p ns (l ∷ ls)) (range_with_len 2 k)) (fewer (length ls))
  where
    fewer : (k : ℕ) → k ≡ suc k - 1
    fewer k = omega arith

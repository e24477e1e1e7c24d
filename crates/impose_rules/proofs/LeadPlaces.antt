-- Places in a list of leads, and the leads before a place.
use Rattle.std.proofs.Common.{◌≡◌, ℕ, suc, ◌-◌, List, [], ◌∷◌, ◌++◌, take, get_or, length, refl, ap₂, ◌∙◌, arith, length-append}
use Rattle.std.proofs.Math.Seq.{get_or-append_seam, take-append_seam}
use Rattle.polynomials.specs.Polynomials.{Polynomial}
use Rattle.zero_sets.specs.Tasks.{with_nonzero}
use Rattle.impose_rules.specs.Leads.{with_all_nonzero}

-- the first of the later ones, and those before it
pub place_of : (ls before : List Polynomial) (l : Polynomial) (later : List Polynomial) (j : ℕ) → ls ≡ before ++ l ∷ later → j ≡ suc (length before) → (get_or ls (j - 1) [] ≡ l) × (take (j - 1) ls ≡ before)
place_of ls before l later j e at = (ap₂ (λ k x. get_or x k []) (one_less j at) e ∙ get_or-append_seam before l later [], ap₂ take (one_less j at) e ∙ take-append_seam before (l ∷ later))
  where
    one_less : (i : ℕ) → i ≡ suc (length before) → i - 1 ≡ length before
    one_less i at = omega arith

-- the next place is behind one more
pub next_place : (before : List Polynomial) (l : Polynomial) (j : ℕ) → j ≡ suc (length before) → suc j ≡ suc (length (before ++ l ∷ []))
next_place before l j at = let longer = length-append before (l ∷ []) in omega arith

-- several and then one more that don't vanish
pub with_all-one_more : (p : ℕ) (ns before : List Polynomial) (l : Polynomial) → with_all_nonzero p ns (before ++ l ∷ []) ≡ with_nonzero p (with_all_nonzero p ns before) l
with_all-one_more p ns [] l = refl
with_all-one_more p ns (h ∷ before) l = with_all-one_more p (with_nonzero p ns h) before l

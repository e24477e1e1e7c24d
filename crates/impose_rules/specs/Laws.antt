-- The parts of the step in other words: lead cases, and a triangular set with one member changed.
use Rattle.std.specs.Prelude.{◌≡◌, ◌≢◌, ℕ, ◌-◌, Bool, not, List, [], length, filter, take, get_or, Some}
use Rattle.std.specs.List.{range_with_len}
use Rattle.polynomials.specs.Polynomials.{Polynomial}
use Rattle.polynomials.specs.Views.{main_var}
use Rattle.zero_sets.specs.ZeroSets.{IsTriangular, member_in}
use Rattle.zero_sets.specs.Tasks.{is_known_nonzero}
use Rattle.impose_rules.specs.Leads.{with_all_nonzero, lead_cases}
use Rattle.impose_rules.specs.Chains.{with_member}

-- lead j isn't known nonzero under ns and the leads before it
abbrev pub is_unknown : ℕ → List Polynomial → List Polynomial → ℕ → Bool
is_unknown p ns ls j =
    not (is_known_nonzero p (with_all_nonzero p ns (take (j - 1) ls)) (get_or ls (j - 1) []))

-- the lead cases are, in order, the numbers from 2 to that of the last lead whose lead is unknown
abbrev pub LeadCasesAreTheUnknown : Type 0
LeadCasesAreTheUnknown =
    (p : ℕ) (ns ls : List Polynomial)
    → lead_cases p ns ls ≡ filter (is_unknown p ns ls) (range_with_len 2 (length ls - 1))

-- the chain has t at v, and at every other variable what it had
pub record ChangesMember (v : ℕ) (t : Polynomial) (chain changed : List Polynomial) : Type 0 where
  pub triangular : IsTriangular changed
  pub there : member_in v changed ≡ Some t
  pub elsewhere : (u : ℕ) → u ≢ v → member_in u changed ≡ member_in u chain

-- a triangular set with t at its main variable
abbrev pub MemberIsChanged : Type 0
MemberIsChanged =
    (v : ℕ) (t : Polynomial) (chain : List Polynomial)
    → main_var t ≡ Some v
    → IsTriangular chain
    → ChangesMember v t chain (with_member v t chain)

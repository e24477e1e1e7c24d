-- A polynomial put at its main variable changes no other member.
use Rattle.std.proofs.Common.{◌≡◌, ℕ, List, Some, sym, subst}
use Rattle.polynomials.specs.Polynomials.{Polynomial}
use Rattle.polynomials.specs.Views.{main_var}
use Rattle.zero_sets.specs.ZeroSets.{IsTriangular}
use Rattle.impose_rules.specs.Chains.{with_member}
use Rattle.impose_rules.specs.Laws.{ChangesMember}
use Rattle.impose_rules.proofs.ChangedMembers.{member_is_changed}
use Rattle.chains.specs.Members.{ChangesOne}

-- where the changed set is that with t at its main variable w
pub changes_one : (w : ℕ) (t : Polynomial) (inside chain changed : List Polynomial) → main_var t ≡ Some w → IsTriangular inside → inside ≡ chain → changed ≡ with_member w t inside → ChangesOne t chain changed
changes_one w t inside chain changed main triangular same is v other =
    let same_variable : w ≡ v = cc in
    subst (λ x. ChangesMember x t chain changed) same_variable (subst (λ x. ChangesMember w t x changed) same (subst (ChangesMember w t inside) (sym is) (member_is_changed w t inside main triangular)))

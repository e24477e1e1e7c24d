-- The reduced initial is an identity of the initial.
use Rattle.std.proofs.Common.{◌≡◌, ◌≢◌, ℕ, ◌≤◌, List, [], ◌∷◌, length, Some, IfSome, sym, ap, ◌∙◌, subst, arith}
use Rattle.polynomials.specs.Polynomials.{Polynomial, IsPolynomial, ArePolynomials, one_of}
use Rattle.polynomials.specs.Views.{degree_in, main_var, initial_of, AreFreeOf, IsFreeOf}
use Rattle.polynomials.proofs.InitialLemmas.{initial_of-lead_in, IsPolynomial-initial_of, initial_of_free}
use Rattle.polynomials.proofs.MainVariables.{free_above_main_var}
use Rattle.zero_sets.specs.Domains.{Tables, IsPointOver, value_at}
use Rattle.zero_sets.specs.ZeroSets.{InQuasiComponent, members_below}
use Rattle.zero_sets.proofs.TriangularSets.{below_triangular}
use Rattle.division_rules.specs.Lists.{list_operations}
use Rattle.division_rules.specs.Rows.{Row, plain, plains, reduction}
use Rattle.division_rules.specs.Units.{unit_row, unit_rows}
use Rattle.division_rules.proofs.TriangularReductions.{reduction_is_reduced}
use Rattle.division_rules.proofs.Up.{plains_canonical}
use Rattle.division_rules.proofs.WithinLimits.{gives-reduction}
use Rattle.row_laws.specs.Words.{reduction_of, IsReducedBy}
use Rattle.row_laws.specs.Combinations.{IsRowOver, AreRowsOver}
use Rattle.row_laws.specs.Members.{IsPointAtMember}
use Rattle.row_laws.proofs.CombinationRows.{combinations_are_kept}
use Rattle.row_laws.proofs.DegreeLaws.{reductions_keep_degrees}
use Rattle.row_laws.proofs.FirstEntries.{first_entries_stand_alone}
use Rattle.row_laws.proofs.Members.{points_at_members, reduced_by_whole}
use Rattle.row_laws.proofs.ReductionValues.{first_entries-unit_rows, reductions_have_same_zeros}
use Rattle.impose_rules.proofs.ChainParts.{HasMainBelow, triangular_plains, below_are_below, each_canonical, canonical_each, each_below, member_of_chain}
use Rattle.std.specs.List.{AllByRecursion}
use Rattle.finish_rules.specs.Identities.{initial_row}
use Rattle.finish_laws.specs.Identities.{IsMemberOver, IsIdentity}
use Rattle.finish_laws.proofs.Mains.{lacks_all}

-- polynomials with main variables below v are without greater ones
below_free : (v x : ℕ) (fs : List Polynomial) → v ≤ x → AllByRecursion (HasMainBelow v) fs → AreFreeOf x fs
below_free v x [] from mains = tt
below_free v x (f ∷ fs) from (main, mains) =
    let less = main.2 in
    (free_above_main_var main.0 x f main.1 (omega (arith, less, from)), below_free v x fs from mains)

module _ (p n w v : ℕ) (chain : List Polynomial) (t : Polynomial) (member : IsMemberOver p n v chain t) where
  abbrev below : List Polynomial
  below = members_below v chain

  abbrev h : Polynomial
  h = initial_of t

  -- h as a row over h and the chain below v
  abbrev pub row_of_h : Row Polynomial
  row_of_h = unit_row [] (one_of n) 0 (length below) h

  -- t is canonical, with the main variable v
  pub member_is : IsPolynomial p n t × (main_var t ≡ Some v)
  member_is = member_of_chain (IsPolynomial p n) v chain t member.member (each_canonical p n chain member.canonical)

  pub are_generators : ArePolynomials p n (initial_of t ∷ members_below v chain)
  are_generators = (IsPolynomial-initial_of p n t member_is.0, canonical_each p n below (each_below (IsPolynomial p n) v chain (each_canonical p n chain member.canonical)))

  pub units : AreRowsOver p n (initial_of t ∷ members_below v chain) (row_of_h ∷ unit_rows (list_operations p n) 1 (members_below v chain))
  units = (combinations_are_kept p n (h ∷ below) member.prime are_generators).units

  abbrev pub whole : Row Polynomial
  whole = reduction (list_operations p n) (unit_rows (list_operations p n) 1 below) row_of_h

  -- its first entry is the reduction of the initial
  first_is : whole.first ≡ reduction_of p n below h
  first_is = (first_entries_stand_alone p n).reduction (unit_rows (list_operations p n) 1 below) row_of_h ∙ ap (λ fs. reduction_of p n fs h) (first_entries-unit_rows p n 1 below)

  module _ (f : Row Polynomial) (made : initial_row p n w (initial_of t) (members_below v chain) ≡ Some f) where
    pub row_is : f ≡ whole
    row_is = subst (λ o. IfSome o (λ x. x ≡ whole)) made (gives-reduction (list_operations p n) w (unit_rows (list_operations p n) 1 below) row_of_h)

    reduced_is : f.first ≡ reduction_of p n below h
    reduced_is = ap (λ x. x.first) row_is ∙ first_is

    -- it is a combination
    pub starts_over : IsRowOver p n (initial_of t ∷ members_below v chain) f
    starts_over = subst (IsRowOver p n (h ∷ below)) (sym row_is) ((combinations_are_kept p n (h ∷ below) member.prime are_generators).reduction (unit_rows (list_operations p n) 1 below) row_of_h units)

    -- without variables from v on
    starts_free : (x : ℕ) → v ≤ x → IsFreeOf x f.first
    starts_free x from =
        let at_most = reductions_keep_degrees p n x below h member.prime are_generators.1 are_generators.0 (below_triangular 0 v chain member.triangular) (below_free v x below from (below_are_below v chain)) in
        let none : degree_in x h ≡ 0 = initial_of_free v x t member_is.1 from in
        ap (degree_in x) reduced_is ∙ omega (arith, at_most, none)

    -- reduced
    starts_reduced : IsReducedBy f.first below
    starts_reduced = subst (λ g. IsReducedBy g below) (sym reduced_is) (reduction_is_reduced p n (plains below) (plain h) member.prime (plains_canonical p n below are_generators.1) (are_generators.0, tt) (triangular_plains 0 below (below_triangular 0 v chain member.triangular)))

    -- so it starts the turns
    pub starts_identity : f.first ≢ [] → IsIdentity p n v v chain (initial_of t) f
    starts_identity some = record {
      over = starts_over;
      nonzero = some;
      reduced = reduced_by_whole v chain f.first starts_reduced (lacks_all v f.first chain starts_free);
      lacks = lacks_all v f.first chain starts_free;
    }

    -- at a point of the quasi-component it isn't zero
    pub starts_nonzero : (r : Tables) (xs : List ℕ) → IsPointOver p r xs → InQuasiComponent r xs chain → value_at r xs f.first ≢ r.nil
    starts_nonzero r xs at inside null = at_t.lead (ap (value_at r xs) (sym (initial_of-lead_in v t member_is.1)) ∙ (reductions_have_same_zeros p n r xs below h member.prime at are_generators.1 are_generators.0 at_t.below).1 (ap (value_at r xs) (sym reduced_is) ∙ null))
      where
        at_t : IsPointAtMember v r xs chain t
        at_t = points_at_members v r xs chain t member.triangular member.member inside

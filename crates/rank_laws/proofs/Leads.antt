-- Leads of rows that a triangular set reduces are new heads.
use Rattle.std.proofs.Common.{◌≢◌, inl, inr, ℕ, suc, ◌≤◌, List, [], ◌∷◌, sym, subst, arith, lt_of_le_of_lt}
use Rattle.std.specs.List.{AllByRecursion}
use Rattle.std.proofs.lemmas.Bool.{cases_eq}
use Rattle.polynomials.specs.Polynomials.{Polynomial, IsPolynomial}
use Rattle.polynomials.specs.Views.{degree_in, lead_in, IsFreeOf}
use Rattle.polynomials.proofs.Degrees.{degree_in-coefficient_in, coefficient_in_free, lead_in_nonzero}
use Rattle.polynomials.proofs.Coefficients.{IsPolynomial-coefficient_in}
use Rattle.zero_sets.specs.ZeroSets.{members_below}
use Rattle.division_rules.specs.Chains.{EachRow}
use Rattle.division_rules.specs.Lists.{list_operations}
use Rattle.division_rules.specs.Rows.{Row}
use Rattle.division_rules.specs.RemainderRows.{leads}
use Rattle.row_laws.specs.Words.{IsReducedBy}
use Rattle.impose_laws.proofs.CommonRows.{lead_in_keeps_free}
use Rattle.row_laws.specs.Members.{LacksMainFrom}
use Rattle.row_laws.proofs.Members.{reduced_by_whole}
use Rattle.finish_laws.proofs.Mains.{lacks_free}
use Rattle.rank_laws.proofs.Phases.{IsNewHead}

-- what has no greater degree is reduced as well
pub reduced_alike : (f g : Polynomial) → ((v : ℕ) → degree_in v g ≤ degree_in v f) → (chain : List Polynomial) → IsReducedBy f chain → IsReducedBy g chain
reduced_alike f g low [] reduced = tt
reduced_alike f g low (t ∷ chain) reduced = ((λ v main. lt_of_le_of_lt (low v) (reduced.0 v main)), reduced_alike f g low chain reduced.1)

-- what lacks each variable from u on that f lacks lacks the main variables that f lacks
pub lacks_alike : (u : ℕ) (f g : Polynomial) (chain : List Polynomial) → ((x : ℕ) → u ≤ x → IsFreeOf x f → IsFreeOf x g) → LacksMainFrom u f chain → LacksMainFrom u g chain
lacks_alike u f g [] alike lacks = tt
lacks_alike u f g (t ∷ chain) alike lacks = ((λ x main from. alike x from (lacks.0 x main from)), lacks_alike u f g chain alike lacks.1)

-- no degree of a lead is greater
pub lead_low : (u v : ℕ) (f : Polynomial) → degree_in v (lead_in u f) ≤ degree_in v f
lead_low u v f = degree_in-coefficient_in v u (degree_in u f) (degree_in v f) f (omega arith)

-- a lead has no variable from u on where f has none after u
pub lead_free_from : (u : ℕ) (f : Polynomial) → ((y : ℕ) → suc u ≤ y → IsFreeOf y f) → (y : ℕ) → u ≤ y → IsFreeOf y (lead_in u f)
lead_free_from u f free y from = elim (cases_eq y u) [
  | inl same ↦ subst (λ x. IsFreeOf x (lead_in u f)) (sym same) (coefficient_in_free u (degree_in u f) f)
  | inr other ↦ lead_in_keeps_free y u f (free y (omega (arith, from, other)))
]

module _ (p n u : ℕ) (chain : List Polynomial) where
  -- a row that isn't 0, reduced below u, without main variables after u
  pub record IsReducedRow (h : Row Polynomial) : Type 0 where
    pub canonical : IsPolynomial p n h.first
    pub nonzero : h.first ≢ []
    pub below : IsReducedBy h.first (members_below u chain)
    pub lacks : LacksMainFrom (suc u) h.first chain

  -- its lead is a new head
  pub lead_new : (h : Row Polynomial) → IsReducedRow h → IsNewHead p n chain (lead_in u h.first)
  lead_new h row = record {
    canonical = IsPolynomial-coefficient_in u (degree_in u h.first) p n h.first row.canonical;
    nonzero = lead_in_nonzero u h.first row.nonzero;
    reduced = reduced_by_whole u chain (lead_in u h.first) (reduced_alike h.first (lead_in u h.first) (λ v. lead_low u v h.first) (members_below u chain) row.below) (lacks_free u (lead_in u h.first) chain (coefficient_in_free u (degree_in u h.first) h.first) (lacks_alike (suc u) h.first (lead_in u h.first) chain (λ x from free. lead_in_keeps_free x u h.first free) row.lacks));
  }

  -- and so with each
  pub leads_new : (rows : List (Row Polynomial)) → EachRow IsReducedRow rows → AllByRecursion (IsNewHead p n chain) (leads (list_operations p n) u rows)
  leads_new [] each = tt
  leads_new (h ∷ rows) each = (lead_new h each.0, leads_new rows each.1)

-- The first turn of rows below a triangular set.
use Rattle.std.proofs.Common.{◌≡◌, ℕ, List, [], ◌∷◌, length, None, refl, sym, ap, ◌∙◌}
use Rattle.mono_words.specs.declared.mono.TheConstants.{VARS}
use Rattle.polynomials.specs.Primes.{IsPrime}
use Rattle.polynomials.specs.Polynomials.{Polynomial}
use Rattle.polynomials.proofs.PolynomialRing.{CanonicalPolynomial}
use Rattle.division_rules.specs.Rows.{Row, first_entries}
use Rattle.division_rules.specs.Chains.{EachRow}
use Rattle.division_rules.specs.PolynomialRows.{IsPolynomialRow, ArePolynomialRows}
use Rattle.division_rules.proofs.Identity.{length-map_by}
use Rattle.division_rules.proofs.PolynomialSetting.{polynomial_setting}
use Rattle.division_rules.proofs.Up.{up_all, up, up_rows, terms-up_all, down-up, down-up_rows}
use Rattle.row_laws.specs.Words.{StartRemainderRows}
use Rattle.row_laws.proofs.Starts.{start_base, start_turn}
use Rattle.subresultants.proofs.CofactorCounts.{HasCount}
use Rattle.subresultants.proofs.RowTurns.{IsCanonicalTurn, IsRowTurn}

module _ (p v : ℕ) (prime : IsPrime p) (count : ℕ) where
  -- as many cofactors as the list of terms has
  count_up : (f : Row Polynomial) (i : IsPolynomialRow p VARS f) → length f.cofactors ≡ count → HasCount (polynomial_setting p VARS prime) count (up p VARS prime.many f i)
  count_up f i e = sym (length-map_by (λ (x : CanonicalPolynomial p VARS). x.0) (up_all p VARS prime.many f.cofactors i.1)) ∙ ap length (terms-up_all p VARS prime.many f.cofactors i.1) ∙ e

  counts_up : (rows : List (Row Polynomial)) (are : ArePolynomialRows p VARS rows) → EachRow (λ f. length f.cofactors ≡ count) rows → EachRow (HasCount (polynomial_setting p VARS prime) count) (up_rows p VARS prime.many rows are)
  counts_up [] are each = tt
  counts_up (f ∷ rows) are each = (count_up f are.0 each.0, counts_up rows are.1 each.1)

  module _ (chain : List (Row Polynomial)) (are : ArePolynomialRows p VARS chain) (t c : Row Polynomial) (it : IsPolynomialRow p VARS t) (ic : IsPolynomialRow p VARS c) (start : StartRemainderRows v (first_entries chain) t.first c.first) (counts : EachRow (λ f. length f.cofactors ≡ count) (t ∷ c ∷ chain)) where
    -- t and c make the first turn
    pub start_canonical : IsCanonicalTurn p v prime count (up_rows p VARS prime.many chain are) None (up p VARS prime.many t it) (up p VARS prime.many c ic)
    start_canonical = record {
      base = start_base p VARS prime v chain are t.first c.first start;
      turn = start_turn p VARS prime v chain are t c it ic start;
      high = start.occurs;
      chain_counts = counts_up chain are counts.1.1;
      first_count = count_up t it counts.0;
      second_count = count_up c ic counts.1.0;
    }

    pub start_row_turn : IsRowTurn p v count chain None t c
    start_row_turn = record {
      prime = prime;
      low = up_rows p VARS prime.many chain are;
      memory = None;
      first = up p VARS prime.many t it;
      second = up p VARS prime.many c ic;
      low_is = down-up_rows p VARS prime.many chain are;
      memory_is = refl;
      first_is = down-up p VARS prime.many t it;
      second_is = down-up p VARS prime.many c ic;
      canonical = start_canonical;
    }

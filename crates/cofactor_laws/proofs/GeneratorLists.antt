-- Remainder rows of lists of terms with cofactors, as those of canonical polynomials.
use Rattle.std.proofs.Common.{◌≡◌, ℕ, List, [], ◌∷◌, length, replicate, None, refl, sym, ap, ap₂, ◌∙◌, subst}
use Rattle.polynomials.specs.Primes.{IsPrime}
use Rattle.polynomials.specs.Polynomials.{Polynomial, ArePolynomials, one_of}
use Rattle.polynomials.specs.Views.{degree_in}
use Rattle.polynomials.proofs.PolynomialRing.{CanonicalPolynomial}
use Rattle.division_rules.specs.Lists.{list_operations}
use Rattle.division_rules.specs.PolynomialRows.{ArePolynomialRows}
use Rattle.division_rules.specs.Rows.{Row, plain, plains, first_entries}
use Rattle.division_rules.specs.RemainderRows.{LaterRows, remainder_rows}
use Rattle.division_rules.specs.Turns.{IsBase, IsTurn}
use Rattle.division_rules.specs.Units.{unit_rows}
use Rattle.division_rules.specs.Cofactors.{AreCofactorSteps}
use Rattle.division_rules.proofs.CanonicalViews.{canonical_operations}
use Rattle.division_rules.proofs.Down.{terms_all, down, down_all}
use Rattle.division_rules.proofs.DownRows.{down_rows, down-remainder_rows}
use Rattle.division_rules.proofs.GeneratorRows.{row_of_first, row_of_second, generator_rows_steps}
use Rattle.division_rules.proofs.PolynomialSetting.{polynomial_setting}
use Rattle.division_rules.proofs.Settings.{ViewedRing}
use Rattle.division_rules.proofs.Up.{up_all, up_rows, terms-up_all, length-up_all}
use Rattle.row_laws.specs.Words.{StartRemainderRows}
use Rattle.row_laws.proofs.CombinationRows.{terms-zeros, down-unit_rows}
use Rattle.row_laws.proofs.ReductionValues.{first_entries-plains}
use Rattle.row_laws.proofs.Starts.{start_base, start_turn}
use Rattle.cofactor_laws.specs.RowsWithCofactors.{row_of_c, row_of_t, rows_of_chain, rows_with_cofactors}
use Rattle.cofactor_laws.proofs.DownSteps.{down_steps}

-- polynomials as rows without cofactors are canonical
abbrev pub plain_rows_are : (p n : ℕ) (fs : List Polynomial) → ArePolynomials p n fs → ArePolynomialRows p n (plains fs)
plain_rows_are p n [] are = tt
plain_rows_are p n (f ∷ fs) are = ((are.0, tt), plain_rows_are p n fs are.1)

module _ (p n : ℕ) (prime : IsPrime p) where
  abbrev P : ViewedRing (CanonicalPolynomial p n)
  P = polynomial_setting p n prime

  -- as rows of canonical polynomials they have no cofactors either
  pub up-plains : (fs : List Polynomial) (are : ArePolynomials p n fs) → up_rows p n prime.many (plains fs) (plain_rows_are p n fs are) ≡ plains (up_all p n prime.many fs are)
  up-plains [] are = refl
  up-plains (f ∷ fs) are = ap (λ rows. plain (f, are.0) ∷ rows) (up-plains fs are.1)

  module _ (w v : ℕ) (t c : Polynomial) (chain : List Polynomial) (are : ArePolynomials p n (c ∷ t ∷ chain)) (start : StartRemainderRows v chain t c) where
    -- c, t and the chain as canonical polynomials
    abbrev pub canonical_c : CanonicalPolynomial p n
    canonical_c = (c, are.0)

    abbrev pub canonical_t : CanonicalPolynomial p n
    canonical_t = (t, are.1.0)

    abbrev pub canonical_chain : List (CanonicalPolynomial p n)
    canonical_chain = up_all p n prime.many chain are.1.1

    start_plain : StartRemainderRows v (first_entries (plains chain)) t c
    start_plain = subst (λ fs. StartRemainderRows v fs t c) (sym (first_entries-plains chain)) start

    pub base : IsBase P.ring P.views P.laws v (plains canonical_chain)
    base = subst (IsBase P.ring P.views P.laws v) (up-plains chain are.1.1) (start_base p n prime v (plains chain) (plain_rows_are p n chain are.1.1) t c start_plain)

    pub turn : IsTurn P.ring P.views P.laws v (plains canonical_chain) None (plain canonical_t) (plain canonical_c)
    turn = subst (λ rows. IsTurn P.ring P.views P.laws v rows None (plain canonical_t) (plain canonical_c)) (up-plains chain are.1.1) (start_turn p n prime v (plains chain) (plain_rows_are p n chain are.1.1) (plain t) (plain c) (are.1.0, tt) (are.0, tt) start_plain)

    -- their rows with cofactors
    abbrev pub second : Row (CanonicalPolynomial p n)
    second = row_of_second P canonical_c canonical_t canonical_chain

    abbrev pub first : Row (CanonicalPolynomial p n)
    first = row_of_first P canonical_c canonical_t canonical_chain

    abbrev pub chain_units : List (Row (CanonicalPolynomial p n))
    chain_units = unit_rows (canonical_operations p n prime.many) 2 canonical_chain

    abbrev pub canonical_rows : LaterRows (CanonicalPolynomial p n)
    canonical_rows = remainder_rows (canonical_operations p n prime.many) w v chain_units second first

    -- are those of the lists of terms
    zeros_down : terms_all p n prime.many (replicate (length canonical_chain) (canonical_operations p n prime.many).nil) ≡ replicate (length chain) []
    zeros_down = terms-zeros p n prime (length canonical_chain) ∙ ap (λ k. replicate k []) (length-up_all p n prime.many chain are.1.1)

    pub down-second : down p n prime.many second ≡ row_of_t n t chain
    down-second = ap (λ cs. record { first = t; cofactors = [] ∷ one_of n ∷ cs }) zeros_down

    pub down-first : down p n prime.many first ≡ row_of_c n c chain
    down-first = ap (λ cs. record { first = c; cofactors = one_of n ∷ [] ∷ cs }) zeros_down

    pub down-chain_units : down_all p n prime.many chain_units ≡ rows_of_chain p n chain
    down-chain_units = down-unit_rows p n prime 2 canonical_chain ∙ ap (unit_rows (list_operations p n) 2) (terms-up_all p n prime.many chain are.1.1)

    pub down-canonical_rows : down_rows p n prime.many canonical_rows ≡ rows_with_cofactors p n w v t c chain
    down-canonical_rows = down-remainder_rows p n prime.many w v chain_units second first ∙ ap (λ rows. remainder_rows (list_operations p n) w v rows (down p n prime.many second) (down p n prime.many first)) down-chain_units ∙ ap₂ (remainder_rows (list_operations p n) w v (rows_of_chain p n chain)) down-second down-first

    -- the steps of the cofactors of c
    pub canonical_steps : AreCofactorSteps (canonical_operations p n prime.many) w v chain_units (degree_in v t) None second first canonical_rows.later canonical_rows.last
    canonical_steps = generator_rows_steps P w v canonical_c canonical_t canonical_chain base turn

    pub list_steps : AreCofactorSteps (list_operations p n) w v (rows_of_chain p n chain) (degree_in v t) None (row_of_t n t chain) (row_of_c n c chain) (rows_with_cofactors p n w v t c chain).later (rows_with_cofactors p n w v t c chain).last
    list_steps = subst (λ rows. AreCofactorSteps (list_operations p n) w v (rows_of_chain p n chain) (degree_in v t) None (row_of_t n t chain) (row_of_c n c chain) rows.later rows.last) down-canonical_rows (subst (λ f. AreCofactorSteps (list_operations p n) w v (rows_of_chain p n chain) (degree_in v t) None f (row_of_c n c chain) down_of.later down_of.last) down-second (subst (λ g. AreCofactorSteps (list_operations p n) w v (rows_of_chain p n chain) (degree_in v t) None (down p n prime.many second) g down_of.later down_of.last) down-first (subst (λ rows. AreCofactorSteps (list_operations p n) w v rows (degree_in v t) None (down p n prime.many second) (down p n prime.many first) down_of.later down_of.last) down-chain_units (down_steps p n prime.many w v chain_units (degree_in v t) None second first canonical_rows.later canonical_rows.last canonical_steps))))
      where
        down_of : LaterRows Polynomial
        down_of = down_rows p n prime.many canonical_rows

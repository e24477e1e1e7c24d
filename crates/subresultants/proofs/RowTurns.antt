-- Turns of rows of lists of terms, as turns of rows of canonical polynomials.
use Rattle.std.proofs.Common.{◌≡◌, ◌≢◌, ◌<◌, ◌≤◌, ℕ, Bool, true, false, List, [], length, Some, None, refl, sym, ap, subst, ◌∙◌, arith, unwrap_or}
use Rattle.mono_words.specs.declared.mono.TheConstants.{VARS}
use Rattle.polynomials.specs.Primes.{IsPrime}
use Rattle.polynomials.specs.Polynomials.{Polynomial, is_zero}
use Rattle.polynomials.specs.Views.{degree_in}
use Rattle.polynomials.proofs.PolynomialRing.{CanonicalPolynomial, canonical_path}
use Rattle.division_rules.specs.Operations.{lead}
use Rattle.division_rules.specs.Rows.{Row}
use Rattle.division_rules.specs.Chains.{EachRow}
use Rattle.division_rules.specs.PolynomialRows.{IsPolynomialRow}
use Rattle.division_rules.specs.RemainderRows.{TurnBefore, divided, fall, psi, beta, next_psi, next_beta, undivided, next_row}
use Rattle.division_rules.specs.RemainderRowsWithin.{psi_within, beta_within, undivided_within}
use Rattle.division_rules.specs.Turns.{IsBase, IsTurn}
use Rattle.division_rules.specs.Within.{and_then}
use Rattle.division_rules.proofs.Settings.{ViewedRing}
use Rattle.division_rules.proofs.CanonicalViews.{canonical_operations}
use Rattle.division_rules.proofs.PolynomialSetting.{polynomial_setting}
use Rattle.division_rules.proofs.Down.{down, down_all}
use Rattle.division_rules.proofs.DownRows.{down_memory, down-undivided, down-next_row, terms-next_psi}
use Rattle.division_rules.proofs.Identity.{length-map_by}
use Rattle.division_rules.proofs.Up.{down_canonical}
use Rattle.division_rules.proofs.Turns.{next_turn}
use Rattle.division_rules.proofs.WithinLimits.{Gives, gives-then, gives-choice, gives-undivided, gives-psi, gives-beta}
use Rattle.pseudo_division.specs.FieldOperations.{operations}
use Rattle.subresultants.specs.Turns.{IsTurnBeforeOver, divisors_within, divided_turn, turn_within}
use Rattle.subresultants.specs.declared.turn.NextRow.{NextRow}
use Rattle.subresultants.specs.declared.turn.NextRow.TheVariants.{Zero, Later}
use Rattle.subresultants.proofs.CofactorCounts.{HasCount, count-next_row}
use Rattle.subresultants.proofs.Nonzero.{gives_is}

module _ (p w v : ℕ) where
  -- a turn without a limit on products
  abbrev turn_of : List (Row Polynomial) → TurnBefore (operations p) → Row Polynomial → Row Polynomial → NextRow
  turn_of chain m f g = elim (is_zero (undivided (operations p) v chain f g).first) [
    | true ↦ Zero (undivided (operations p) v chain f g)
    | false ↦ Later (next_row (operations p) w v chain m f g) (next_psi (operations p) w v m f, fall (operations p) v f g)
  ]

  gives-divisors : (m : TurnBefore (operations p)) (f g : Row Polynomial) → Gives (divisors_within p w v m f (fall (operations p) v f g)) (next_psi (operations p) w v m f, next_beta (operations p) w v m f g)
  gives-divisors m f g = gives-then (psi_within (operations p) w m l) (psi (operations p) w m l) (λ q. and_then (beta_within (operations p) w m l q d) (λ b. Some (q, b))) (λ q. (q, beta (operations p) m l q d)) (gives-psi (operations p) w m l) (λ q. gives-then (beta_within (operations p) w m l q d) (beta (operations p) m l q d) (λ b. Some (q, b)) (λ b. (q, b)) (gives-beta (operations p) w m l q d) (λ b. refl))
    where
      l : Polynomial
      l = lead (operations p) v f.first

      d : ℕ
      d = fall (operations p) v f g

  -- within a width it is the same where there is one
  gives-turn : (chain : List (Row Polynomial)) (m : TurnBefore (operations p)) (f g : Row Polynomial) → Gives (turn_within p w v chain m f g) (turn_of chain m f g)
  gives-turn chain m f g = gives-then (undivided_within (operations p) w v chain f g) (undivided (operations p) v chain f g) (λ s. divided_turn p w v m f g s) (λ s. elim (is_zero s.first) as (λ _. NextRow) [ true ↦ Zero s | false ↦ later s (q, b) ]) (gives-undivided (operations p) w v chain f g) (λ s. gives-choice (is_zero s.first) (Some (Zero s)) (and_then (divisors_within p w v m f d) (λ qb. Some (later s qb))) (Zero s) (later s (q, b)) refl (gives-then (divisors_within p w v m f d) (q, b) (λ qb. Some (later s qb)) (later s) (gives-divisors m f g) (λ qb. refl)))
    where
      d : ℕ
      d = fall (operations p) v f g

      q : Polynomial
      q = next_psi (operations p) w v m f

      b : Polynomial
      b = next_beta (operations p) w v m f g

      later : Row Polynomial → Polynomial × Polynomial → NextRow
      later s qb = Later (unwrap_or (divided (operations p) w qb.1 s) s) (qb.0, d)

-- a turn of rows of canonical polynomials, each with count cofactors
pub record IsCanonicalTurn (p v : ℕ) (prime : IsPrime p) (count : ℕ) (low : List (Row (CanonicalPolynomial p VARS))) (memory : TurnBefore (canonical_operations p VARS prime.many)) (first second : Row (CanonicalPolynomial p VARS)) : Type 0 where
  pub base : IsBase (polynomial_setting p VARS prime).ring (polynomial_setting p VARS prime).views (polynomial_setting p VARS prime).laws v low
  pub turn : IsTurn (polynomial_setting p VARS prime).ring (polynomial_setting p VARS prime).views (polynomial_setting p VARS prime).laws v low memory first second
  pub high : 1 ≤ degree_in v second.first.0
  pub chain_counts : EachRow (HasCount (polynomial_setting p VARS prime) count) low
  pub first_count : HasCount (polynomial_setting p VARS prime) count first
  pub second_count : HasCount (polynomial_setting p VARS prime) count second

-- f and g are the lists of terms of such a turn, and so are the chain and what is remembered
pub record IsRowTurn (p v : ℕ) (count : ℕ) (chain : List (Row Polynomial)) (m : TurnBefore (operations p)) (f g : Row Polynomial) : Type 0 where
  pub prime : IsPrime p
  pub low : List (Row (CanonicalPolynomial p VARS))
  pub memory : TurnBefore (canonical_operations p VARS prime.many)
  pub first : Row (CanonicalPolynomial p VARS)
  pub second : Row (CanonicalPolynomial p VARS)
  pub low_is : down_all p VARS prime.many low ≡ chain
  pub memory_is : down_memory p VARS prime.many memory ≡ m
  pub first_is : down p VARS prime.many first ≡ f
  pub second_is : down p VARS prime.many second ≡ g
  pub canonical : IsCanonicalTurn p v prime count low memory first second

module _ (p v count : ℕ) (chain : List (Row Polynomial)) (m : TurnBefore (operations p)) (f g : Row Polynomial) (t : IsRowTurn p v count chain m f g) where
  -- both rows are canonical
  pub first_canonical : IsPolynomialRow p VARS f
  first_canonical = subst (IsPolynomialRow p VARS) t.first_is (down_canonical p VARS t.prime.many t.first)

  pub second_canonical : IsPolynomialRow p VARS g
  second_canonical = subst (IsPolynomialRow p VARS) t.second_is (down_canonical p VARS t.prime.many t.second)

  -- the first isn't 0
  pub first_some : f.first ≢ []
  first_some none = t.canonical.turn.before (canonical_path p VARS _ _ (ap (λ (x : Row Polynomial). x.first) t.first_is ∙ none))

  -- the second has v, and a lesser degree in it
  pub second_high : 1 ≤ degree_in v g.first
  second_high = subst (λ (x : Row Polynomial). 1 ≤ degree_in v x.first) t.second_is t.canonical.high

  pub second_less : degree_in v g.first < degree_in v f.first
  second_less = subst (λ (x : Row Polynomial). degree_in v g.first < degree_in v x.first) t.first_is (subst (λ (x : Row Polynomial). degree_in v x.first < degree_in v t.first.first.0) t.second_is t.canonical.turn.falls)

  -- both have as many cofactors
  pub first_count : length f.cofactors ≡ count
  first_count = ap (λ (x : Row Polynomial). length x.cofactors) (sym t.first_is) ∙ length-map_by (λ (x : CanonicalPolynomial p VARS). x.0) t.first.cofactors ∙ t.canonical.first_count

  pub second_count : length g.cofactors ≡ count
  second_count = ap (λ (x : Row Polynomial). length x.cofactors) (sym t.second_is) ∙ length-map_by (λ (x : CanonicalPolynomial p VARS). x.0) t.second.cofactors ∙ t.canonical.second_count

  -- psi is canonical and isn't 0
  pub memory_over : IsTurnBeforeOver p m
  memory_over = subst (IsTurnBeforeOver p) t.memory_is (go t.memory t.canonical.turn)
    where
      go : (memory : TurnBefore (canonical_operations p VARS t.prime.many)) → IsTurn (polynomial_setting p VARS t.prime).ring (polynomial_setting p VARS t.prime).views (polynomial_setting p VARS t.prime).laws v t.low memory t.first t.second → IsTurnBeforeOver p (down_memory p VARS t.prime.many memory)
      go None turn = tt
      go (Some x) turn = (x.0.1, λ none. turn.memory.0 (canonical_path p VARS _ _ none))

  -- the row that follows makes the next turn
  pub next_row_turn : (w : ℕ) (h : Row Polynomial) (next : Polynomial × ℕ) → turn_within p w v chain m f g ≡ Some (Later h next) → degree_in v h.first ≢ 0 → IsRowTurn p v count chain (Some next) g h
  next_row_turn w h next e deep = go (is_zero (undivided (operations p) v chains first second).first) refl (gives_is (turn_within p w v chain m f g) (Later h next) (turn_of p w v chain m f g) (gives-turn p w v chain m f g) e ∙ sym same)
    where
      P : ViewedRing (CanonicalPolynomial p VARS)
      P = polynomial_setting p VARS t.prime

      chains : List (Row Polynomial)
      chains = down_all p VARS t.prime.many t.low

      memory : TurnBefore (operations p)
      memory = down_memory p VARS t.prime.many t.memory

      first : Row Polynomial
      first = down p VARS t.prime.many t.first

      second : Row Polynomial
      second = down p VARS t.prime.many t.second

      same : turn_of p w v chains memory first second ≡ turn_of p w v chain m f g
      same = ap (λ x. turn_of p w v x memory first second) t.low_is ∙ ap (λ x. turn_of p w v chain x first second) t.memory_is ∙ ap (λ x. turn_of p w v chain m x second) t.first_is ∙ ap (λ x. turn_of p w v chain m f x) t.second_is

      h_row : Row (CanonicalPolynomial p VARS)
      h_row = next_row (canonical_operations p VARS t.prime.many) w v t.low t.memory t.first t.second

      h_memory : TurnBefore (canonical_operations p VARS t.prime.many)
      h_memory = Some (next_psi (canonical_operations p VARS t.prime.many) w v t.memory t.first, fall (canonical_operations p VARS t.prime.many) v t.first t.second)

      h_down : down p VARS t.prime.many h_row ≡ next_row (operations p) w v chains memory first second
      h_down = down-next_row p VARS t.prime.many w v t.low t.memory t.first t.second

      psi_down : (next_psi (canonical_operations p VARS t.prime.many) w v t.memory t.first).0 ≡ next_psi (operations p) w v memory first
      psi_down = terms-next_psi p VARS t.prime.many w v t.memory t.first

      go : (b : Bool) → is_zero (undivided (operations p) v chains first second).first ≡ b → Later h next ≡ elim b as (λ _. NextRow) [ true ↦ Zero (undivided (operations p) v chains first second) | false ↦ Later (next_row (operations p) w v chains memory first second) (next_psi (operations p) w v memory first, fall (operations p) v first second) ] → IsRowTurn p v count chain (Some next) g h
      go true z is = cc
      go false z is =
          let h_is : h ≡ next_row (operations p) w v chains memory first second = cc in
          let next_is : next ≡ (next_psi (operations p) w v memory first, fall (operations p) v first second) = cc in
          let some = t.canonical.turn.after in
          record {
            prime = t.prime;
            low = t.low;
            memory = h_memory;
            first = t.second;
            second = h_row;
            low_is = t.low_is;
            memory_is = ap (λ q. Some (q, fall (operations p) v first second)) psi_down ∙ ap (λ x. Some x) (sym next_is);
            first_is = t.second_is;
            second_is = h_down ∙ sym h_is;
            canonical = record {
              base = t.canonical.base;
              turn = next_turn P w v t.low t.canonical.base t.memory t.first t.second t.canonical.turn (P.laws.nonzero_by_test (undivided (canonical_operations p VARS t.prime.many) v t.low t.first t.second).first (ap (λ (x : Row Polynomial). is_zero x.first) (down-undivided p VARS t.prime.many v t.low t.first t.second) ∙ z));
              high = high (ap (λ (x : Row Polynomial). degree_in v x.first) (h_down ∙ sym h_is));
              chain_counts = t.canonical.chain_counts;
              first_count = t.canonical.second_count;
              second_count = count-next_row P count w v t.low t.memory t.first t.second t.canonical.chain_counts t.canonical.first_count t.canonical.second_count;
            };
          }
        where
          high : degree_in v h_row.first.0 ≡ degree_in v h.first → 1 ≤ degree_in v h_row.first.0
          high d = omega (arith, d, deep)

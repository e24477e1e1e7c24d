-- There is at most one child for each degree that remainder rows can have, and one where the initial is 0.
use Rattle.std.proofs.Common.{◌≡◌, ℕ, suc, ◌+◌, ◌<◌, ◌≤◌, max, List, [], ◌∷◌, ◌++◌, map, length, length-append, Option, Some, None, refl, sym, ap, ◌∙◌, subst, arith}
use Rattle.std.proofs.lemmas.List.{length-map}
use Rattle.polynomials.specs.Primes.{IsPrime}
use Rattle.polynomials.specs.Polynomials.{Polynomial, IsPolynomial, ArePolynomials}
use Rattle.polynomials.specs.Views.{degree_in, lead_in, tail_in, main_var}
use Rattle.zero_sets.specs.ZeroSets.{IsTriangular, member_in, members_below}
use Rattle.zero_sets.specs.Tasks.{is_known_nonzero, with_nonzero}
use Rattle.division_rules.specs.Rows.{Row, plain}
use Rattle.division_rules.specs.Lists.{list_operations}
use Rattle.division_rules.specs.RemainderRows.{leads}
use Rattle.division_rules.specs.Turns.{DegreesFall}
use Rattle.division_rules.proofs.Steps.{choose}
use Rattle.impose_rules.specs.Leads.{unknown_from, lead_cases}
use Rattle.impose_rules.specs.Impose.{child_initial, child_lead, child_common}
use Rattle.impose_laws.specs.Laws.{ChildrenAreFew}
use Rattle.impose_laws.proofs.RowStarts.{IsStart}
use Rattle.impose_laws.proofs.RowShapes.{rows, rows_degrees}
use Rattle.impose_rules.proofs.ChainParts.{member_of_chain}
use Rattle.impose_laws.proofs.Heads.{IsHead, start_of}
use Rattle.impose_laws.proofs.ChildrenCases.{by_rows, by_children}
use Rattle.impose_laws.proofs.CommonRows.{row_leads, later_rows, last_polynomial}

-- of leads at most each is a case
length-unknown_from : (p : ℕ) (ns : List Polynomial) (j : ℕ) (hs : List Polynomial) → length (unknown_from p ns j hs) ≤ length hs
length-unknown_from p ns j [] = omega arith
length-unknown_from p ns j (h ∷ hs) =
    let fewer = length-unknown_from p (with_nonzero p ns h) (suc j) hs in
    choose (λ js. length js ≤ suc (length hs)) (is_known_nonzero p ns h) (unknown_from p (with_nonzero p ns h) (suc j) hs) (j ∷ unknown_from p (with_nonzero p ns h) (suc j) hs) (λ e. omega arith) (λ e. omega arith)

-- each row has a lead
pub length-leads : (p n v : ℕ) (later : List (Row Polynomial)) → length (leads (list_operations p n) v later) ≡ length later
length-leads p n v [] = refl
length-leads p n v (f ∷ later) = ap suc (length-leads p n v later)

-- rows with falling degrees are no more than the first degree
falling_count : (p n v : ℕ) (g : Row Polynomial) (later : List (Row Polynomial)) → DegreesFall (list_operations p n) v g later None → length later ≤ degree_in v g.first
falling_count p n v g [] h = omega arith
falling_count p n v g (f ∷ later) h =
    let rest = falling_count p n v f later h.2 in
    let less : degree_in v f.first < degree_in v g.first = h.0 in
    omega (arith, rest, less)

-- and fewer where a zero row follows
pub falling_count_zero : (p n v : ℕ) (g : Row Polynomial) (later : List (Row Polynomial)) (z : Row Polynomial) → DegreesFall (list_operations p n) v g later (Some z) → length later < degree_in v g.first
falling_count_zero p n v g [] z h = h.0
falling_count_zero p n v g (f ∷ later) z h =
    let rest = falling_count_zero p n v f later z h.2 in
    let less : degree_in v f.first < degree_in v g.first = h.0 in
    omega (arith, rest, less)

module _ (p n w : ℕ) (prime : IsPrime p) (chain rest ns : List Polynomial) (are : ArePolynomials p n chain) (are_ns : ArePolynomials p n ns) (triangular : IsTriangular chain) where
  -- there is at most one child for the initial
  length-child_initial : (v : ℕ) (g : Polynomial) → length (child_initial p n w chain rest ns v g) ≤ 1
  length-child_initial v g = choose (λ kids. length kids ≤ 1) (is_known_nonzero p ns (lead_in v g)) [] (record { chain = chain; queue = lead_in v g ∷ tail_in v g ∷ rest; nonzero = ns } ∷ []) (λ e. omega arith) (λ e. omega arith)

  -- with the rows after it a last one has no more than the degree of the first
  common_count : (v : ℕ) (ls : List Polynomial) (last : Polynomial) (g : Row Polynomial) (later : List (Row Polynomial)) (o : Option (Row Polynomial)) → DegreesFall (list_operations p n) v g later o → length (child_common p n w chain rest ns v ls last o) + length later ≤ degree_in v g.first
  common_count v ls last g later None h = let count = falling_count p n v g later h in omega arith
  common_count v ls last g later (Some z) h = let count = falling_count_zero p n v g later z h in omega arith

  -- so there are no more children than the degree of the polynomial in whose place the last row comes
  rows_count : (f : Polynomial) (i : IsPolynomial p n f) (v : ℕ) (g t : Polynomial) (head : IsHead p n chain g) (main : main_var g ≡ Some v) (found : member_in v chain ≡ Some t) → length (by_rows p n w prime chain rest ns are are_ns triangular f i v g t head main found) ≤ degree_in v t
  rows_count f i v g t head main found =
      let start : IsStart p n v (members_below v chain) t g = start_of p n w prime chain ns are are_ns triangular v g t head main found in
      let later = later_rows p n prime w v (members_below v chain) t g start in
      let ls = row_leads p n prime w v (members_below v chain) t g start in
      let common = child_common p n w chain rest ns v ls (last_polynomial p n prime w v (members_below v chain) t g start) (rows p n prime w v (members_below v chain) t g start).last in
      let cases = map (child_lead p n w chain rest ns g ls) (lead_cases p ns ls) in
      let initial = child_initial p n w chain rest ns v g in
      let falls : degree_in v g < degree_in v t = start.falls in
      let with_common = common_count v ls (last_polynomial p n prime w v (members_below v chain) t g start) (plain g) later (rows p n prime w v (members_below v chain) t g start).last (rows_degrees p n prime w v (members_below v chain) t g start) in
      let of_cases : length cases ≤ length later = subst (λ k. length cases ≤ k) (length-leads p n v later) (subst (λ k. k ≤ length (leads (list_operations p n) v later)) (sym (length-map (lead_cases p ns ls) (child_lead p n w chain rest ns g ls))) (length-unknown_from p (with_nonzero p ns (lead_in v g)) 2 (leads (list_operations p n) v later))) in
      counted (length common) (length cases) (length initial) (length later) (degree_in v g) (degree_in v t) (length ((common ++ cases) ++ initial)) (length-append (common ++ cases) initial ∙ ap (λ k. k + length initial) (length-append common cases)) with_common of_cases (length-child_initial v g) falls
    where
      counted : (a b c k d e total : ℕ) → total ≡ a + b + c → a + k ≤ d → b ≤ k → c ≤ 1 → d < e → total ≤ e
      counted a b c k d e total same with_common of_cases of_initial falls = omega arith

-- the law of counts
pub children_are_few : ChildrenAreFew
children_are_few p n w d task f rest prime over triangular starts low =
    let queue = subst (ArePolynomials p n) starts over.1 in
    by_children p n w prime task.chain rest task.nonzero over.0 over.2 triangular f queue.0 (λ kids. length kids ≤ max 2 d) (λ g made head null. omega arith) (λ g made head some e. omega arith) (λ v g made head main. let one = length-child_initial p n w prime task.chain rest task.nonzero over.0 over.2 triangular v g in omega arith) (λ v g t made head main found. let count = rows_count p n w prime task.chain rest task.nonzero over.0 over.2 triangular f queue.0 v g t head main found in let bound = (member_of_chain (λ u. (x : ℕ) → degree_in x u ≤ d) v task.chain t found low).0 v in omega (arith, count, bound))

-- What an initial gives way to is lawful, and so is its certificate.
use Rattle.std.proofs.Common.{◌≡◌, ◌≢◌, ℕ, zero, suc, ◌-◌, ◌<◌, ◌≤◌, ◌^◌, Bool, true, false, cond, not, List, [], ◌∷◌, length, replicate, map, filter, drop, get_or, Some, IfSome, refl, sym, ◌∙◌, subst, arith}
use Rattle.std.specs.List.{AllByRecursion}
use Rattle.polynomials.specs.Primes.{IsPrime}
use Rattle.polynomials.specs.Polynomials.{Polynomial, IsPolynomial, monic, is_zero, one_of}
use Rattle.polynomials.specs.Views.{degree_in, initial_of, AreFreeOf}
use Rattle.polynomials.proofs.MainVariables.{degree_in_main_var}
use Rattle.polynomials.proofs.MonicLemmas.{IsPolynomial-monic}
use Rattle.polynomials.proofs.InitialLemmas.{initial_of-lead_in, initial_of_keeps_free}
use Rattle.polynomials.proofs.Powers.{one_is_free}
use Rattle.zero_sets.specs.Tasks.{is_known_nonzero}
use Rattle.zero_sets.specs.ZeroSets.{IsTriangular, member_in, members_below}
use Rattle.zero_sets.proofs.TriangularSets.{below_triangular}
use Rattle.division_rules.specs.Chains.{EachRow, IfRow}
use Rattle.division_rules.specs.Cofactors.{first_cofactor}
use Rattle.division_rules.specs.Lists.{list_operations}
use Rattle.division_rules.specs.PolynomialRows.{IsPolynomialRow}
use Rattle.division_rules.specs.RemainderRows.{LaterRows, leads}
use Rattle.division_rules.specs.Rows.{Row}
use Rattle.division_rules.specs.Turns.{last_row, DegreesFall}
use Rattle.division_rules.specs.Units.{unit_rows, entrywise_sum}
use Rattle.division_rules.specs.Within.{times_all_within}
use Rattle.division_rules.proofs.RowsShape.{last_of}
use Rattle.division_rules.proofs.Steps.{choose}
use Rattle.row_laws.specs.Combinations.{IsRowOver}
use Rattle.row_laws.specs.Compositions.{spread}
use Rattle.row_laws.specs.Degrees.{IsRowFreeOf}
use Rattle.row_laws.proofs.FallingRows.{reductions_are_free}
use Rattle.row_laws.proofs.FreeCompositions.{compositions_are_free}
use Rattle.row_laws.proofs.ReductionValues.{first_entries-unit_rows}
use Rattle.cofactor_laws.specs.RowsWithCofactors.{row_of_c, row_of_t, rows_of_chain}
use Rattle.cofactor_laws.proofs.ReducedCofactors.{unit_free, rows_free}
use Rattle.impose_rules.proofs.ChainParts.{each_below, member_of_chain}
use Rattle.impose_rules.proofs.Lists.{each_appended}
use Rattle.impose_laws.proofs.CommonRows.{lead_in_keeps_free}
use Rattle.impose_laws.proofs.FewChildren.{length-leads, falling_count_zero}
use Rattle.impose_laws.proofs.MonicForms.{degree_in-monic}
use Rattle.finish_rules.specs.Remainders.{remainder_of}
use Rattle.finish_rules.specs.Identities.{initial_row, composed_within, certificate_of}
use Rattle.finish_rules.specs.Turns.{IdentitySoFar, unknown_monic, composed_first, vanishing}
use Rattle.finish_laws.specs.Identities.{IsMemberOver, IsIdentity}
use Rattle.finish_laws.specs.Lawful.{IsLawfulPolynomial, AreLawfulPolynomials, IsLawfulChain, IsLawfulCertificate}
use Rattle.finish_laws.proofs.Compositions.{composed_is}
use Rattle.finish_laws.proofs.LawfulRemainders.{remainder_lawful}
use Rattle.finish_laws.proofs.Parts.{IsSmall, AreSmall, free_lawful, lawful_parts}
use Rattle.finish_laws.proofs.Results.{then_follows}
use Rattle.finish_laws.proofs.RowsAt.{rows_canonical, main_t, last_over, falling, are_leads, entries_free}
use Rattle.finish_laws.proofs.Small.{zero_small, sum_small, lead_small, monic_small}
use Rattle.finish_laws.proofs.SmallRows.{IsSmallRow, AreSmallRows, reduction_small, times_all_small, rows_small, last_small}
use Rattle.finish_laws.proofs.Starts.{row_is, row_of_h, member_is, units}
use Rattle.finish_laws.proofs.Turns.{MakesRows}

-- 1 and 0 among cofactors are small
one_small : (n : ℕ) → IsSmall (one_of n)
one_small n v = let none = one_is_free v n in omega (arith, none)

zeros_small : (k : ℕ) → AreSmall (replicate k [])
zeros_small zero = tt
zeros_small (suc k) = (zero_small, zeros_small k)

-- so are cofactors at their places, and sums
spread_small : (count : ℕ) (cs : List Polynomial) → AreSmall cs → AreSmall (spread count cs)
spread_small count [] small = zeros_small count
spread_small count (a ∷ []) small = zeros_small count
spread_small count (a ∷ b ∷ bs) small = (zero_small, each_appended IsSmall bs (b ∷ replicate (count - length (a ∷ b ∷ bs)) []) small.1.1 (small.1.0, zeros_small (count - length (a ∷ b ∷ bs))))

sums_small : (p n : ℕ) (cs ds : List Polynomial) → AreSmall cs → AreSmall ds → AreSmall (entrywise_sum (list_operations p n) cs ds)
sums_small p n [] ds small_cs small_ds = tt
sums_small p n (a ∷ cs) [] small_cs small_ds = tt
sums_small p n (a ∷ cs) (d ∷ ds) small_cs small_ds = (sum_small p a d small_cs.0 small_ds.0, sums_small p n cs ds small_cs.1 small_ds.1)

-- a composition within a width of a row and one that is small
composed_small : (p n w : ℕ) (f next : Row Polynomial) → IsSmallRow next → IfSome (composed_within p n w f next) IsSmallRow
composed_small p n w f next small = then_follows AreSmall IsSmallRow (times_all_within (list_operations p n) w (first_cofactor (list_operations p n) next) f.cofactors) (λ cs. Some (record { first = next.first; cofactors = entrywise_sum (list_operations p n) cs (spread (length f.cofactors) next.cofactors) })) (times_all_small p n w (first_cofactor (list_operations p n) next) f.cofactors) (λ cs small_cs. (small.0, sums_small p n cs (spread (length f.cofactors) next.cofactors) small_cs (spread_small (length f.cofactors) next.cofactors small.1)))

module _ (p n k : ℕ) where
  -- a row of small entries without the variables from k on
  pub record IsLawfulRow (f : Row Polynomial) : Type 0 where
    pub canonical : IsPolynomialRow p n f
    pub small : IsSmallRow f
    pub named : (x : ℕ) → k ≤ x → IsRowFreeOf x f

  lawful_first : (f : Row Polynomial) → IsLawfulRow f → IsLawfulPolynomial p n k f.first
  lawful_first f lawful = record { canonical = lawful.canonical.0; named = λ x past. (lawful.named x past).0; small = lawful.small.0 }

  lawful_cofactors : (f : Row Polynomial) → IsLawfulRow f → AreLawfulPolynomials p n k f.cofactors
  lawful_cofactors f lawful = lawful_parts p n k f.cofactors lawful.canonical.1 (λ x past. (lawful.named x past).1) lawful.small.1

  -- so is its first cofactor, and its certificate
  cofactor_lawful : (z : Row Polynomial) → IsLawfulRow z → IsLawfulPolynomial p n k (first_cofactor (list_operations p n) z)
  cofactor_lawful z lawful = go z.cofactors (lawful_cofactors z lawful)
    where
      go : (cs : List Polynomial) → AreLawfulPolynomials p n k cs → IsLawfulPolynomial p n k (get_or cs 0 [])
      go [] each = record { canonical = tt; named = λ x past. refl; small = zero_small }
      go (c ∷ cs) each = each.0

  pub certificate_lawful : (v : ℕ) (f : Row Polynomial) → IsLawfulRow f → IsLawfulCertificate p n k (certificate_of v f)
  certificate_lawful v f lawful = (cofactor_lawful f lawful, (lawful_first f lawful, behind f.cofactors (lawful_cofactors f lawful)))
    where
      behind : (cs : List Polynomial) → AreLawfulPolynomials p n k cs → AreLawfulPolynomials p n k (drop 1 cs)
      behind [] each = tt
      behind (c ∷ cs) each = each.1

-- no more unknown than all
length-unknown_monic : (p : ℕ) (ns ls : List Polynomial) → length (unknown_monic p ns ls) ≤ length ls
length-unknown_monic p ns [] = omega arith
length-unknown_monic p ns (l ∷ ls) = go (not (is_known_nonzero p ns l)) (length-unknown_monic p ns ls)
  where
    later : List Polynomial
    later = filter (λ f. not (is_known_nonzero p ns f)) ls

    go : (b : Bool) → length (unknown_monic p ns ls) ≤ length ls → length (map (monic p) (cond b (l ∷ later) later)) ≤ suc (length ls)
    go true fewer = omega (arith, fewer)
    go false fewer = omega (arith, fewer)

module _ (p n k w : ℕ) (prime : IsPrime p) (chain ns : List Polynomial) (lawful_chain : IsLawfulChain p n k chain) where
  below_named : (u x : ℕ) → k ≤ x → AreFreeOf x (members_below u chain)
  below_named u x past = free_lawful p n k x past (members_below u chain) (each_below (IsLawfulPolynomial p n k) u chain lawful_chain.lawful)

  member_lawful : (u : ℕ) (t : Polynomial) → member_in u chain ≡ Some t → IsLawfulPolynomial p n k t
  member_lawful u t found = (member_of_chain (IsLawfulPolynomial p n k) u chain t found lawful_chain.lawful).0

  -- the reduced initial
  pub start_lawful : (v : ℕ) (t : Polynomial) (member : IsMemberOver p n v chain t) (f : Row Polynomial) → initial_row p n w (initial_of t) (members_below v chain) ≡ Some f → IsPolynomialRow p n f → IsLawfulRow p n k f
  start_lawful v t member f made canonical = record {
    canonical = canonical;
    small = subst (λ o. IfSome o IsSmallRow) made (reduction_small p n w (unit_rows (list_operations p n) 1 below) h_row (small_h, (one_small n, zeros_small (length below))));
    named = λ x past. subst (IsRowFreeOf x) (sym (row_is p n w v chain t member f made)) (reductions_are_free p n x (unit_rows (list_operations p n) 1 below) h_row prime (rows_canonical p n (h ∷ below) (h_row ∷ unit_rows (list_operations p n) 1 below) (units p n w v chain t member)) (subst IsTriangular (sym (first_entries-unit_rows p n 1 below)) (below_triangular 0 v chain lawful_chain.triangular)) ((initial_of_keeps_free x t ((member_lawful v t member.member).named x past), unit_free p n prime x 0 (length below)), rows_free p n prime x 1 below (below_named v x past)));
  }
    where
      below : List Polynomial
      below = members_below v chain

      h : Polynomial
      h = initial_of t

      h_row : Row Polynomial
      h_row = row_of_h p n w v chain t member

      small_h : IsSmall h
      small_h = subst IsSmall (sym (initial_of-lead_in v t (member_is p n w v chain t member).1)) (lead_small v t (member_lawful v t member.member).small)

  module _ (v u : ℕ) (t : Polynomial) (member : IsMemberOver p n v chain t) (h : Polynomial) (s : IdentitySoFar) (is : IsIdentity p n v (suc u) chain h s.row) (lawful : IsLawfulRow p n k s.row) (q : Polynomial) (made : LaterRows Polynomial) (makes : MakesRows p n w u chain ns s.row q made) where
    abbrev below : List Polynomial
    below = members_below u chain

    abbrev c : Row Polynomial
    c = row_of_c n s.row.first below

    made_small : AreSmallRows made
    made_small = subst (λ o. IfSome o AreSmallRows) makes.fits (rows_small p n w u (rows_of_chain p n below) (row_of_t n q below) c)

    c_small : IsSmallRow c
    c_small = (lawful.small.0, (one_small n, (zero_small, zeros_small (length below))))

    -- a variable from k on is no main variable
    other : (x : ℕ) → k ≤ x → x ≢ u
    other x past e =
        let some = degree_in_main_var u q (main_t p n w v u chain ns t member h s.row is q made makes) in
        let none = (member_lawful u q makes.found).named u (subst (λ y. k ≤ y) e past) in
        omega (arith, some, none)

    made_named : (x : ℕ) → k ≤ x → EachRow (IsRowFreeOf x) (row_of_c n s.row.first (members_below u chain) ∷ made.later) × IfRow (IsRowFreeOf x) made.last
    made_named x past = entries_free p n w v u chain ns t member h s.row is q made makes x (other x past) ((member_lawful u q makes.found).named x past) (lawful.named x past).0 (below_named u x past)

    -- the composition
    pub composed_lawful : (f : Row Polynomial) → composed_within p n w s.row (last_row (row_of_c n s.row.first (members_below u chain)) made.later) ≡ Some f → IsPolynomialRow p n f → IsLawfulRow p n k f
    composed_lawful f composes canonical = record {
      canonical = canonical;
      small = subst (λ o. IfSome o IsSmallRow) composes (composed_small p n w s.row next (last_small p n w c made.later c_small made_small.0));
      named = λ x past. subst (IsRowFreeOf x) (sym (composed_is p n w s.row next f composes)) (compositions_are_free p n x s.row next (lawful.named x past) (last_of (IsRowFreeOf x) c made.later (made_named x past).0.0 (made_named x past).0.1));
    }
      where
        next : Row Polynomial
        next = last_row c made.later

    -- leads, made monic
    monic_lawful : (l : Polynomial) → IsLawfulPolynomial p n k l → IsLawfulPolynomial p n k (monic p l)
    monic_lawful l of_l = record { canonical = IsPolynomial-monic p n l prime of_l.canonical; named = λ x past. degree_in-monic p n prime x l of_l.canonical ∙ of_l.named x past; small = monic_small p l of_l.small }

    unknown_lawful : (ls : List Polynomial) → AreLawfulPolynomials p n k ls → AreLawfulPolynomials p n k (unknown_monic p ns ls)
    unknown_lawful [] each = tt
    unknown_lawful (l ∷ ls) each = go (not (is_known_nonzero p ns l)) (unknown_lawful ls each.1)
      where
        later : List Polynomial
        later = filter (λ f. not (is_known_nonzero p ns f)) ls

        go : (b : Bool) → AreLawfulPolynomials p n k (unknown_monic p ns ls) → AreLawfulPolynomials p n k (map (monic p) (cond b (l ∷ later) later))
        go true rest = (monic_lawful l each.0, rest)
        go false rest = rest

    leads_lawful : (hs : List (Row Polynomial)) → AllByRecursion (λ l. IsPolynomial p n l × (l ≢ [])) (leads (list_operations p n) u hs) → EachRow IsSmallRow hs → ((x : ℕ) → k ≤ x → EachRow (IsRowFreeOf x) hs) → AreLawfulPolynomials p n k (leads (list_operations p n) u hs)
    leads_lawful [] canonical small named = tt
    leads_lawful (g ∷ hs) canonical small named = (record { canonical = canonical.0.0; named = λ x past. lead_in_keeps_free x u g.first (named x past).0.0; small = lead_small u g.first small.0.0 }, leads_lawful hs canonical.1 small.1 (λ x past. (named x past).1))

    -- what vanishes where the rows end with a zero row
    pub vanishing_lawful : (z : Row Polynomial) → made.last ≡ Some z → (b : Polynomial) → remainder_of p n w chain (first_cofactor (list_operations p n) z) ≡ Some b → AreLawfulPolynomials p n k (vanishing p n w chain ns s (leads (list_operations p n) u (row_of_c n s.row.first (members_below u chain) ∷ made.later)) b) × (length (vanishing p n w chain ns s (leads (list_operations p n) u (row_of_c n s.row.first (members_below u chain) ∷ made.later)) b) < 2 ^ 32)
    vanishing_lawful z last b reduced = choose (λ fs. AreLawfulPolynomials p n k fs × (length fs < 2 ^ 32)) (is_zero b) (unknown_monic p ns ls) (b ∷ composed_first p n w chain ns s) (λ null. (unknown_lawful ls (leads_lawful (c ∷ made.later) (are_leads p n w v u chain ns t member h s.row is q made makes) (c_small, made_small.0) (λ x past. (made_named x past).0)), counted)) (λ some. choose (λ fs. AreLawfulPolynomials p n k (b ∷ fs) × (length (b ∷ fs) < 2 ^ 32)) s.composed (s.row.first ∷ []) [] (λ e. ((b_lawful, (lawful_first p n k s.row lawful, tt)), omega arith)) (λ e. ((b_lawful, tt), omega arith)))
      where
        ls : List Polynomial
        ls = leads (list_operations p n) u (c ∷ made.later)

        z_lawful : IsLawfulRow p n k z
        z_lawful = record {
          canonical = (subst (IfRow (IsRowOver p n (s.row.first ∷ q ∷ below))) last (last_over p n w v u chain ns t member h s.row is q made makes)).canonical;
          small = subst (IfRow IsSmallRow) last made_small.1;
          named = λ x past. subst (IfRow (IsRowFreeOf x)) last (made_named x past).1;
        }

        b_lawful : IsLawfulPolynomial p n k b
        b_lawful = remainder_lawful p n k w prime chain lawful_chain (first_cofactor (list_operations p n) z) b (cofactor_lawful p n k z z_lawful) reduced

        counted : length (unknown_monic p ns ls) < 2 ^ 32
        counted =
            let unknown = length-unknown_monic p ns ls in
            let rows_count : length ls ≡ suc (length made.later) = length-leads p n u (c ∷ made.later) in
            let fewer : length made.later < degree_in u s.row.first = falling_count_zero p n u c made.later z (subst (DegreesFall (list_operations p n) u c made.later) last (falling p n w v u chain ns t member h s.row is q made makes).falls) in
            let bound = lawful.small.0 u in
            omega (arith, unknown, rows_count, fewer, bound)

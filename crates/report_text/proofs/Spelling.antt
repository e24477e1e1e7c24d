-- A printed polynomial spells what was printed.
use Rattle.std.proofs.Common.{◌≡◌, ℕ, suc, ◌^◌, ◌<◌, ◌≤◌, List, [], ◌∷◌, length, sym, subst, arith}
use Rattle.std.specs.List.{AllByRecursion}
use Rattle.polynomials.specs.Monomials.{Monomial, exponent_of}
use Rattle.polynomials.specs.Polynomials.{Term, Polynomial, IsPolynomial}
use Rattle.polynomials.specs.Views.{degree_in}
use Rattle.polynomials.proofs.FitsLemmas.{is_exponent_list_iff}
use Rattle.system_text.specs.Limits.{most_digits}
use Rattle.system_text.specs.Readings.{Setting}
use Rattle.system_text.specs.Systems.{SpellsSum}
use Rattle.report_text.specs.Polynomials.{IsInLeast, poly_text}
use Rattle.report_text.specs.Laws.{SpellsOver, PrintedPolynomialsAreSpelled}
use Rattle.report_text.proofs.Trees.{HasPrintedNumbers, poly_tree, poly_text_tokens}
use Rattle.report_text.proofs.TreeLimits.{HasSmallNumbers, poly_tree_within}
use Rattle.report_text.proofs.TreeValues.{IsPrintedTerm, poly_tree_value}

-- the exponents, one by one
each_exponent : (k : ℕ) (m : Monomial) → ((v : ℕ) → exponent_of v m ≤ k) → AllByRecursion (λ e. e ≤ k) m
each_exponent k [] h = tt
each_exponent k (e ∷ m) h = (h 0, each_exponent k m (λ v. h (suc v)))

each_below : (k l : ℕ) (m : Monomial) → k < l → AllByRecursion (λ e. e ≤ k) m → AllByRecursion (λ e. e < l) m
each_below k l [] h small = tt
each_below k l (e ∷ m) h small = (omega arith, each_below k l m h small.1)

-- the numbers of a term, one by one
small_terms : (f : Polynomial) → ((v : ℕ) → degree_in v f ≤ 65535) → AllByRecursion (λ (t : Term). t.1 < 10 ^ most_digits) f → AllByRecursion HasSmallNumbers f
small_terms [] bound short = tt
small_terms (t ∷ f) bound short = (
  (short.0, each_exponent 65535 t.0 (λ v. let most = bound v in omega arith)),
  small_terms f (λ v. let most = bound v in omega arith) short.1,
)

printed_numbers : (f : Polynomial) → AllByRecursion HasSmallNumbers f → AllByRecursion HasPrintedNumbers f
printed_numbers [] small = tt
printed_numbers (t ∷ f) small = ((omega (arith, small.0.0), each_below 65535 (2 ^ 64) t.0 (omega arith) small.0.1), printed_numbers f small.1)

-- each term reads as it is
printed_terms : (s : Setting) (f : Polynomial) → IsPolynomial s.modulus s.variables f → IsInLeast (length s.names) f → ((v : ℕ) → degree_in v f ≤ 65535) → AllByRecursion (λ (t : Term). t.1 < 10 ^ most_digits) f
    → AllByRecursion (IsPrintedTerm s) f
printed_terms s [] canonical named bound short = tt
printed_terms s (t ∷ f) canonical named bound short = (
  record {
    variables = sym canonical.0;
    positive = canonical.1;
    below = canonical.2;
    printed = omega (arith, short.0);
    small = (is_exponent_list_iff t.0).1 (λ v. let most = bound v in omega arith);
    named = λ v past. let free = named v past in omega arith;
  },
  printed_terms s f canonical.4 (λ v past. let free = named v past in omega arith) (λ v. let most = bound v in omega arith) short.1,
)

-- the tree of a polynomial has the tokens of its text, its value, and no number past a limit
pub printed_polynomials_are_spelled : PrintedPolynomialsAreSpelled
printed_polynomials_are_spelled s f h =
    let small = small_terms f h.within.exponents h.within.coefficients in
    record {
      tree = poly_tree s.names f;
      spelled = poly_text_tokens s.names h.lawful.spelled f (printed_numbers f small) 1;
      value = poly_tree_value s h.many h.lawful.different f h.canonical.0 (printed_terms s f h.canonical.0 h.canonical.1 h.within.exponents h.within.coefficients);
      within = poly_tree_within s.names f small;
    }

-- residues modulo 2 ^ 32 have few digits
short_coefficients : (n : ℕ) (f : Polynomial) → IsPolynomial (2 ^ 32) n f → AllByRecursion (λ (t : Term). t.1 < 10 ^ most_digits) f
short_coefficients n [] canonical = tt
short_coefficients n (t ∷ f) canonical = (omega (arith, canonical.2), short_coefficients n f canonical.4)

-- over each field
pub spells_over : (n : ℕ) (names : List (List ℕ)) (f : Polynomial) (text : List ℕ)
    → IsInLeast (length names) f → IsPolynomial (2 ^ 32) n f → ((v : ℕ) → degree_in v f ≤ 65535)
    → text ≡ poly_text names f → SpellsOver n names f text
spells_over n names f text named packed bound e p many lawful canonical =
    let s : Setting = record { modulus = p; variables = n; names = names } in
    subst (λ bytes. SpellsSum s bytes f) (sym e)
    (printed_polynomials_are_spelled s f (record {
      many = many;
      lawful = lawful;
      canonical = (canonical, named);
      within = record { coefficients = short_coefficients n f packed; exponents = bound };
    }))

-- What the reading of a text means, line by line.
use Rattle.std.proofs.Common.{◌≡◌, ℕ, ◌<◌, Bool, true, false, cond, not, List, [], ◌∷◌, ◌++◌, Ok, refl, sym, ap, ◌∙◌, subst, append_assoc}
use Rattle.std.specs.Prelude.{Contains, filter, codes}
use Rattle.std.specs.List.{AllByRecursion}
use Rattle.polynomials.specs.Primes.{field_primes}
use Rattle.polynomials.specs.Polynomials.{Polynomial}
use Rattle.polynomials.proofs.PrimeLemmas.{IsPrime-field_primes}
use Rattle.system_text.specs.Tokens.{Token, Name, Number}
use Rattle.system_text.specs.Readings.{Setting}
use Rattle.system_text.specs.Sums.{read_sum}
use Rattle.system_text.specs.Grammar.{sum_tokens}
use Rattle.system_text.specs.Heads.{read_prime, read_order, and_then_read}
use Rattle.system_text.specs.Lines.{is_skipped, TextSystem, Progress, AtPrime, AtOrder, AtSums, setting_of, with_input, with_nonzero_polynomial, empty_system, is_nonzero_line, read_nonzero, read_polynomial, read_content}
use Rattle.system_text.specs.Systems.{HasTokens, SpellEach, nonzero_word, SpellsPrime, SpellsOrder, SpellPolynomials}
use Rattle.system_text.proofs.ReadSums.{spelled_sums_are_read, spelled_nonzero_lines_are_read}
use Rattle.system_text.proofs.TokenTexts.{IsText, line_of_characters}
use Rattle.system_text.proofs.Passed.{both_read}
use Rattle.system_text.proofs.PrimeLines.{prime_line_is_read, prime_line_is_spelled}
use Rattle.system_text.proofs.OrderLines.{order_line_is_read, order_line_is_spelled}
use Rattle.system_text.proofs.PlainTexts.{HasCharacters, names_are_text, sum_is_text}

-- the lines that aren't skipped
abbrev pub contents_of : List (List ℕ) → List (List ℕ)
contents_of lines = filter (λ line. not (is_skipped line)) lines

-- the further lines of each kind
abbrev pub input_lines : List (List ℕ) → List (List ℕ)
input_lines lines = filter (λ line. not (is_nonzero_line line)) lines

abbrev pub nonzero_lines : List (List ℕ) → List (List ℕ)
nonzero_lines lines = filter is_nonzero_line lines

passes : (p : List ℕ → Bool) (line : List ℕ) (lines : List (List ℕ)) → p line ≡ true → filter p (line ∷ lines) ≡ line ∷ filter p lines
passes p line lines e = rw e refl

is_left_out : (p : List ℕ → Bool) (line : List ℕ) (lines : List (List ℕ)) → p line ≡ false → filter p (line ∷ lines) ≡ filter p lines
is_left_out p line lines e = rw e refl

-- a system with more polynomials of both kinds
abbrev pub with_polynomials : TextSystem → List Polynomial → List Polynomial → TextSystem
with_polynomials system fs gs = record system { inputs = system.inputs ++ fs; nonzero = system.nonzero ++ gs }

-- the systems of the same prime and names
abbrev pub of_polynomials : TextSystem → List Polynomial → List Polynomial → TextSystem
of_polynomials system fs gs = record { prime = system.prime; names = system.names; inputs = fs; nonzero = gs }

module _ (n : ℕ) where
  -- the prime that was read is offered
  abbrev pub HasPrime : Progress → Type 0
  HasPrime AtPrime = Unit {0}
  HasPrime (AtOrder p) = Contains field_primes p
  HasPrime (AtSums system) = Contains field_primes system.prime

  -- the lines to come make this system
  abbrev pub Completes : Progress → List (List ℕ) → TextSystem → Type 0
  Completes AtPrime lines system =
      (prime_line : List ℕ) × (order_line : List ℕ) × (further : List (List ℕ)) × (lines ≡ prime_line ∷ order_line ∷ further) × SpellsPrime prime_line system.prime × SpellsOrder n order_line system.names × SpellPolynomials n further system
  Completes (AtOrder p) lines system =
      (order_line : List ℕ) × (further : List (List ℕ)) × (lines ≡ order_line ∷ further) × (p ≡ system.prime) × SpellsOrder n order_line system.names × SpellPolynomials n further system
  Completes (AtSums earlier) lines system =
      (fs : List Polynomial) × (gs : List Polynomial) × (system ≡ with_polynomials earlier fs gs) × SpellEach [] (setting_of n earlier) (input_lines lines) fs × SpellEach nonzero_word (setting_of n earlier) (nonzero_lines lines) gs

  -- a line that is read, its characters, and what follows
  pub record IsLineBefore (progress : Progress) (line : List ℕ) (next : Progress) : Type 0 where
    pub characters : HasCharacters line
    pub has_prime : HasPrime next
    pub completes : (lines : List (List ℕ)) (system : TextSystem) → Completes next lines system → Completes progress (line ∷ lines) system

  many_of_prime : (p : ℕ) → Contains field_primes p → 1 < p
  many_of_prime p h = (IsPrime-field_primes p h).many

  characters_of : (line : List ℕ) (xs : List Token) → HasTokens line xs → AllByRecursion IsText xs → HasCharacters line
  characters_of line xs e h = line_of_characters line (subst (AllByRecursion IsText) (sym e) h)

  -- a polynomial that is read is one of the system
  polynomial_is_spelled : (system : TextSystem) (line : List ℕ) (next : TextSystem) (b : Bool) → is_nonzero_line line ≡ b → Contains field_primes system.prime → cond b (and_then_read (read_nonzero (setting_of n system) line) (λ f. Ok (with_nonzero_polynomial system f))) (and_then_read (read_sum (setting_of n system) line) (λ f. Ok (with_input system f))) ≡ Ok next → IsLineBefore (AtSums system) line (AtSums next)
  polynomial_is_spelled system line next true d h e =
      let parts = both_read (read_nonzero (setting_of n system) line) (λ f. Ok (with_nonzero_polynomial system f)) next e in
      let spelled = (spelled_nonzero_lines_are_read (setting_of n system) line parts.between (many_of_prime system.prime h)).0 (d, parts.first) in
      let same : with_nonzero_polynomial system parts.between ≡ next = cc parts.second in
      subst (λ x. IsLineBefore (AtSums system) line (AtSums x)) same (record {
        characters = characters_of line (nonzero_word ++ sum_tokens spelled.tree) spelled.spelled (tt, sum_is_text spelled.tree);
        has_prime = h;
        completes = λ lines whole k. (k.0, parts.between ∷ k.1, k.2 ∙ ap (of_polynomials system (system.inputs ++ k.0)) (append_assoc system.nonzero (parts.between ∷ []) k.1), subst (λ ls. SpellEach [] (setting_of n system) ls k.0) (sym (is_left_out (λ l. not (is_nonzero_line l)) line lines (ap not d))) k.3, subst (λ ls. SpellEach nonzero_word (setting_of n system) ls (parts.between ∷ k.1)) (sym (passes is_nonzero_line line lines d)) (spelled, k.4));
      })
  polynomial_is_spelled system line next false d h e =
      let parts = both_read (read_sum (setting_of n system) line) (λ f. Ok (with_input system f)) next e in
      let spelled = (spelled_sums_are_read (setting_of n system) line parts.between (many_of_prime system.prime h)).0 parts.first in
      let same : with_input system parts.between ≡ next = cc parts.second in
      subst (λ x. IsLineBefore (AtSums system) line (AtSums x)) same (record {
        characters = characters_of line (sum_tokens spelled.tree) spelled.spelled (sum_is_text spelled.tree);
        has_prime = h;
        completes = λ lines whole k. (parts.between ∷ k.0, k.1, k.2 ∙ ap (λ fs. of_polynomials system fs (system.nonzero ++ k.1)) (append_assoc system.inputs (parts.between ∷ []) k.0), subst (λ ls. SpellEach [] (setting_of n system) ls (parts.between ∷ k.0)) (sym (passes (λ l. not (is_nonzero_line l)) line lines (ap not d))) (spelled, k.3), subst (λ ls. SpellEach nonzero_word (setting_of n system) ls k.1) (sym (is_left_out is_nonzero_line line lines d)) k.4);
      })

  -- a line that is read is a line of the system
  pub content_is_spelled : (progress : Progress) (line : List ℕ) (next : Progress) → HasPrime progress → read_content n progress line ≡ Ok next → IsLineBefore progress line next
  content_is_spelled AtPrime line next h e =
      let parts = both_read (read_prime line) (λ p. Ok (AtOrder p)) next e in
      let spelled = prime_line_is_spelled line parts.between parts.first in
      let same : AtOrder parts.between ≡ next = cc parts.second in
      subst (IsLineBefore AtPrime line) same (record {
        characters = characters_of line (Name (codes "prime") ∷ Number spelled.digits ∷ []) spelled.spelled (tt, (tt, tt));
        has_prime = spelled.offered;
        completes = λ lines system k. (line, k.0, k.1, ap (λ ls. line ∷ ls) k.2, subst (SpellsPrime line) k.3 spelled, k.4, k.5);
      })
  content_is_spelled (AtOrder p) line next h e =
      let parts = both_read (read_order n line) (λ names. Ok (AtSums (empty_system p names))) next e in
      let spelled = order_line_is_spelled n line parts.between parts.first in
      let same : AtSums (empty_system p parts.between) ≡ next = cc parts.second in
      subst (IsLineBefore (AtOrder p) line) same (record {
        characters = characters_of line (Name (codes "order") ∷ _) spelled.spelled (tt, names_are_text parts.between);
        has_prime = h;
        completes = λ lines system k. (line, lines, refl, sym (ap (λ x. x.prime) k.2), subst (SpellsOrder n line) (sym (ap (λ x. x.names) k.2)) spelled, record { inputs = subst (λ x. SpellEach [] (setting_of n x) (input_lines lines) x.inputs) (sym k.2) k.3; nonzero = subst (λ x. SpellEach nonzero_word (setting_of n x) (nonzero_lines lines) x.nonzero) (sym k.2) k.4 });
      })
  content_is_spelled (AtSums system) line next h e =
      let parts = both_read (read_polynomial n system line) (λ x. Ok (AtSums x)) next e in
      let same : AtSums parts.between ≡ next = cc parts.second in
      subst (IsLineBefore (AtSums system) line) same (polynomial_is_spelled system line parts.between (is_nonzero_line line) refl h parts.first)

  -- what a line leaves
  pub record ReadsLine (progress : Progress) (line : List ℕ) (lines : List (List ℕ)) (system : TextSystem) : Type 0 where
    pub next : Progress
    pub read : read_content n progress line ≡ Ok next
    pub has_prime : HasPrime next
    pub completes : Completes next lines system

  -- a nonzero line of the system is read
  nonzero_is_read : (earlier : TextSystem) (line : List ℕ) (lines : List (List ℕ)) (system : TextSystem) (fs gs : List Polynomial) → is_nonzero_line line ≡ true → Contains field_primes earlier.prime → system ≡ with_polynomials earlier fs gs → SpellEach [] (setting_of n earlier) (input_lines lines) fs → SpellEach nonzero_word (setting_of n earlier) (line ∷ nonzero_lines lines) gs → ReadsLine (AtSums earlier) line lines system
  nonzero_is_read earlier line lines system fs [] d h e inputs nonzero = absurd nonzero
  nonzero_is_read earlier line lines system fs (g ∷ gs) d h e inputs nonzero =
      let read = ((spelled_nonzero_lines_are_read (setting_of n earlier) line g (many_of_prime earlier.prime h)).1 nonzero.0).1 in
      record {
        next = AtSums (with_nonzero_polynomial earlier g);
        read = rw (d, read) refl;
        has_prime = h;
        completes = (fs, gs, e ∙ ap (of_polynomials earlier (earlier.inputs ++ fs)) (sym (append_assoc earlier.nonzero (g ∷ []) gs)), inputs, nonzero.1);
      }

  -- and so is a polynomial line
  input_is_read : (earlier : TextSystem) (line : List ℕ) (lines : List (List ℕ)) (system : TextSystem) (fs gs : List Polynomial) → is_nonzero_line line ≡ false → Contains field_primes earlier.prime → system ≡ with_polynomials earlier fs gs → SpellEach [] (setting_of n earlier) (line ∷ input_lines lines) fs → SpellEach nonzero_word (setting_of n earlier) (nonzero_lines lines) gs → ReadsLine (AtSums earlier) line lines system
  input_is_read earlier line lines system [] gs d h e inputs nonzero = absurd inputs
  input_is_read earlier line lines system (f ∷ fs) gs d h e inputs nonzero =
      let read = (spelled_sums_are_read (setting_of n earlier) line f (many_of_prime earlier.prime h)).1 inputs.0 in
      record {
        next = AtSums (with_input earlier f);
        read = rw (d, read) refl;
        has_prime = h;
        completes = (fs, gs, e ∙ ap (λ xs. of_polynomials earlier xs (earlier.nonzero ++ gs)) (sym (append_assoc earlier.inputs (f ∷ []) fs)), inputs.1, nonzero);
      }

  polynomial_is_read : (earlier : TextSystem) (line : List ℕ) (lines : List (List ℕ)) (system : TextSystem) (b : Bool) → is_nonzero_line line ≡ b → Contains field_primes earlier.prime → Completes (AtSums earlier) (line ∷ lines) system → ReadsLine (AtSums earlier) line lines system
  polynomial_is_read earlier line lines system true d h k = nonzero_is_read earlier line lines system k.0 k.1 d h k.2 (subst (λ ls. SpellEach [] (setting_of n earlier) ls k.0) (is_left_out (λ l. not (is_nonzero_line l)) line lines (ap not d)) k.3) (subst (λ ls. SpellEach nonzero_word (setting_of n earlier) ls k.1) (passes is_nonzero_line line lines d) k.4)
  polynomial_is_read earlier line lines system false d h k = input_is_read earlier line lines system k.0 k.1 d h k.2 (subst (λ ls. SpellEach [] (setting_of n earlier) ls k.0) (passes (λ l. not (is_nonzero_line l)) line lines (ap not d)) k.3) (subst (λ ls. SpellEach nonzero_word (setting_of n earlier) ls k.1) (is_left_out is_nonzero_line line lines d) k.4)

  -- a line of the system is read
  pub content_is_read : (progress : Progress) (line : List ℕ) (lines : List (List ℕ)) (system : TextSystem) → HasPrime progress → Completes progress (line ∷ lines) system → ReadsLine progress line lines system
  content_is_read AtPrime line lines system h k =
      let same : k.0 ≡ line = cc (sym k.3) in
      let rest : lines ≡ k.1 ∷ k.2 = cc k.3 in
      record {
        next = AtOrder system.prime;
        read = ap (λ a. and_then_read a (λ p. Ok (AtOrder p))) (prime_line_is_read line system.prime (subst (λ l. SpellsPrime l system.prime) same k.4));
        has_prime = k.4.offered;
        completes = (k.1, k.2, rest, refl, k.5, k.6);
      }
  content_is_read (AtOrder p) line lines system h k =
      let same : k.0 ≡ line = cc (sym k.2) in
      let rest : k.1 ≡ lines = cc (sym k.2) in
      let over : ℕ → Setting = λ q. record { modulus = q; variables = n; names = system.names } in
      record {
        next = AtSums (empty_system p system.names);
        read = ap (λ a. and_then_read a (λ names. Ok (AtSums (empty_system p names)))) (order_line_is_read n line system.names (subst (λ l. SpellsOrder n l system.names) same k.4));
        has_prime = h;
        completes = (system.inputs, system.nonzero, ap (λ q. record { prime = q; names = system.names; inputs = system.inputs; nonzero = system.nonzero }) (sym k.3), subst (λ ls. SpellEach [] (over p) (input_lines ls) system.inputs) rest (subst (λ q. SpellEach [] (over q) (input_lines k.1) system.inputs) (sym k.3) k.5.inputs), subst (λ ls. SpellEach nonzero_word (over p) (nonzero_lines ls) system.nonzero) rest (subst (λ q. SpellEach nonzero_word (over q) (nonzero_lines k.1) system.nonzero) (sym k.3) k.5.nonzero));
      }
  content_is_read (AtSums earlier) line lines system h k = polynomial_is_read earlier line lines system (is_nonzero_line line) refl h k

-- The syntax tree of a printed polynomial: its tokens are those of the text.
use Rattle.std.proofs.Common.{◌≡◌, ◌∙◌, ℕ, ◌^◌, ◌<◌, Bool, true, false, eqb, cond, List, [], ◌∷◌, ◌++◌, refl, sym, subst, append_assoc, append-nil}
use Rattle.std.specs.Fmt.{decimal}
use Rattle.std.specs.List.{AllByRecursion, flat_map}
use Rattle.std.specs.Prelude.{codes}
use Rattle.polynomials.specs.Monomials.{Monomial}
use Rattle.polynomials.specs.Polynomials.{Polynomial}
use Rattle.polynomials.specs.Polynomials as poly
use Rattle.system_text.specs.Characters.{is_name, is_name_character}
use Rattle.system_text.specs.Tokens.{Token, Name, Number, Plus, Times, Power}
use Rattle.system_text.specs.Grammar.{Sum, TermTree, Factor, First, Added, Single, Multiplied, Bare, Raised, Numeral, Variable, sum_tokens, term_tokens, factor_tokens}
use Rattle.report_text.specs.Polynomials.{power_text, power_texts, factor_texts, product_text, term_text, poly_text}
use Rattle.report_text.proofs.Tokens.{HaveTokens, EndsRun, ends_number, name_tokens, decimal_tokens, times_tokens, power_tokens, plus_tokens}

-- a power of a name
abbrev pub power_tree : List ℕ → ℕ → Factor
power_tree name e = cond (eqb e 1) (Bare (Variable name)) (Raised (Variable name) (decimal e))

-- the powers of a monomial
abbrev pub power_trees : List (List ℕ) → Monomial → List Factor
power_trees [] m = []
power_trees (name ∷ names) [] = []
power_trees (name ∷ names) (e ∷ m) = cond (eqb e 0) (power_trees names m) (power_tree name e ∷ power_trees names m)

-- the coefficient and the powers
abbrev pub factor_trees : ℕ → List Factor → List Factor
factor_trees c [] = Bare (Numeral (decimal c)) ∷ []
factor_trees c (power ∷ powers) = cond (eqb c 1) (power ∷ powers) (Bare (Numeral (decimal c)) ∷ power ∷ powers)

-- a term and further factors, from left to right
abbrev pub times_factors : TermTree → List Factor → TermTree
times_factors t [] = t
times_factors t (f ∷ fs) = times_factors (Multiplied t f) fs

-- the product of some factors; of none it isn't asked for
abbrev pub product_tree : List Factor → TermTree
product_tree [] = Single (Bare (Numeral (48 ∷ [])))
product_tree (f ∷ fs) = times_factors (Single f) fs

-- a term of a polynomial
abbrev pub term_tree : List (List ℕ) → poly.Term → TermTree
term_tree names t = product_tree (factor_trees t.1 (power_trees names t.0))

-- a sum and further terms, from left to right
abbrev pub plus_terms : List (List ℕ) → Sum → Polynomial → Sum
plus_terms names s [] = s
plus_terms names s (t ∷ f) = plus_terms names (Added s (term_tree names t)) f

-- a polynomial
abbrev pub poly_tree : List (List ℕ) → Polynomial → Sum
poly_tree names [] = First (Single (Bare (Numeral (48 ∷ []))))
poly_tree names (t ∷ f) = plus_terms names (First (term_tree names t)) f

-- the tokens of further factors and terms
times_factors_tokens : (t : TermTree) (fs : List Factor) → term_tokens (times_factors t fs) ≡ term_tokens t ++ flat_map (λ f. Times ∷ factor_tokens f) fs
times_factors_tokens t [] = sym (append-nil (term_tokens t))
times_factors_tokens t (f ∷ fs) = times_factors_tokens (Multiplied t f) fs ∙ append_assoc (term_tokens t) (Times ∷ factor_tokens f) (flat_map (λ g. Times ∷ factor_tokens g) fs)

plus_terms_tokens : (names : List (List ℕ)) (s : Sum) (f : Polynomial) → sum_tokens (plus_terms names s f) ≡ sum_tokens s ++ flat_map (λ t. Plus ∷ term_tokens (term_tree names t)) f
plus_terms_tokens names s [] = sym (append-nil (sum_tokens s))
plus_terms_tokens names s (t ∷ f) =
    plus_terms_tokens names (Added s (term_tree names t)) f
    ∙ append_assoc (sum_tokens s) (Plus ∷ term_tokens (term_tree names t)) (flat_map (λ u. Plus ∷ term_tokens (term_tree names u)) f)

-- the text has the tokens, before whatever can't go on with a name
abbrev pub HasTokensBefore : List ℕ → List Token → Type 0
HasTokensBefore text ts = (rest : List ℕ) (us : List Token) → EndsRun is_name_character rest → HaveTokens rest us → HaveTokens (text ++ rest) (ts ++ us)

-- each text has the tokens of its factor
abbrev pub HaveFactors : List (List ℕ) → List Factor → Type 0
HaveFactors [] fs = fs ≡ []
HaveFactors (x ∷ xs) [] = ⊥
HaveFactors (x ∷ xs) (f ∷ fs) = HasTokensBefore x (factor_tokens f) × HaveFactors xs fs

-- a number, a power
number_text_tokens : (n : ℕ) → n < 2 ^ 64 → HasTokensBefore (decimal n) (factor_tokens (Bare (Numeral (decimal n))))
number_text_tokens n below rest us ends t = decimal_tokens n rest us below (ends_number rest ends) t

power_text_tokens : (name : List ℕ) (e : ℕ) → is_name name ≡ true → e < 2 ^ 64 → HasTokensBefore (power_text name e) (factor_tokens (power_tree name e))
power_text_tokens name e named below rest us ends t = go (eqb e 1)
  where
    go : (b : Bool) → HaveTokens (cond b name (name ++ (codes "^" ++ decimal e)) ++ rest) (factor_tokens (cond b (Bare (Variable name)) (Raised (Variable name) (decimal e))) ++ us)
    go true = name_tokens name rest us named ends t
    go false =
        subst (λ bytes. HaveTokens bytes (Name name ∷ Power ∷ Number (decimal e) ∷ us))
        (sym (append_assoc name (codes "^" ++ decimal e) rest))
        (name_tokens name (94 ∷ (decimal e ++ rest)) (Power ∷ Number (decimal e) ∷ us) named refl
        (power_tokens (decimal e ++ rest) (Number (decimal e) ∷ us) (decimal_tokens e rest us below (ends_number rest ends) t)))

-- one more power, where its exponent isn't 0
power_step : (b : Bool) (x : List ℕ) (f : Factor) (xs : List (List ℕ)) (fs : List Factor) → HasTokensBefore x (factor_tokens f) → HaveFactors xs fs → HaveFactors (cond b xs (x ∷ xs)) (cond b fs (f ∷ fs))
power_step true x f xs fs first others = others
power_step false x f xs fs first others = (first, others)

-- the powers of a monomial
power_texts_tokens : (names : List (List ℕ)) (m : Monomial) → AllByRecursion (λ x. is_name x ≡ true) names → AllByRecursion (λ e. e < 2 ^ 64) m → HaveFactors (power_texts names m) (power_trees names m)
power_texts_tokens [] m named small = refl
power_texts_tokens (name ∷ names) [] named small = refl
power_texts_tokens (name ∷ names) (e ∷ m) named small =
    power_step (eqb e 0) (power_text name e) (power_tree name e) (power_texts names m) (power_trees names m)
    (power_text_tokens name e named.0 small.0) (power_texts_tokens names m named.1 small.1)

-- further factors, each behind `*`
further_tokens : (xs : List (List ℕ)) (fs : List Factor) → HaveFactors xs fs → (rest : List ℕ) (us : List Token) → EndsRun is_name_character rest → HaveTokens rest us
    → EndsRun is_name_character (flat_map (λ x. codes "*" ++ x) xs ++ rest) × HaveTokens (flat_map (λ x. codes "*" ++ x) xs ++ rest) (flat_map (λ f. Times ∷ factor_tokens f) fs ++ us)
further_tokens [] [] h rest us ends t = (ends, t)
further_tokens [] (f ∷ fs) h rest us ends t = cc
further_tokens (x ∷ xs) [] h rest us ends t = absurd h
further_tokens (x ∷ xs) (f ∷ fs) h rest us ends t =
    let later = further_tokens xs fs h.1 rest us ends t in (
      refl,
      subst (λ bytes. HaveTokens bytes ((Times ∷ factor_tokens f) ++ flat_map (λ g. Times ∷ factor_tokens g) fs ++ us))
          (sym (append_assoc (codes "*" ++ x) (flat_map (λ y. codes "*" ++ y) xs) rest))
          (rw (append_assoc (Times ∷ factor_tokens f) (flat_map (λ g. Times ∷ factor_tokens g) fs) us)
          (times_tokens (x ++ (flat_map (λ y. codes "*" ++ y) xs ++ rest)) (factor_tokens f ++ (flat_map (λ g. Times ∷ factor_tokens g) fs ++ us))
          (h.0 (flat_map (λ y. codes "*" ++ y) xs ++ rest) (flat_map (λ g. Times ∷ factor_tokens g) fs ++ us) later.0 later.1))),
    )

-- the product of some factors
product_tokens : (xs : List (List ℕ)) (fs : List Factor) → HaveFactors xs fs → (x : List ℕ) (f : Factor) → HasTokensBefore x (factor_tokens f) → HasTokensBefore (product_text (x ∷ xs)) (term_tokens (product_tree (f ∷ fs)))
product_tokens xs fs h x f first rest us ends t =
    let later = further_tokens xs fs h rest us ends t in
    rw (times_factors_tokens (Single f) fs, append_assoc x (flat_map (λ y. codes "*" ++ y) xs) rest, append_assoc (factor_tokens f) (flat_map (λ g. Times ∷ factor_tokens g) fs) us)
    (first (flat_map (λ y. codes "*" ++ y) xs ++ rest) (flat_map (λ g. Times ∷ factor_tokens g) fs ++ us) later.0 later.1)

-- the factors of a term
factors_tokens : (c : ℕ) (xs : List (List ℕ)) (fs : List Factor) → c < 2 ^ 64 → HaveFactors xs fs → HasTokensBefore (product_text (factor_texts c xs)) (term_tokens (product_tree (factor_trees c fs)))
factors_tokens c [] [] below h = product_tokens [] [] refl (decimal c) (Bare (Numeral (decimal c))) (number_text_tokens c below)
factors_tokens c [] (f ∷ fs) below h = cc
factors_tokens c (x ∷ xs) [] below h = absurd h
factors_tokens c (x ∷ xs) (f ∷ fs) below h = go (eqb c 1)
  where
    go : (b : Bool) → HasTokensBefore (product_text (cond b (x ∷ xs) (decimal c ∷ x ∷ xs))) (term_tokens (product_tree (cond b (f ∷ fs) (Bare (Numeral (decimal c)) ∷ f ∷ fs))))
    go true = product_tokens xs fs h.1 x f h.0
    go false = product_tokens (x ∷ xs) (f ∷ fs) h (decimal c) (Bare (Numeral (decimal c))) (number_text_tokens c below)

-- the numbers of a term are printed in full
abbrev pub HasPrintedNumbers : poly.Term → Type 0
HasPrintedNumbers t = (t.1 < 2 ^ 64) × AllByRecursion (λ e. e < 2 ^ 64) t.0

module _ (names : List (List ℕ)) (named : AllByRecursion (λ x. is_name x ≡ true) names) where
  term_text_tokens : (t : poly.Term) → HasPrintedNumbers t → HasTokensBefore (term_text names t) (term_tokens (term_tree names t))
  term_text_tokens t small = factors_tokens t.1 (power_texts names t.0) (power_trees names t.0) small.0 (power_texts_tokens names t.0 named small.1)

  -- further terms, each behind ` + `
  more_terms_tokens : (f : Polynomial) → AllByRecursion HasPrintedNumbers f
      → EndsRun is_name_character (flat_map (λ t. codes " + " ++ term_text names t) f)
      × HaveTokens (flat_map (λ t. codes " + " ++ term_text names t) f) (flat_map (λ t. Plus ∷ term_tokens (term_tree names t)) f)
  more_terms_tokens [] small = (tt, λ i. refl)
  more_terms_tokens (t ∷ f) small =
      let later = more_terms_tokens f small.1 in (
        refl,
        plus_tokens (term_text names t ++ flat_map (λ u. codes " + " ++ term_text names u) f)
            (term_tokens (term_tree names t) ++ flat_map (λ u. Plus ∷ term_tokens (term_tree names u)) f)
            (term_text_tokens t small.0 (flat_map (λ u. codes " + " ++ term_text names u) f) (flat_map (λ u. Plus ∷ term_tokens (term_tree names u)) f) later.0 later.1),
      )

  -- the text of a polynomial has the tokens of its tree
  pub poly_text_tokens : (f : Polynomial) → AllByRecursion HasPrintedNumbers f → HaveTokens (poly_text names f) (sum_tokens (poly_tree names f))
  poly_text_tokens [] small = λ i. refl
  poly_text_tokens (t ∷ f) small =
      let later = more_terms_tokens f small.1 in
      rw (plus_terms_tokens names (First (term_tree names t)) f)
      (term_text_tokens t small.0 (flat_map (λ u. codes " + " ++ term_text names u) f) (flat_map (λ u. Plus ∷ term_tokens (term_tree names u)) f) later.0 later.1)

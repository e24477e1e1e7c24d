-- What a tree within the limits spells is read, as its value.
use Rattle.std.proofs.Common.{◌≡◌, ℕ, ◌%◌, ◌<◌, Bool, true, false, List, [], ◌∷◌, ◌++◌, length, Option, Some, None, Ok, refl, sym, ap, ◌∙◌, subst, append_assoc, append-nil, arith}
use Rattle.std.specs.Str.Parse.{digits_value}
use Rattle.polynomials.specs.Polynomials.{Polynomial, constant_of, variable_power, sum_of, difference_of, negative_of}
use Rattle.polynomials.specs.Fits.{most_exponent, product_within, power_within}
use Rattle.polynomials.proofs.PolynomialLaws.{zero-sum_of}
use Rattle.system_text.specs.Tokens.{Token, Name, Number, Plus, Minus, Times, Power, Open, Close}
use Rattle.system_text.specs.Limits.{most_power, text_width}
use Rattle.system_text.specs.Readings.{Setting, Frame, AtSum, AtFactor, AfterBase, AfterFactor, empty_frame, start}
use Rattle.system_text.specs.Factors.{place_of_name, with_factor, with_last, variable_at}
use Rattle.system_text.specs.Grammar.{Sum, TermTree, Factor, Base, First, FirstNegative, Added, TakenAway, Single, Multiplied, Bare, Raised, Numeral, Variable, Parenthesis, variable_of, sum_tokens, term_tokens, factor_tokens, base_tokens, sum_value, term_value, factor_value, base_value, most_of, IsSumWithin, IsTermWithin, IsFactorWithin, IsBaseWithin}
use Rattle.system_text.proofs.Values.{of_both_parts, of_one_parts, IsNamed, sum_value_is_named}
use Rattle.system_text.proofs.Places.{bare}
use Rattle.system_text.proofs.Runs.{reading, fresh, EndsFactor, EndsTerm, BeginsFactor, ends_factor, run, run_after, run-at_sum, run-after_factor, run-after_term, run-after_base, run-at_exponent, run-number, run-open}

-- a factor begins with a number, a name or a parenthesis
factor_begins : (f : Factor) (rest : List Token) → BeginsFactor (factor_tokens f ++ rest)
factor_begins (Bare (Numeral digits)) rest = tt
factor_begins (Bare (Variable x)) rest = tt
factor_begins (Bare (Parenthesis f)) rest = tt
factor_begins (Raised (Numeral digits) e) rest = tt
factor_begins (Raised (Variable x) e) rest = tt
factor_begins (Raised (Parenthesis f) e) rest = tt

-- and so does a term
term_begins : (t : TermTree) (rest : List Token) → BeginsFactor (term_tokens t ++ rest)
term_begins (Single f) rest = factor_begins f rest
term_begins (Multiplied t f) rest = subst BeginsFactor (sym (append_assoc (term_tokens t) (Times ∷ factor_tokens f) rest)) (term_begins t (Times ∷ (factor_tokens f ++ rest)))

module _ (s : Setting) (many : 1 < s.modulus) where
  -- with no earlier term, the last is the sum
  with_only : (f : Polynomial) → IsNamed s f → with_last s.modulus empty_frame f ≡ f
  with_only f i =
      let positive : 0 < s.modulus = omega arith in
      zero-sum_of s.modulus positive s.variables f i.0

  run-name : (place : Option ℕ) (rest : List Token) (outer : List Frame) (frame : Frame) (x : List ℕ) (f : Polynomial) → variable_of s.variables place ≡ Some f → run_after s rest (variable_at s outer frame (bare (Name x)) place) ≡ run s rest (reading outer frame (AfterBase f 0 most_exponent))
  run-name None rest outer frame x f e = absurd cc
  run-name (Some v) rest outer frame x f e =
      let same : variable_power s.variables v 1 ≡ f = cc in
      ap (λ g. run s rest (reading outer frame (AfterBase g 0 most_exponent))) same

  mutual
    -- the tokens of a sum are read before whatever may follow a sum
    pub sum_is_read : (tree : Sum) (rest : List Token) (outer : List Frame) (f : Polynomial) → EndsTerm rest → sum_value s tree ≡ Some f → IsSumWithin (length outer) tree → run s (sum_tokens tree ++ rest) (reading outer empty_frame AtSum) ≡ run s rest (reading outer empty_frame (AfterFactor f))
    sum_is_read (First t) rest outer f ends e within =
        run-at_sum s (term_tokens t ++ rest) outer empty_frame (term_begins t rest)
        ∙ term_is_read t rest outer [] false f (ends_factor rest ends) e within
    sum_is_read (FirstNegative t) rest outer f ends e within =
        let parts = of_one_parts (λ x. Some (negative_of s.modulus x)) (term_value s t) f e in
        let same : negative_of s.modulus parts.operand ≡ f = cc parts.result in
        let named = sum_value_is_named s many (FirstNegative t) f e in
        term_is_read t rest outer [] true parts.operand (ends_factor rest ends) parts.operand_is within
        ∙ run-after_term s rest outer (fresh [] true) parts.operand f ends (ap (λ g. sum_of s.modulus [] g) same)
    sum_is_read (Added g t) rest outer f ends e within =
        let parts = of_both_parts (λ x y. Some (sum_of s.modulus x y)) (sum_value s g) (term_value s t) f e in
        let same : sum_of s.modulus parts.left parts.right ≡ f = cc parts.result in
        let only = with_only parts.left (sum_value_is_named s many g parts.left parts.left_is) in
        ap (λ xs. run s xs (reading outer empty_frame AtSum)) (append_assoc (sum_tokens g) (Plus ∷ term_tokens t) rest)
        ∙ sum_is_read g (Plus ∷ (term_tokens t ++ rest)) outer parts.left tt parts.left_is within.0
        ∙ ap (λ x. run s (term_tokens t ++ rest) (reading outer (fresh x false) AtFactor)) only
        ∙ term_is_read t rest outer parts.left false parts.right (ends_factor rest ends) parts.right_is within.1
        ∙ run-after_term s rest outer (fresh parts.left false) parts.right f ends (same ∙ sym (with_only f (sum_value_is_named s many (Added g t) f e)))
    sum_is_read (TakenAway g t) rest outer f ends e within =
        let parts = of_both_parts (λ x y. Some (difference_of s.modulus x y)) (sum_value s g) (term_value s t) f e in
        let same : difference_of s.modulus parts.left parts.right ≡ f = cc parts.result in
        let only = with_only parts.left (sum_value_is_named s many g parts.left parts.left_is) in
        ap (λ xs. run s xs (reading outer empty_frame AtSum)) (append_assoc (sum_tokens g) (Minus ∷ term_tokens t) rest)
        ∙ sum_is_read g (Minus ∷ (term_tokens t ++ rest)) outer parts.left tt parts.left_is within.0
        ∙ ap (λ x. run s (term_tokens t ++ rest) (reading outer (fresh x true) AtFactor)) only
        ∙ term_is_read t rest outer parts.left true parts.right (ends_factor rest ends) parts.right_is within.1
        ∙ run-after_term s rest outer (fresh parts.left true) parts.right f ends (same ∙ sym (with_only f (sum_value_is_named s many (TakenAway g t) f e)))

    -- those of a term before whatever may follow a term
    pub term_is_read : (tree : TermTree) (rest : List Token) (outer : List Frame) (sum : Polynomial) (is_negative : Bool) (f : Polynomial) → EndsFactor rest → term_value s tree ≡ Some f → IsTermWithin (length outer) tree → run s (term_tokens tree ++ rest) (reading outer (fresh sum is_negative) AtFactor) ≡ run s rest (reading outer (fresh sum is_negative) (AfterFactor f))
    term_is_read (Single g) rest outer sum is_negative f ends e within = factor_is_read g rest outer (fresh sum is_negative) f f ends e refl within
    term_is_read (Multiplied t g) rest outer sum is_negative f ends e within =
        let parts = of_both_parts (λ x y. product_within s.modulus text_width x y) (term_value s t) (factor_value s g) f e in
        ap (λ xs. run s xs (reading outer (fresh sum is_negative) AtFactor)) (append_assoc (term_tokens t) (Times ∷ factor_tokens g) rest)
        ∙ term_is_read t (Times ∷ (factor_tokens g ++ rest)) outer sum is_negative parts.left tt parts.left_is within.0
        ∙ factor_is_read g rest outer (record { sum = sum; is_negative = is_negative; product = Some parts.left }) parts.right f ends parts.right_is parts.result within.1
        ∙ run-after_factor s rest outer (record { sum = sum; is_negative = is_negative; product = Some parts.left }) None f

    -- those of a factor after the earlier ones of its term
    pub factor_is_read : (tree : Factor) (rest : List Token) (outer : List Frame) (frame : Frame) (f g : Polynomial) → EndsFactor rest → factor_value s tree ≡ Some f → with_factor s.modulus frame.product f ≡ Some g → IsFactorWithin (length outer) tree → run s (factor_tokens tree ++ rest) (reading outer frame AtFactor) ≡ run s rest (reading outer frame (AfterFactor g))
    factor_is_read (Bare b) rest outer frame f g ends e product within =
        base_is_read b rest outer frame f e within
        ∙ run-after_base s rest outer frame f g (most_of b) ends product
    factor_is_read (Raised b digits) rest outer frame f g ends e product within =
        let parts = of_one_parts (λ x. power_within s.modulus s.variables text_width x (digits_value 10 digits)) (base_value s b) f e in
        ap (λ xs. run s xs (reading outer frame AtFactor)) (append_assoc (base_tokens b) (Power ∷ Number digits ∷ []) rest)
        ∙ base_is_read b (Power ∷ Number digits ∷ rest) outer frame parts.operand parts.operand_is within.0
        ∙ run-at_exponent s rest outer frame parts.operand f g (most_of b) digits within.1 within.2 parts.result product

    -- those of a base
    pub base_is_read : (tree : Base) (rest : List Token) (outer : List Frame) (frame : Frame) (f : Polynomial) → base_value s tree ≡ Some f → IsBaseWithin (length outer) tree → run s (base_tokens tree ++ rest) (reading outer frame AtFactor) ≡ run s rest (reading outer frame (AfterBase f 0 (most_of tree)))
    base_is_read (Numeral digits) rest outer frame f e within =
        let same : constant_of s.variables (digits_value 10 digits % s.modulus) ≡ f = cc in
        run-number s rest outer frame digits within
        ∙ ap (λ g. run s rest (reading outer frame (AfterBase g 0 most_exponent))) same
    base_is_read (Variable x) rest outer frame f e within = run-name (place_of_name 0 s.names x) rest outer frame x f e
    base_is_read (Parenthesis g) rest outer frame f e within =
        ap (λ xs. run s (Open ∷ xs) (reading outer frame AtFactor)) (append_assoc (sum_tokens g) (Close ∷ []) rest)
        ∙ run-open s (sum_tokens g ++ Close ∷ rest) outer frame within.0
        ∙ sum_is_read g (Close ∷ rest) (frame ∷ outer) f tt e within.1
        ∙ ap (λ x. run s rest (reading outer frame (AfterBase x 0 most_power))) (with_only f (sum_value_is_named s many g f e))

  -- a whole line of them
  pub tree_is_read : (tree : Sum) (f : Polynomial) → sum_value s tree ≡ Some f → IsSumWithin 0 tree → run s (sum_tokens tree) start ≡ Ok f
  tree_is_read tree f e within =
      ap (λ xs. run s xs start) (sym (append-nil (sum_tokens tree)))
      ∙ sum_is_read tree [] [] f tt e within
      ∙ ap (λ g. Ok g) (with_only f (sum_value_is_named s many tree f e))

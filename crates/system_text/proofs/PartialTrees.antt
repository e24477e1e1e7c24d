-- What a reading of a sum means: the trees that the tokens so far spell, and their values.
use Rattle.std.proofs.Common.{◌≡◌, ℕ, ◌<◌, Bool, true, false, List, [], ◌∷◌, ◌++◌, length, Option, Some, None, refl, sym, ap, ◌∙◌, subst, append_assoc, arith}
use Rattle.polynomials.specs.Polynomials.{Polynomial, negative_of}
use Rattle.polynomials.proofs.PolynomialLaws.{zero-sum_of}
use Rattle.polynomials.proofs.Canonical.{IsPolynomial-negative_of}
use Rattle.system_text.specs.Tokens.{Token, Plus, Minus, Times, Power, Open}
use Rattle.system_text.specs.Limits.{most_depth}
use Rattle.system_text.specs.Readings.{Setting, Frame, Mode, Reading, AtSum, AtFactor, AfterBase, AtExponent, AfterFactor, empty_frame}
use Rattle.system_text.specs.Factors.{with_factor, with_last}
use Rattle.system_text.specs.Grammar.{Sum, TermTree, Factor, Base, First, FirstNegative, Added, TakenAway, Single, Multiplied, sum_tokens, term_tokens, factor_tokens, base_tokens, sum_value, term_value, factor_value, base_value, most_of, IsSumWithin, IsTermWithin, IsFactorWithin, IsBaseWithin}
use Rattle.system_text.proofs.Values.{term_value_is_named}

-- what of a sum stands before its last term: nothing, a minus, or a sum and a sign
pub data Before : Type 0 where
  Beginning : Before
  Negative : Before
  Adding : Sum → Before
  TakingAway : Sum → Before

abbrev pub before_tokens : Before → List Token
before_tokens Beginning = []
before_tokens Negative = Minus ∷ []
before_tokens (Adding f) = sum_tokens f ++ Plus ∷ []
before_tokens (TakingAway f) = sum_tokens f ++ Minus ∷ []

-- the sum with its last term
abbrev pub completed : Before → TermTree → Sum
completed Beginning t = First t
completed Negative t = FirstNegative t
completed (Adding f) t = Added f t
completed (TakingAway f) t = TakenAway f t

pub sum_tokens-completed : (b : Before) (t : TermTree) → sum_tokens (completed b t) ≡ before_tokens b ++ term_tokens t
sum_tokens-completed Beginning t = refl
sum_tokens-completed Negative t = refl
sum_tokens-completed (Adding f) t = sym (append_assoc (sum_tokens f) (Plus ∷ []) (term_tokens t))
sum_tokens-completed (TakingAway f) t = sym (append_assoc (sum_tokens f) (Minus ∷ []) (term_tokens t))

-- the factors of a term before its last
abbrev pub factors_tokens : Option TermTree → List Token
factors_tokens None = []
factors_tokens (Some t) = term_tokens t ++ Times ∷ []

-- the term with its last factor
abbrev pub multiplied : Option TermTree → Factor → TermTree
multiplied None f = Single f
multiplied (Some t) f = Multiplied t f

pub term_tokens-multiplied : (o : Option TermTree) (f : Factor) → term_tokens (multiplied o f) ≡ factors_tokens o ++ factor_tokens f
term_tokens-multiplied None f = refl
term_tokens-multiplied (Some t) f = sym (append_assoc (term_tokens t) (Times ∷ []) (factor_tokens f))

-- a sum that isn't read to its end
abbrev pub Part : Type 0
Part = Before × Option TermTree

-- the tokens before the innermost parenthesis that is open
abbrev pub outer_tokens : List Part → List Token
outer_tokens [] = []
outer_tokens (part ∷ parts) = outer_tokens parts ++ (before_tokens part.0 ++ (factors_tokens part.1 ++ Open ∷ []))

module _ (s : Setting) where
  -- the sum of the earlier terms
  abbrev pub SumMeans : ℕ → Before → Bool → Polynomial → Type 0
  SumMeans depth Beginning is_negative sum = (is_negative ≡ false) × (sum ≡ [])
  SumMeans depth Negative is_negative sum = (is_negative ≡ true) × (sum ≡ [])
  SumMeans depth (Adding f) is_negative sum = (is_negative ≡ false) × (sum_value s f ≡ Some sum) × IsSumWithin depth f
  SumMeans depth (TakingAway f) is_negative sum = (is_negative ≡ true) × (sum_value s f ≡ Some sum) × IsSumWithin depth f

  -- the product of the earlier factors
  abbrev pub ProductMeans : ℕ → Option TermTree → Option Polynomial → Type 0
  ProductMeans depth None product = product ≡ None
  ProductMeans depth (Some t) product = (f : Polynomial) × (product ≡ Some f) × (term_value s t ≡ Some f) × IsTermWithin depth t

  -- the sums round the open parentheses
  abbrev pub OuterMeans : List Part → List Frame → Type 0
  OuterMeans [] [] = Unit {0}
  OuterMeans [] (frame ∷ outer) = ⊥
  OuterMeans (part ∷ parts) [] = ⊥
  OuterMeans (part ∷ parts) (frame ∷ outer) =
      (length outer < most_depth) × SumMeans (length outer) part.0 frame.is_negative frame.sum × ProductMeans (length outer) part.1 frame.product × OuterMeans parts outer

  -- the tokens are those of sums that aren't read to their end, and then these
  pub record Partial (xs : List Token) (outer : List Frame) (frame : Frame) (last : List Token) : Type 0 where
    pub parts : List Part
    pub before : Before
    pub factors : Option TermTree
    pub spelled : xs ≡ outer_tokens parts ++ (before_tokens before ++ (factors_tokens factors ++ last))
    pub outer_means : OuterMeans parts outer
    pub sum_means : SumMeans (length outer) before frame.is_negative frame.sum
    pub product_means : ProductMeans (length outer) factors frame.product

  -- they end with a base of value f, and then these
  pub record EndsWithBase (xs : List Token) (outer : List Frame) (frame : Frame) (f : Polynomial) (most : ℕ) (last : List Token) : Type 0 where
    pub base : Base
    pub rest : Partial xs outer frame (base_tokens base ++ last)
    pub value : base_value s base ≡ Some f
    pub most_is : most ≡ most_of base
    pub within : IsBaseWithin (length outer) base

  -- they end with a term of value f
  pub record EndsWithTerm (xs : List Token) (outer : List Frame) (frame : Frame) (f : Polynomial) : Type 0 where
    pub parts : List Part
    pub before : Before
    pub tree : TermTree
    pub spelled : xs ≡ outer_tokens parts ++ (before_tokens before ++ term_tokens tree)
    pub outer_means : OuterMeans parts outer
    pub sum_means : SumMeans (length outer) before frame.is_negative frame.sum
    pub value : term_value s tree ≡ Some f
    pub within : IsTermWithin (length outer) tree

  -- they end with a sum of value f
  pub record EndsWithSum (xs : List Token) (outer : List Frame) (f : Polynomial) : Type 0 where
    pub parts : List Part
    pub tree : Sum
    pub spelled : xs ≡ outer_tokens parts ++ sum_tokens tree
    pub outer_means : OuterMeans parts outer
    pub value : sum_value s tree ≡ Some f
    pub within : IsSumWithin (length outer) tree

  -- nothing stands after the last open parenthesis
  pub record EndsOpen (xs : List Token) (outer : List Frame) (frame : Frame) : Type 0 where
    pub parts : List Part
    pub spelled : xs ≡ outer_tokens parts
    pub outer_means : OuterMeans parts outer
    pub empty : frame ≡ empty_frame

  -- what the tokens are where the reading is in this mode
  abbrev pub Means : List Token → List Frame → Frame → Mode → Type 0
  Means xs outer frame AtSum = EndsOpen xs outer frame
  Means xs outer frame AtFactor = Partial xs outer frame []
  Means xs outer frame (AfterBase f last most) = EndsWithBase xs outer frame f most []
  Means xs outer frame (AtExponent f most) = EndsWithBase xs outer frame f most (Power ∷ [])
  Means xs outer frame (AfterFactor f) = EndsWithTerm xs outer frame f

  -- of a reading
  abbrev pub ReadingMeans : List Token → Reading → Type 0
  ReadingMeans xs r = Means xs r.outer r.frame r.mode

  -- the product with one more factor
  term_value-multiplied : (depth : ℕ) (o : Option TermTree) (product : Option Polynomial) (tree : Factor) (f g : Polynomial) → ProductMeans depth o product → factor_value s tree ≡ Some f → with_factor s.modulus product f ≡ Some g → term_value s (multiplied o tree) ≡ Some g
  term_value-multiplied depth None product tree f g h e d =
      let one : with_factor s.modulus None f ≡ Some g = subst (λ o. with_factor s.modulus o f ≡ Some g) h d in
      e ∙ one
  term_value-multiplied depth (Some t) product tree f g h e d = rw (h.2, e) (subst (λ o. with_factor s.modulus o f ≡ Some g) h.1 d)

  IsTermWithin-multiplied : (depth : ℕ) (o : Option TermTree) (product : Option Polynomial) (tree : Factor) → ProductMeans depth o product → IsFactorWithin depth tree → IsTermWithin depth (multiplied o tree)
  IsTermWithin-multiplied depth None product tree h i = i
  IsTermWithin-multiplied depth (Some t) product tree h i = (h.3, i)

  -- a factor ends a term
  pub term_from_factor : (xs : List Token) (outer : List Frame) (frame : Frame) (tree : Factor) (f g : Polynomial) → Partial xs outer frame (factor_tokens tree) → factor_value s tree ≡ Some f → IsFactorWithin (length outer) tree → with_factor s.modulus frame.product f ≡ Some g → EndsWithTerm xs outer frame g
  term_from_factor xs outer frame tree f g h e i d = record {
    parts = h.parts;
    before = h.before;
    tree = multiplied h.factors tree;
    spelled = h.spelled ∙ ap (λ ys. outer_tokens h.parts ++ (before_tokens h.before ++ ys)) (sym (term_tokens-multiplied h.factors tree));
    outer_means = h.outer_means;
    sum_means = h.sum_means;
    value = term_value-multiplied (length outer) h.factors frame.product tree f g h.product_means e d;
    within = IsTermWithin-multiplied (length outer) h.factors frame.product tree h.product_means i;
  }

  module _ (many : 1 < s.modulus) where
    sum_value-completed : (depth : ℕ) (b : Before) (sum : Polynomial) (is_negative : Bool) (t : TermTree) (f : Polynomial) → SumMeans depth b is_negative sum → term_value s t ≡ Some f → sum_value s (completed b t) ≡ Some (with_last s.modulus (record { sum = sum; is_negative = is_negative; product = None }) f)
    sum_value-completed depth Beginning sum is_negative t f h e =
        let positive : 0 < s.modulus = omega arith in
        let same = zero-sum_of s.modulus positive s.variables f (term_value_is_named s many t f e).0 in
        rw (h.0, h.1, e, same) refl
    sum_value-completed depth Negative sum is_negative t f h e =
        let positive : 0 < s.modulus = omega arith in
        let canonical = IsPolynomial-negative_of s.modulus s.variables f (term_value_is_named s many t f e).0 in
        let same = zero-sum_of s.modulus positive s.variables (negative_of s.modulus f) canonical in
        rw (h.0, h.1, e, same) refl
    sum_value-completed depth (Adding g) sum is_negative t f h e = rw (h.0, h.1, e) refl
    sum_value-completed depth (TakingAway g) sum is_negative t f h e = rw (h.0, h.1, e) refl

    IsSumWithin-completed : (depth : ℕ) (b : Before) (sum : Polynomial) (is_negative : Bool) (t : TermTree) → SumMeans depth b is_negative sum → IsTermWithin depth t → IsSumWithin depth (completed b t)
    IsSumWithin-completed depth Beginning sum is_negative t h i = i
    IsSumWithin-completed depth Negative sum is_negative t h i = i
    IsSumWithin-completed depth (Adding g) sum is_negative t h i = (h.2, i)
    IsSumWithin-completed depth (TakingAway g) sum is_negative t h i = (h.2, i)

    -- a term ends a sum
    pub sum_from_term : (xs : List Token) (outer : List Frame) (frame : Frame) (f : Polynomial) → EndsWithTerm xs outer frame f → EndsWithSum xs outer (with_last s.modulus frame f)
    sum_from_term xs outer frame f h = record {
      parts = h.parts;
      tree = completed h.before h.tree;
      spelled = h.spelled ∙ ap (λ ys. outer_tokens h.parts ++ ys) (sym (sum_tokens-completed h.before h.tree));
      outer_means = h.outer_means;
      value = sum_value-completed (length outer) h.before frame.sum frame.is_negative h.tree f h.sum_means h.value;
      within = IsSumWithin-completed (length outer) h.before frame.sum frame.is_negative h.tree h.sum_means h.within;
    }

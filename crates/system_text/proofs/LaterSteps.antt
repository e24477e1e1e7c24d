-- Each token after a base or a factor keeps what the reading means.
use Rattle.std.proofs.Common.{◌≡◌, ℕ, ◌<◌, ◌≤◌, Bool, true, false, cond, ltb, List, [], ◌∷◌, ◌++◌, length, Option, Some, None, Result, Ok, Err, refl, sym, ap, ◌∙◌, subst, append_assoc, append-nil}
use Rattle.std.proofs.lemmas.Bool.{ltb-false}
use Rattle.std.specs.Str.Parse.{digits_value}
use Rattle.polynomials.specs.Polynomials.{Polynomial}
use Rattle.polynomials.specs.Fits.{power_within}
use Rattle.system_text.specs.Tokens.{Token, Placed, Number, Plus, Minus, Times, Power, Open, Close}
use Rattle.system_text.specs.Faults.{Fault, fault}
use Rattle.system_text.specs.Limits.{most_digits, most_power, text_width}
use Rattle.system_text.specs.Readings.{Setting, Frame, Mode, Reading, AtSum, AtFactor, AfterBase, AtExponent, AfterFactor}
use Rattle.system_text.specs.Factors.{with_factor, with_last, after_factor_at, power_factor, at_exponent}
use Rattle.system_text.specs.Sums.{closed_at, after_factor, after_base_token, step_in, step}
use Rattle.system_text.specs.Grammar.{Sum, Bare, Raised, Parenthesis, sum_tokens, term_tokens, factor_tokens, base_tokens, of_one}
use Rattle.system_text.proofs.PartialTrees.{Adding, TakingAway, before_tokens, factors_tokens, Part, outer_tokens, OuterMeans, Partial, EndsWithBase, EndsWithTerm, EndsWithSum, Means, ReadingMeans, term_from_factor, sum_from_term}
use Rattle.system_text.proofs.Passed.{ok_after_test}
use Rattle.system_text.proofs.Steps.{more, at_next, further, factor_means, sum_means}

-- a parenthesis closes
closed_tokens : (xs a b c d : List Token) → xs ≡ (a ++ (b ++ (c ++ Open ∷ []))) ++ d → xs ++ Close ∷ [] ≡ a ++ (b ++ (c ++ (Open ∷ ((d ++ Close ∷ []) ++ []))))
closed_tokens xs a b c d e = rw e (simp (append_assoc, append-nil))

module _ (s : Setting) where
  -- a power ends a factor
  raised_means : (xs : List Token) (outer : List Frame) (frame : Frame) (f : Polynomial) (most last : ℕ) (digits : List ℕ) (o : Option Polynomial) (next : Reading) → EndsWithBase s xs outer frame f most (Power ∷ []) → length digits ≤ most_digits → digits_value 10 digits ≤ most → power_within s.modulus s.variables text_width f (digits_value 10 digits) ≡ o → power_factor s outer frame last o ≡ Ok next → ReadingMeans s (xs ++ Number digits ∷ []) next
  raised_means xs outer frame f most last digits None next h few small power e = absurd cc
  raised_means xs outer frame f most last digits (Some g) next h few small power e = multiplied_in (with_factor s.modulus frame.product g) refl e
    where
      factor : Partial s (xs ++ Number digits ∷ []) outer frame (factor_tokens (Raised h.base digits))
      factor = subst (Partial s (xs ++ Number digits ∷ []) outer frame) (append_assoc (base_tokens h.base) (Power ∷ []) (Number digits ∷ [])) (further s xs outer frame (base_tokens h.base ++ Power ∷ []) (Number digits) h.rest)

      multiplied_in : (o : Option Polynomial) → with_factor s.modulus frame.product g ≡ o → after_factor_at outer frame last o ≡ Ok next → ReadingMeans s (xs ++ Number digits ∷ []) next
      multiplied_in None product d = absurd cc
      multiplied_in (Some k) product d = at_next s (xs ++ Number digits ∷ []) (record { outer = outer; frame = frame; mode = AfterFactor k }) next (term_from_factor s (xs ++ Number digits ∷ []) outer frame (Raised h.base digits) g k factor (ap (of_one (λ x. power_within s.modulus s.variables text_width x (digits_value 10 digits))) h.value ∙ power) (h.within, few, subst (λ n. digits_value 10 digits ≤ n) h.most_is small) product) d

  exponent_means : (xs : List Token) (outer : List Frame) (frame : Frame) (f : Polynomial) (most : ℕ) (t : Placed) (x : Token) (next : Reading) → EndsWithBase s xs outer frame f most (Power ∷ []) → at_exponent s outer frame f most t x ≡ Ok next → ReadingMeans s (xs ++ x ∷ []) next
  exponent_means xs outer frame f most t (Number digits) next h e =
      let power : Option Polynomial = power_within s.modulus s.variables text_width f (digits_value 10 digits) in
      let first = ok_after_test (ltb most_digits (length digits)) (fault 9 t.first) (cond (ltb most (digits_value 10 digits)) (Err (fault 10 t.first)) (power_factor s outer frame t.last power)) next e in
      let second = ok_after_test (ltb most (digits_value 10 digits)) (fault 10 t.first) (power_factor s outer frame t.last power) next first.1 in
      raised_means xs outer frame f most t.last digits power next h (ltb-false most_digits (length digits) first.0) (ltb-false most (digits_value 10 digits) second.0) refl second.1
  exponent_means xs outer frame f most t _ next h e = absurd cc

  module _ (many : 1 < s.modulus) where
    -- a sign after a sum
    signed_means : (xs : List Token) (outer : List Frame) (f : Polynomial) (is_negative : Bool) → EndsWithSum s xs outer f → Partial s (xs ++ (cond is_negative Minus Plus) ∷ []) outer (record { sum = f; is_negative = is_negative; product = None }) []
    signed_means xs outer f false h = record {
      parts = h.parts;
      before = Adding h.tree;
      factors = None;
      spelled = more xs (outer_tokens h.parts) [] (sum_tokens h.tree) Plus h.spelled ∙ ap (λ ys. outer_tokens h.parts ++ ys) (sym (append-nil (sum_tokens h.tree ++ Plus ∷ [])));
      outer_means = h.outer_means;
      sum_means = (refl, h.value, h.within);
      product_means = refl;
    }
    signed_means xs outer f true h = record {
      parts = h.parts;
      before = TakingAway h.tree;
      factors = None;
      spelled = more xs (outer_tokens h.parts) [] (sum_tokens h.tree) Minus h.spelled ∙ ap (λ ys. outer_tokens h.parts ++ ys) (sym (append-nil (sum_tokens h.tree ++ Minus ∷ [])));
      outer_means = h.outer_means;
      sum_means = (refl, h.value, h.within);
      product_means = refl;
    }

    -- a sum in parentheses is a base
    parenthesis_means : (xs : List Token) (outer : List Frame) (around : Frame) (f : Polynomial) (tree : Sum) (parts : List Part) → xs ≡ outer_tokens parts ++ sum_tokens tree → OuterMeans s parts (around ∷ outer) → (h : EndsWithSum s xs (around ∷ outer) f) → h.tree ≡ tree → EndsWithBase s (xs ++ Close ∷ []) outer around f most_power []
    parenthesis_means xs outer around f tree [] e o h d = absurd o
    parenthesis_means xs outer around f tree (part ∷ parts) e o h d = record {
      base = Parenthesis h.tree;
      rest = record {
        parts = parts;
        before = part.0;
        factors = part.1;
        spelled = closed_tokens xs (outer_tokens parts) (before_tokens part.0) (factors_tokens part.1) (sum_tokens h.tree) (e ∙ ap (λ x. outer_tokens (part ∷ parts) ++ sum_tokens x) (sym d));
        outer_means = o.3;
        sum_means = o.1;
        product_means = o.2;
      };
      value = h.value;
      most_is = refl;
      within = (o.0, h.within);
    }

    closed_means : (xs : List Token) (outer : List Frame) (frame : Frame) (f : Polynomial) (t : Placed) (next : Reading) → EndsWithTerm s xs outer frame f → closed_at s outer frame t f ≡ Ok next → ReadingMeans s (xs ++ Close ∷ []) next
    closed_means xs [] frame f t next h e = absurd cc
    closed_means xs (around ∷ outer) frame f t next h e =
        let whole = sum_from_term s many xs (around ∷ outer) frame f h in
        at_next s (xs ++ Close ∷ []) (record { outer = outer; frame = around; mode = AfterBase (with_last s.modulus frame f) t.last most_power }) next (parenthesis_means xs outer around (with_last s.modulus frame f) whole.tree whole.parts whole.spelled whole.outer_means whole refl) e

    after_factor_means : (xs : List Token) (outer : List Frame) (frame : Frame) (f : Polynomial) (t : Placed) (x : Token) (next : Reading) → EndsWithTerm s xs outer frame f → after_factor s outer frame f t x ≡ Ok next → ReadingMeans s (xs ++ x ∷ []) next
    after_factor_means xs outer frame f t Times next h e = at_next s (xs ++ Times ∷ []) (record { outer = outer; frame = record frame { product = Some f }; mode = AtFactor }) next (record {
      parts = h.parts;
      before = h.before;
      factors = Some h.tree;
      spelled = more xs (outer_tokens h.parts) (before_tokens h.before) (term_tokens h.tree) Times h.spelled ∙ ap (λ ys. outer_tokens h.parts ++ (before_tokens h.before ++ ys)) (sym (append-nil (term_tokens h.tree ++ Times ∷ [])));
      outer_means = h.outer_means;
      sum_means = h.sum_means;
      product_means = (f, refl, h.value, h.within);
    }) e
    after_factor_means xs outer frame f t Plus next h e = at_next s (xs ++ Plus ∷ []) (record { outer = outer; frame = record { sum = with_last s.modulus frame f; is_negative = false; product = None }; mode = AtFactor }) next (signed_means xs outer (with_last s.modulus frame f) false (sum_from_term s many xs outer frame f h)) e
    after_factor_means xs outer frame f t Minus next h e = at_next s (xs ++ Minus ∷ []) (record { outer = outer; frame = record { sum = with_last s.modulus frame f; is_negative = true; product = None }; mode = AtFactor }) next (signed_means xs outer (with_last s.modulus frame f) true (sum_from_term s many xs outer frame f h)) e
    after_factor_means xs outer frame f t Close next h e = closed_means xs outer frame f t next h e
    after_factor_means xs outer frame f t _ next h e = absurd cc

    -- a factor without a power ends a term
    pub bare_term : (xs : List Token) (outer : List Frame) (frame : Frame) (f g : Polynomial) (most : ℕ) → EndsWithBase s xs outer frame f most [] → with_factor s.modulus frame.product f ≡ Some g → EndsWithTerm s xs outer frame g
    bare_term xs outer frame f g most h product = term_from_factor s xs outer frame (Bare h.base) f g (subst (Partial s xs outer frame) (append-nil (base_tokens h.base)) h.rest) h.value h.within product

    after_bare_means : (xs : List Token) (outer : List Frame) (frame : Frame) (f : Polynomial) (most last : ℕ) (t : Placed) (x : Token) (next : Reading) (o : Option Polynomial) → EndsWithBase s xs outer frame f most [] → t.token ≡ x → with_factor s.modulus frame.product f ≡ o → elim o as (λ _. Result Reading Fault) [ None ↦ Err (fault 11 last) | Some g ↦ after_factor s outer frame g t t.token ] ≡ Ok next → ReadingMeans s (xs ++ x ∷ []) next
    after_bare_means xs outer frame f most last t x next None h d product e = absurd cc
    after_bare_means xs outer frame f most last t x next (Some g) h d product e = subst (λ y. ReadingMeans s (xs ++ y ∷ []) next) d (after_factor_means xs outer frame g t t.token next (bare_term xs outer frame f g most h product) e)

    after_base_means : (xs : List Token) (outer : List Frame) (frame : Frame) (f : Polynomial) (most last : ℕ) (t : Placed) (x : Token) (next : Reading) → EndsWithBase s xs outer frame f most [] → t.token ≡ x → after_base_token s outer frame f last most t x ≡ Ok next → ReadingMeans s (xs ++ x ∷ []) next
    after_base_means xs outer frame f most last t Power next h d e = at_next s (xs ++ Power ∷ []) (record { outer = outer; frame = frame; mode = AtExponent f most }) next (record {
      base = h.base;
      rest = subst (Partial s (xs ++ Power ∷ []) outer frame) (append_assoc (base_tokens h.base) [] (Power ∷ [])) (further s xs outer frame (base_tokens h.base ++ []) Power h.rest);
      value = h.value;
      most_is = h.most_is;
      within = h.within;
    }) e
    after_base_means xs outer frame f most last t Plus next h d e = after_bare_means xs outer frame f most last t Plus next (with_factor s.modulus frame.product f) h d refl e
    after_base_means xs outer frame f most last t x next h d e = after_bare_means xs outer frame f most last t x next (with_factor s.modulus frame.product f) h d refl e

    -- each token keeps what the reading means
    step_in_means : (xs : List Token) (outer : List Frame) (frame : Frame) (t : Placed) (m : Mode) (next : Reading) → Means s xs outer frame m → step_in s outer frame t m ≡ Ok next → ReadingMeans s (xs ++ t.token ∷ []) next
    step_in_means xs outer frame t AtSum next h e = sum_means s xs outer frame t t.token next h e
    step_in_means xs outer frame t AtFactor next h e = factor_means s xs outer frame t t.token next h e
    step_in_means xs outer frame t (AfterBase f last most) next h e = after_base_means xs outer frame f most last t t.token next h refl e
    step_in_means xs outer frame t (AtExponent f most) next h e = exponent_means xs outer frame f most t t.token next h e
    step_in_means xs outer frame t (AfterFactor f) next h e = after_factor_means xs outer frame f t t.token next h e

    pub step_means : (xs : List Token) (r next : Reading) (t : Placed) → ReadingMeans s xs r → step s t r ≡ Ok next → ReadingMeans s (xs ++ t.token ∷ []) next
    step_means xs r next t h e = step_in_means xs r.outer r.frame t r.mode next h e

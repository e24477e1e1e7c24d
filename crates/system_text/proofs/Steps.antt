-- Each token that is read keeps what the reading means.
use Rattle.std.proofs.Common.{◌≡◌, ℕ, ◌%◌, true, ltb, leb, List, [], ◌∷◌, ◌++◌, length, Option, Some, None, Result, Ok, refl, sym, ap, ◌∙◌, subst, append_assoc, append-nil}
use Rattle.std.proofs.lemmas.Bool.{ltb-false, leb-false}
use Rattle.std.specs.Str.Parse.{digits_value}
use Rattle.polynomials.specs.Polynomials.{Polynomial, constant_of, variable_power}
use Rattle.polynomials.specs.Fits.{most_exponent}
use Rattle.system_text.specs.Tokens.{Token, Placed, Name, Number, Minus, Open}
use Rattle.system_text.specs.Faults.{Fault, fault}
use Rattle.system_text.specs.Limits.{most_digits, most_depth}
use Rattle.system_text.specs.Readings.{Setting, Frame, Reading, AtSum, AtFactor, AfterBase, empty_frame}
use Rattle.system_text.specs.Factors.{place_of_name, after_base, variable_at, number_base, opened_at, at_factor, at_sum}
use Rattle.system_text.specs.Grammar.{Base, Numeral, Variable, variable_of, base_tokens, base_value, most_of}
use Rattle.system_text.proofs.PartialTrees.{Beginning, Negative, before_tokens, factors_tokens, outer_tokens, Partial, EndsOpen, ReadingMeans}
use Rattle.system_text.proofs.Passed.{ok_after_test}

-- one more token
pub more : (xs as' bs last : List Token) (x : Token) → xs ≡ as' ++ (bs ++ last) → xs ++ x ∷ [] ≡ as' ++ (bs ++ (last ++ x ∷ []))
more xs as' bs last x e = ap (λ ys. ys ++ x ∷ []) e ∙ append_assoc as' (bs ++ last) (x ∷ []) ∙ ap (λ ys. as' ++ ys) (append_assoc bs last (x ∷ []))

more_after_factors : (xs as' bs cs last : List Token) (x : Token) → xs ≡ as' ++ (bs ++ (cs ++ last)) → xs ++ x ∷ [] ≡ as' ++ (bs ++ (cs ++ (last ++ x ∷ [])))
more_after_factors xs as' bs cs last x e = more xs as' bs (cs ++ last) x e ∙ ap (λ ys. as' ++ (bs ++ ys)) (append_assoc cs last (x ∷ []))

module _ (s : Setting) where
  -- the reading that follows is this one
  pub at_next : (xs : List Token) (r next : Reading) → ReadingMeans s xs r → ◌≡◌ {A = Result Reading Fault} (Ok r) (Ok next) → ReadingMeans s xs next
  at_next xs r next h e =
      let same : r ≡ next = cc in
      subst (ReadingMeans s xs) same h

  -- more tokens after the same sums
  pub further : (xs : List Token) (outer : List Frame) (frame : Frame) (last : List Token) (x : Token) → Partial s xs outer frame last → Partial s (xs ++ x ∷ []) outer frame (last ++ x ∷ [])
  further xs outer frame last x h = record {
    parts = h.parts;
    before = h.before;
    factors = h.factors;
    spelled = more_after_factors xs (outer_tokens h.parts) (before_tokens h.before) (factors_tokens h.factors) last x h.spelled;
    outer_means = h.outer_means;
    sum_means = h.sum_means;
    product_means = h.product_means;
  }

  module _ (xs : List Token) (outer : List Frame) (frame : Frame) (t : Placed) where
    name_means : (x : List ℕ) (place : Option ℕ) (next : Reading) → place_of_name 0 s.names x ≡ place → Partial s xs outer frame [] → variable_at s outer frame t place ≡ Ok next → ReadingMeans s (xs ++ Name x ∷ []) next
    name_means x None next d h e = absurd cc
    name_means x (Some v) next d h e = at_next (xs ++ Name x ∷ []) (record { outer = outer; frame = frame; mode = AfterBase (variable_power s.variables v 1) t.last most_exponent }) next (record {
      base = Variable x;
      rest = further xs outer frame [] (Name x) h;
      value = ap (variable_of s.variables) d;
      most_is = refl;
      within = tt;
    }) e

    number_means : (digits : List ℕ) (next : Reading) → Partial s xs outer frame [] → number_base s outer frame t digits ≡ Ok next → ReadingMeans s (xs ++ Number digits ∷ []) next
    number_means digits next h e =
        let f : Polynomial = constant_of s.variables (digits_value 10 digits % s.modulus) in
        let passed = ok_after_test (ltb most_digits (length digits)) (fault 9 t.first) (after_base s outer frame f t.last most_exponent) next e in
        at_next (xs ++ Number digits ∷ []) (record { outer = outer; frame = frame; mode = AfterBase f t.last most_exponent }) next (record {
          base = Numeral digits;
          rest = further xs outer frame [] (Number digits) h;
          value = refl;
          most_is = refl;
          within = ltb-false most_digits (length digits) passed.0;
        }) passed.1

    open_means : (next : Reading) → Partial s xs outer frame [] → opened_at s outer frame t ≡ Ok next → ReadingMeans s (xs ++ Open ∷ []) next
    open_means next h e =
        let inner : Reading = record { outer = frame ∷ outer; frame = empty_frame; mode = AtSum } in
        let passed = ok_after_test (leb most_depth (length outer)) (fault 12 t.first) (Ok inner) next e in
        at_next (xs ++ Open ∷ []) inner next (record {
          parts = (h.before, h.factors) ∷ h.parts;
          spelled = more_after_factors xs (outer_tokens h.parts) (before_tokens h.before) (factors_tokens h.factors) [] Open h.spelled;
          outer_means = (leb-false most_depth (length outer) passed.0, h.sum_means, h.product_means, h.outer_means);
          empty = refl;
        }) passed.1

    pub factor_means : (x : Token) (next : Reading) → Partial s xs outer frame [] → at_factor s outer frame t x ≡ Ok next → ReadingMeans s (xs ++ x ∷ []) next
    factor_means (Name x) next h e = name_means x (place_of_name 0 s.names x) next refl h e
    factor_means (Number digits) next h e = number_means digits next h e
    factor_means Open next h e = open_means next h e
    factor_means _ next h e = absurd cc

  -- a sum of which nothing is read, as one that has a term to come
  begun : (xs : List Token) (outer : List Frame) (frame : Frame) → EndsOpen s xs outer frame → Partial s xs outer frame []
  begun xs outer frame h = record {
    parts = h.parts;
    before = Beginning;
    factors = None;
    spelled = h.spelled ∙ sym (append-nil (outer_tokens h.parts));
    outer_means = h.outer_means;
    sum_means = (ap (λ x. x.is_negative) h.empty, ap (λ x. x.sum) h.empty);
    product_means = ap (λ x. x.product) h.empty;
  }

  pub sum_means : (xs : List Token) (outer : List Frame) (frame : Frame) (t : Placed) (x : Token) (next : Reading) → EndsOpen s xs outer frame → at_sum s outer frame t x ≡ Ok next → ReadingMeans s (xs ++ x ∷ []) next
  sum_means xs outer frame t Minus next h e = at_next (xs ++ Minus ∷ []) (record { outer = outer; frame = record frame { is_negative = true }; mode = AtFactor }) next (record {
    parts = h.parts;
    before = Negative;
    factors = None;
    spelled = ap (λ ys. ys ++ Minus ∷ []) h.spelled;
    outer_means = h.outer_means;
    sum_means = (refl, ap (λ x. x.sum) h.empty);
    product_means = ap (λ x. x.product) h.empty;
  }) e
  sum_means xs outer frame t (Name x) next h e = factor_means xs outer frame t (Name x) next (begun xs outer frame h) e
  sum_means xs outer frame t x next h e = factor_means xs outer frame t x next (begun xs outer frame h) e

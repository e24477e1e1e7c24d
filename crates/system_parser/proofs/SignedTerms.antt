-- Terms that are appended to a sum, and what is then collected.
use Rattle.std.proofs.Common.{◌≡◌, ℕ, zero, suc, ◌+◌, ◌-◌, ◌<◌, Bool, true, false, cond, List, [], ◌∷◌, ◌++◌, length, get_or, drop, refl, sym, ap, ap₂, ◌∙◌, arith, append_assoc}
use Rattle.std.specs.List.{All}
use Rattle.std.proofs.Math.Nat.{mod-eq_of_lt, mod-lt}
use Rattle.polynomials.specs.Polynomials.{Term, term, Polynomial, IsPolynomial, collected, negative_of}
use Rattle.polynomials.specs.Rings.{Ring, weighted_sum}
use Rattle.polynomials.proofs.WeightedSums.{weighted_sum-append}
use Rattle.polynomials.proofs.SumsOfOperations.{weighted_sum-collected}
use Rattle.polynomials.proofs.Residues.{Residue, residues, residues_characteristic}
use Rattle.polynomials.proofs.Monomialwise.{EachMonomial-append, HaveLength, HaveLength-from_IsPolynomial}
use Rattle.polynomials.proofs.Canonical.{IsPolynomial-collected}
use Rattle.polynomials.proofs.SamePolynomials.{same_from_sums, SameSums-from_one}
use Rattle.sparse_poly.specs.Falling.{AreResidues}
use Rattle.sparse_poly.proofs.Places.{drop_item}
use Rattle.system_text.specs.Factors.{with_last}
use Rattle.system_parser.specs.Sums.{negated_if, signed_terms}

-- one term more was appended
pub signed_turn : (p : ℕ) (sign : Bool) (out rest all : List Term) (k : ℕ) (t : Term) → k < length rest → t ≡ get_or rest k t → out ++ signed_terms p sign (drop k rest) ≡ all → (out ++ term t.0 (negated_if p sign t.1) ∷ []) ++ signed_terms p sign (drop (k + 1) rest) ≡ all
signed_turn p sign out rest all k t below at h =
    append_assoc out (term t.0 (negated_if p sign t.1) ∷ []) (signed_terms p sign (drop (k + 1) rest))
    ∙ (ap (λ l. out ++ signed_terms p sign l) (sym (drop_item rest k t below at)) ∙ h)

-- with their own signs they are themselves, and with the other their negative
pub signed_terms_are : (p n : ℕ) (sign : Bool) (f : Polynomial) → IsPolynomial p n f → signed_terms p sign f ≡ cond sign (negative_of p f) f
signed_terms_are p n true [] i = refl
signed_terms_are p n true (t ∷ f) i =
    ap₂ ◌∷◌ (ap (term t.0) (mod-eq_of_lt (less t.1 i.1 i.2))) (signed_terms_are p n true f i.4)
  where
    less : (c : ℕ) → 0 < c → c < p → p - c < p
    less c some small = omega arith
signed_terms_are p n false [] i = refl
signed_terms_are p n false (t ∷ f) i = ap (λ g. t ∷ g) (signed_terms_are p n false f i.4)

-- their coefficients are residues
pub signed_terms_small : (p n : ℕ) (sign : Bool) (f : Polynomial) → IsPolynomial p n f → AreResidues p (signed_terms p sign f)
signed_terms_small p n sign [] i = tt
signed_terms_small p n sign (t ∷ f) i = (small sign t.1 i.1 i.2, signed_terms_small p n sign f i.4)
  where
    small : (s : Bool) (c : ℕ) → 0 < c → c < p → negated_if p s c < p
    small true c some below = mod-lt (p - c) (omega arith)
    small false c some below = below

-- and they have their exponents
pub signed_terms_variables : (p n : ℕ) (sign : Bool) (f : Polynomial) → IsPolynomial p n f → HaveLength n (signed_terms p sign f)
signed_terms_variables p n sign [] i = tt
signed_terms_variables p n sign (t ∷ f) i = (i.0, signed_terms_variables p n sign f i.4)

-- residues by their places
pub All-from_residues : (p : ℕ) (ts : List Term) → AreResidues p ts → All (λ t. t.1 < p) ts
All-from_residues p [] h k d below = absurd (omega arith)
All-from_residues p (t ∷ ts) h zero d below = h.0
All-from_residues p (t ∷ ts) h (suc k) d below = All-from_residues p ts h.1 k d (omega arith)

-- residues and residues
pub AreResidues-append : (p : ℕ) (ts us : List Term) → AreResidues p ts → AreResidues p us → AreResidues p (ts ++ us)
AreResidues-append p [] us a b = b
AreResidues-append p (t ∷ ts) us a b = (a.0, AreResidues-append p ts us a.1 b)

pub HaveLength-append : (n : ℕ) (ts us : List Term) → HaveLength n ts → HaveLength n us → HaveLength n (ts ++ us)
HaveLength-append n ts us a b = EachMonomial-append (λ m. length m ≡ n) ts us a b

module _ (p n : ℕ) (positive : 0 < p) where
  abbrev R : Ring (Residue p)
  R = residues p positive

  -- the front may be collected before
  pub collected-append : (ts us : List Term) → HaveLength n ts → HaveLength n us → HaveLength n (collected p ts) → collected p (ts ++ us) ≡ collected p (collected p ts ++ us)
  collected-append ts us a b d =
      same_from_sums p n _ _
      (IsPolynomial-collected p n positive (ts ++ us) (HaveLength-append n ts us a b))
      (IsPolynomial-collected p n positive (collected p ts ++ us) (HaveLength-append n (collected p ts) us d b))
      (SameSums-from_one p positive _ _ (λ h.
      weighted_sum-collected R p (residues_characteristic p positive) h (ts ++ us)
      ∙ (weighted_sum-append R h ts us
      ∙ (ap (λ w. R.◌⊕◌ w (weighted_sum R h us)) (sym (weighted_sum-collected R p (residues_characteristic p positive) h ts))
      ∙ (sym (weighted_sum-append R h (collected p ts) us)
      ∙ sym (weighted_sum-collected R p (residues_characteristic p positive) h (collected p ts ++ us)))))))

  -- what is collected after a term was ended is the sum with that term
  pub collected-ended : (sign : Bool) (product : _) (ts out : List Term) (f : Polynomial) → HaveLength n ts → IsPolynomial p n f → out ≡ ts ++ signed_terms p sign f → collected p out ≡ with_last p (record { sum = collected p ts; is_negative = sign; product = product }) f
  collected-ended sign product ts out f a i appended =
      ap (collected p) appended
      ∙ (collected-append ts (signed_terms p sign f) a (signed_terms_variables p n sign f i) (HaveLength-from_IsPolynomial p n (collected p ts) (IsPolynomial-collected p n positive ts a))
      ∙ (ap (λ l. collected p (collected p ts ++ l)) (signed_terms_are p n sign f i) ∙ by_sign sign))
    where
      by_sign : (s : Bool) → collected p (collected p ts ++ cond s (negative_of p f) f) ≡ with_last p (record { sum = collected p ts; is_negative = s; product = product }) f
      by_sign true = refl
      by_sign false = refl

-- An initial loses no zero, and what comes of it is its certificate.
use Rattle.std.proofs.Common.{◌≡◌, ◌≢◌, ℕ, false, List, [], ◌∷◌, sym, ap, ◌∙◌, arith}
use Rattle.polynomials.specs.Polynomials.{Polynomial, sum_of, product_of}
use Rattle.polynomials.specs.Views.{initial_of, is_constant}
use Rattle.zero_sets.specs.Certificates.{Certificate, CertifiesInitial}
use Rattle.zero_sets.specs.Domains.{Tables, value_at}
use Rattle.zero_sets.specs.ZeroSets.{members_below}
use Rattle.division_rules.specs.Rows.{Row}
use Rattle.division_rules.proofs.ListWords.{words_are_list_words}
use Rattle.split_paths.specs.declared.splitter.Step.TheVariants.{Emit}
use Rattle.tree_laws.specs.Points.{IfEmitted}
use Rattle.tree_laws.proofs.Steps.{emitted_kept, emitted_emits, some_kept, nothing_emitted}
use Rattle.finish_rules.specs.Identities.{certificate_of}
use Rattle.finish_rules.specs.Turns.{IdentitySoFar, Turned}
use Rattle.finish_rules.specs.Initials.{turned, regularised}
use Rattle.finish_laws.specs.Identities.{IsMemberOver, IsIdentity}
use Rattle.finish_laws.specs.Laws.{IsPointOff, KeepsZeros, RegularisingLosesNoZero, RegularisingCertifies}
use Rattle.finish_laws.proofs.IdentitiesKept.{Keep, turned_holds}
use Rattle.finish_laws.proofs.Mains.{lacks_each}
use Rattle.finish_laws.proofs.Starts.{starts_nonzero}
use Rattle.finish_laws.proofs.Vanishing.{some_vanishes}

module _ (p n w v : ℕ) (chain ns : List Polynomial) (t : Polynomial) (member : IsMemberOver p n v chain t) where
  module _ (r : Tables) (xs : List ℕ) (off : IsPointOff p r xs chain ns) where
    abbrev Vanishes : Polynomial → Type 0
    Vanishes f = value_at r xs f ≡ r.nil

    -- a polynomial that wasn't composed isn't zero
    abbrev IsFirst : IdentitySoFar → Type 0
    IsFirst s = s.composed ≡ false → value_at r xs s.row.first ≢ r.nil

    abbrev IsKept : Turned → Type 0
    IsKept made = KeepsZeros r xs made

    zeros_kept : Keep p n w v chain ns t member IsFirst IsKept
    zeros_kept = record {
      wide = tt;
      gone = λ f made null. starts_nonzero p n w v chain t member f made r xs off.over off.inside (ap (value_at r xs) null);
      start = λ f made is e. starts_nonzero p n w v chain t member f made r xs off.over off.inside;
      done = λ s is first. tt;
      coprime = λ u s q rows f is first makes composes next e. cc;
      common = λ u s q rows z b is first makes last reduced. some_kept Vanishes (λ (f : Row Polynomial). Unit {0}) _ (some_vanishes p n member.prime r xs chain ns off w v u t member (initial_of t) s is first q rows makes z last b reduced);
    }

    pub regularised_keeps : KeepsZeros r xs (regularised p n w chain ns v (initial_of t))
    regularised_keeps = emitted_kept Vanishes (λ (f : Row Polynomial). Unit {0}) (λ (c : Certificate). Unit {0}) (turned p n w chain ns v (initial_of t)) (λ f. Emit (certificate_of v f)) (turned_holds p n w v chain ns t member IsFirst IsKept zeros_kept) (λ f kept. tt)

  -- what is emitted is an identity for a polynomial without main variables
  abbrev EmitsIdentity : Turned → Type 0
  EmitsIdentity made = IfEmitted (IsIdentity p n v 0 chain (initial_of t)) made

  identities_made : Keep p n w v chain ns t member (λ s. Unit {0}) EmitsIdentity
  identities_made = record {
    wide = tt;
    gone = λ f made null. tt;
    start = λ f made is. tt;
    done = λ s is more. is;
    coprime = λ u s q rows f is more makes composes next. tt;
    common = λ u s q rows z b is more makes last reduced. nothing_emitted (IsIdentity p n v 0 chain (initial_of t)) _;
  }

  -- such an identity is a certificate
  certificate_certifies : is_constant (initial_of t) ≡ false → (first : Polynomial) (cs : List Polynomial) → IsIdentity p n v 0 chain (initial_of t) (record { first = first; cofactors = cs }) → CertifiesInitial p n chain (certificate_of v (record { first = first; cofactors = cs })) t
  certificate_certifies initial first [] is = let none = is.over.combination.one_each in absurd (omega (arith, none))
  certificate_certifies initial first (a ∷ bs) is = record {
    member = member.member;
    initial = initial;
    canonical = (is.over.canonical.1.0, is.over.canonical.1.1, is.over.canonical.0);
    count = (let each = is.over.combination.one_each in omega (arith, each));
    identity = ap (sum_of p (product_of p a (initial_of t))) (sym ((words_are_list_words p n).combined bs (members_below v chain))) ∙ sym is.over.combination.identity;
    nonzero = is.nonzero;
    free = lacks_each first chain is.lacks;
  }

  pub regularised_certifies : is_constant (initial_of t) ≡ false → IfEmitted (λ c. CertifiesInitial p n chain c t) (regularised p n w chain ns v (initial_of t))
  regularised_certifies initial = emitted_emits (IsIdentity p n v 0 chain (initial_of t)) (λ c. CertifiesInitial p n chain c t) (turned p n w chain ns v (initial_of t)) (λ f. Emit (certificate_of v f)) (turned_holds p n w v chain ns t member (λ s. Unit {0}) EmitsIdentity identities_made) (λ f is. certificate_certifies initial f.first f.cofactors is)

-- the laws
pub regularising_loses_no_zero : RegularisingLosesNoZero
regularising_loses_no_zero p n w v r xs chain ns t member off = regularised_keeps p n w v chain ns t member r xs off

pub regularising_certifies : RegularisingCertifies
regularising_certifies p n w v chain ns t member initial = regularised_certifies p n w v chain ns t member initial

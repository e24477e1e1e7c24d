-- The children of an imposed polynomial keep the form of the task.
use Rattle.std.proofs.Common.{◌≡◌, ℕ, zero, suc, List, [], ◌∷◌, ◌++◌, take, get_or, Some, refl, ◌∙◌}
use Rattle.std.specs.List.{AllByRecursion}
use Rattle.polynomials.specs.Primes.{IsPrime}
use Rattle.polynomials.specs.Polynomials.{Polynomial, IsPolynomial, ArePolynomials, monic}
use Rattle.polynomials.specs.Views.{degree_in, lead_in, tail_in, main_var, IsFreeOf, AreFreeOf}
use Rattle.polynomials.proofs.Coefficients.{IsPolynomial-coefficient_in}
use Rattle.polynomials.proofs.ExponentsBelow.{ExponentsBelow-one, ExponentsBelow-without_power}
use Rattle.polynomials.proofs.LeadAndTail.{lead_and_tail}
use Rattle.polynomials.proofs.MonicForms.{monic-monic}
use Rattle.polynomials.proofs.MonicLemmas.{IsPolynomial-monic}
use Rattle.zero_sets.specs.ZeroSets.{IsTriangular}
use Rattle.zero_sets.specs.Tasks.{Task, is_known_nonzero, with_nonzero, AreMonicApart}
use Rattle.division_rules.specs.Quotients.{without_factors}
use Rattle.division_rules.proofs.Factors.{IsPolynomial-without_factors}
use Rattle.division_rules.proofs.Steps.{choose}
use Rattle.impose_rules.specs.Factors.{stripped}
use Rattle.impose_rules.specs.Leads.{with_all_nonzero}
use Rattle.impose_rules.specs.Chains.{with_member}
use Rattle.impose_laws.specs.TaskForms.{IsTaskFreeOf, AreMonic, KeepsForm}
use Rattle.impose_rules.proofs.Lists.{each_appended, each_implied}
use Rattle.impose_laws.proofs.MonicForms.{degree_in-monic}
use Rattle.impose_laws.proofs.Stripped.{IsPolynomial-stripped, stripped_free, main_var-stripped}
use Rattle.impose_laws.proofs.NonzeroForms.{apart_with}
use Rattle.impose_laws.proofs.CommonRows.{lead_in_keeps_free}
use Rattle.impose_rules.proofs.ChainParts.{canonical_each, with_member_triangular, each_with_member}

-- a canonical polynomial without variables that don't occur in the task
pub record IsFrom (p n : ℕ) (task : Task) (f : Polynomial) : Type 0 where
  pub canonical : IsPolynomial p n f
  pub free : (x : ℕ) → IsTaskFreeOf x task → IsFreeOf x f

-- several of them
abbrev pub AreFrom : ℕ → ℕ → Task → List Polynomial → Type 0
AreFrom p n task fs = AllByRecursion (IsFrom p n task) fs

module _ (p n w : ℕ) (prime : IsPrime p) (task : Task) where
  -- lists are that, one by one
  pub from_lists : (fs : List Polynomial) → ArePolynomials p n fs → ((x : ℕ) → IsTaskFreeOf x task → AreFreeOf x fs) → AreFrom p n task fs
  from_lists [] h k = tt
  from_lists (f ∷ fs) h k = (record { canonical = h.0; free = λ x none. (k x none).0 }, from_lists fs h.1 (λ x none. (k x none).1))

  -- they are canonical
  pub canonical_from : (fs : List Polynomial) → AreFrom p n task fs → ArePolynomials p n fs
  canonical_from fs h = canonical_each p n fs (each_implied (IsFrom p n task) (IsPolynomial p n) (λ f i. i.canonical) fs h)

  free_from : (x : ℕ) → IsTaskFreeOf x task → (fs : List Polynomial) → AreFrom p n task fs → AreFreeOf x fs
  free_from x none fs h = each_implied (IsFrom p n task) (IsFreeOf x) (λ f i. i.free x none) fs h

  -- leads come from the task
  pub from_lead : (v : ℕ) (f : Polynomial) → IsFrom p n task f → IsFrom p n task (lead_in v f)
  from_lead v f h = record { canonical = IsPolynomial-coefficient_in v (degree_in v f) p n f h.canonical; free = λ x none. lead_in_keeps_free x v f (h.free x none) }

  -- tails
  pub from_tail : (v : ℕ) (f : Polynomial) → IsFrom p n task f → IsFrom p n task (tail_in v f)
  from_tail v f h = record { canonical = (lead_and_tail p n v f prime.many h.canonical).tail; free = λ x none. (ExponentsBelow-one x (tail_in v f)).0 (ExponentsBelow-without_power x 1 v (degree_in v f) f ((ExponentsBelow-one x f).1 (h.free x none))) }

  -- monic forms
  pub from_monic : (f : Polynomial) → IsFrom p n task f → IsFrom p n task (monic p f)
  from_monic f h = record { canonical = IsPolynomial-monic p n f prime h.canonical; free = λ x none. degree_in-monic p n prime x f h.canonical ∙ h.free x none }

  -- what is left without factors
  from_stripped : (bs : List Polynomial) (f : Polynomial) → ArePolynomials p n bs → IsFrom p n task f → IsFrom p n task (stripped p w bs f)
  from_stripped bs f are h = record { canonical = IsPolynomial-stripped p n w prime bs are f h.canonical; free = λ x none. stripped_free p n w prime bs are x f h.canonical (h.free x none) }

  -- a member of a list
  pub from_place : (fs : List Polynomial) (k : ℕ) → AreFrom p n task fs → IsFrom p n task (get_or fs k [])
  from_place [] k h = record { canonical = tt; free = λ x none. refl }
  from_place (f ∷ fs) zero h = h.0
  from_place (f ∷ fs) (suc k) h = from_place fs k h.1

  -- the first members
  pub from_first : (k : ℕ) (fs : List Polynomial) → AreFrom p n task fs → AreFrom p n task (take k fs)
  from_first zero fs h = tt
  from_first (suc k) [] h = tt
  from_first (suc k) (f ∷ fs) h = (h.0, from_first k fs h.1)

  -- a triangular set of them, monic where that of the task is
  pub record ChainKept (chain : List Polynomial) : Type 0 where
    pub from : AreFrom p n task chain
    pub triangular : IsTriangular chain
    pub monic_chain : AreMonic p task.chain → AreMonic p chain

  -- also with one of them, stripped, at its main variable
  pub chain_with : (v : ℕ) (bs : List Polynomial) (f : Polynomial) (chain : List Polynomial) → ArePolynomials p n bs → AreFreeOf v bs → IsFrom p n task f → main_var f ≡ Some v → ChainKept chain → ChainKept (with_member v (stripped p w bs f) chain)
  chain_with v bs f chain are free h main kept = record {
    from = each_with_member (IsFrom p n task) v (stripped p w bs f) chain (from_stripped bs f are h) kept.from;
    triangular = with_member_triangular v (stripped p w bs f) chain (main_var-stripped p n w prime bs are v free f h.canonical main) kept.triangular;
    monic_chain = λ m. each_with_member (λ t. monic p t ≡ t) v (stripped p w bs f) chain (monic-monic p n prime (without_factors p w bs f) (IsPolynomial-without_factors p n w prime bs f are h.canonical)) (kept.monic_chain m);
  }

  -- polynomials that don't vanish, different, monic and not constant where those of the task are
  pub record NonzeroKept (ns : List Polynomial) : Type 0 where
    pub from : AreFrom p n task ns
    pub apart : AreMonicApart p task.nonzero → AreMonicApart p ns

  -- also with one more
  pub nonzero_with : (ns : List Polynomial) (h : Polynomial) → IsFrom p n task h → NonzeroKept ns → NonzeroKept (with_nonzero p ns h)
  nonzero_with ns h i kept = record {
    from = choose (AreFrom p n task) (is_known_nonzero p ns h) ns (ns ++ monic p h ∷ []) (λ e. kept.from) (λ e. each_appended (IsFrom p n task) ns (monic p h ∷ []) kept.from (from_monic h i, tt));
    apart = λ a. apart_with p n prime ns h i.canonical (kept.apart a);
  }

  -- or several
  pub nonzero_with_all : (ns hs : List Polynomial) → AreFrom p n task hs → NonzeroKept ns → NonzeroKept (with_all_nonzero p ns hs)
  nonzero_with_all ns [] i kept = kept
  nonzero_with_all ns (h ∷ hs) i kept = nonzero_with_all (with_nonzero p ns h) hs i.1 (nonzero_with ns h i.0 kept)

  -- a child made of such parts keeps the form
  pub kept_form : (chain queue ns : List Polynomial) → ChainKept chain → AreFrom p n task queue → NonzeroKept ns → KeepsForm p n task (record { chain = chain; queue = queue; nonzero = ns })
  kept_form chain queue ns c q m = record {
    over = (canonical_from chain c.from, canonical_from queue q, canonical_from ns m.from);
    triangular = c.triangular;
    apart = m.apart;
    monic = c.monic_chain;
    free = λ x none. (free_from x none chain c.from, free_from x none queue q, free_from x none ns m.from);
  }

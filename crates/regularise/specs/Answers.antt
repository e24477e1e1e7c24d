-- What becomes of an initial, as a step to polynomials that vanish, or to its certificate.
use Rattle.std.specs.Prelude.{◌≡◌, ℕ, false, List, Option, Some, None, IfSome}
use Rattle.mono_words.specs.declared.mono.TheConstants.{VARS}
use Rattle.polynomials.specs.Polynomials.{Polynomial}
use Rattle.polynomials.specs.Views.{initial_of, is_constant}
use Rattle.zero_sets.specs.Certificates.{Certificate, CertifiesInitial, variable_to_certify}
use Rattle.zero_sets.specs.Domains.{Tables}
use Rattle.zero_sets.specs.ZeroSets.{member_in}
use Rattle.tree_laws.specs.Points.{IfEmitted}
use Rattle.finish_rules.specs.Initials.{regularised}
use Rattle.finish_laws.specs.Laws.{IsPointOff, KeepsZeros}
use Rattle.split_paths.specs.declared.splitter.Step.{Step}
use Rattle.split_paths.specs.declared.splitter.Step.TheVariants as step
use Rattle.regularise.specs.declared.answer.Regular.{Regular}
use Rattle.regularise.specs.declared.answer.Regular.TheVariants.{Certified, Gone, Kids, TooWide}

-- the same four cases
abbrev pub as_step : Regular → Step Polynomial Certificate
as_step (Certified c) = step.Emit c
as_step Gone = step.Gone
as_step (Kids fs) = step.Kids fs
as_step TooWide = step.TooWide

-- at each point of the chain's quasi-component where none of ns is zero, one of the polynomials is
-- that the initial gives way to; where it is gone there is no such point
abbrev pub LosesNoZero : ℕ → List Polynomial → List Polynomial → Regular → Type 0
LosesNoZero p chain ns made =
    (r : Tables) (xs : List ℕ) → IsPointOff p r xs chain ns → KeepsZeros r xs (as_step made)

-- a certificate is one of the initial at v, where that needs one
abbrev pub CertifiesMember : ℕ → ℕ → List Polynomial → Regular → Type 0
CertifiesMember p v chain made = IfSome (member_in v chain) (λ t.
    is_constant (initial_of t) ≡ false
    → IfEmitted (λ c. CertifiesInitial p VARS chain c t) (as_step made))

-- what becomes of the initial of t, where it needs a certificate
abbrev pub BecomesAt :
    ℕ → ℕ → List Polynomial → List Polynomial → Polynomial → Option Regular → Type 0
BecomesAt p w chain ns t None = variable_to_certify t ≡ None
BecomesAt p w chain ns t (Some made) =
    (v : ℕ)
    × (variable_to_certify t ≡ Some v)
    × (as_step made ≡ regularised p VARS w chain ns v (initial_of t))

-- The certificates of the initials of a chain, or the polynomials one of which vanishes where an
-- initial has none.
use Rattle.std.specs.Prelude.{ℕ, true, false, List, [], ◌∷◌, Option, Some, None}
use Rattle.polynomials.specs.Polynomials.{Polynomial, is_zero}
use Rattle.polynomials.specs.Views.{initial_of}
use Rattle.zero_sets.specs.ZeroSets.{members_below}
use Rattle.zero_sets.specs.Certificates.{Certificate, variable_to_certify}
use Rattle.division_rules.specs.Rows.{Row}
use Rattle.split_paths.specs.declared.splitter.Step.{Step}
use Rattle.split_paths.specs.declared.splitter.Step.TheVariants.{Gone, Emit}
use Rattle.tree_laws.specs.Steps.{emitted_then, fitting_then}
use Rattle.finish_rules.specs.Identities.{initial_row, certificate_of}
use Rattle.finish_rules.specs.Turns.{Turned, turns_below}

-- in n variables modulo p, with products within the width w, by a triangular set, where the
-- polynomials ns don't vanish
module _ (p n w : ℕ) (chain ns : List Polynomial) where
  -- what becomes of the reduced initial f at v: where it is 0 there are no points
  abbrev pub turned_from : ℕ → Row Polynomial → Turned
  turned_from v f = elim (is_zero f.first) [
    | true ↦ Gone
    | false ↦ turns_below p n w chain ns v (record { row = f; composed = false })
  ]

  -- what becomes of the initial h at v, reduced and turned
  abbrev pub turned : ℕ → Polynomial → Turned
  turned v h = fitting_then (initial_row p n w h (members_below v chain)) (λ f. turned_from v f)

  -- the initial h of the polynomial with the main variable v: its certificate, or what vanishes
  abbrev pub regularised : ℕ → Polynomial → Step Polynomial Certificate
  regularised v h = emitted_then (turned v h) (λ f. Emit (certificate_of v f))

  -- the certificate of t's initial, if it needs one, and those behind it
  abbrev pub certified_then :
      Polynomial → Option ℕ → Step Polynomial (List Certificate)
      → Step Polynomial (List Certificate)
  certified_then t None later = later
  certified_then t (Some v) later =
      emitted_then (regularised v (initial_of t))
      (λ c. emitted_then later (λ cs. Emit (c ∷ cs)))

  -- the certificates of those initials of some of the chain that need one, the least first
  abbrev pub certified : List Polynomial → Step Polynomial (List Certificate)
  certified [] = Emit []
  certified (t ∷ rest) = certified_then t (variable_to_certify t) (certified rest)

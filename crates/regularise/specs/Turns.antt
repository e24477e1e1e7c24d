-- One turn: what comes after it, and the same by remainder rows.
use Rattle.std.specs.Prelude.{ℕ, List}
use Rattle.mono_words.specs.declared.mono.TheConstants.{VARS}
use Rattle.polynomials.specs.Polynomials.{Polynomial}
use Rattle.split_paths.specs.declared.splitter.Step.TheVariants as step
use Rattle.tree_laws.specs.Steps.{gives_way_to}
use Rattle.subresultants.specs.declared.outcome.Remainders.{Remainders}
use Rattle.subresultants.specs.declared.outcome.Remainders.TheVariants as outcome
use Rattle.finish_rules.specs.Turns.{IdentitySoFar, Turned, coprime_turn, common_turn}
use Rattle.regularise.specs.declared.identity.Turn.{Turn}
use Rattle.regularise.specs.declared.identity.Turn.TheVariants.{Further, Vanishing, TooWide}

-- what becomes of an identity after a turn, where further ones make of it what is named
abbrev pub after : (IdentitySoFar → Turned) → Turn → Turned
after further (Further s) = further s
after further (Vanishing fs) = gives_way_to fs
after further TooWide = step.TooWide

-- P holds of an identity for further turns
abbrev pub IfFurther : (IdentitySoFar → Type 0) → Turn → Type 0
IfFurther P (Further s) = P s
IfFurther P (Vanishing fs) = Unit {0}
IfFurther P TooWide = Unit {0}

module _ (p w : ℕ) (chain ns : List Polynomial) where
  -- the turn by how the rows end
  abbrev pub turn_by_outcome : (IdentitySoFar → Turned) → IdentitySoFar → Remainders → Turned
  turn_by_outcome further s (outcome.Coprime r) = coprime_turn p VARS w chain ns further s r.last
  turn_by_outcome further s (outcome.Common r z) = common_turn p VARS w chain ns s r.leads z
  turn_by_outcome further s outcome.TooWide = step.TooWide

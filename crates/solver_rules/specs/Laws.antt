-- The law of the solver's runs.
use Rattle.std.specs.Prelude.{Bool}
use Rattle.mono_words.specs.declared.mono.TheConstants.{VARS}
use Rattle.run_rules.specs.Laws.{HasKnownEndings}
use Rattle.solver_rules.specs.Solver.{solver}

-- on one thread or with workers, a run whose source tells its bytes has one expected ending
abbrev pub RunsHaveOneEnding : Type 0
RunsHaveOneEnding = (with_workers : Bool) → HasKnownEndings (solver with_workers VARS)

-- The solver with several workers as a program.
use Rattle.std.specs.Prelude.{true}
use Rattle.mono_words.specs.declared.mono.TheConstants.{VARS}
use Rattle.tri_io.specs.Commands.{Options}
use Rattle.report_text.specs.declared.status.Status.{Status}
use Rattle.run_rules.specs.Programs.{Program}
use Rattle.solver_rules.specs.Solver.{solver}

-- the solver with workers
abbrev pub many : Program Options Status
many = solver true VARS

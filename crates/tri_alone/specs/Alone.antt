-- The solver on one thread as a program, and its walks.
use Rattle.std.specs.Prelude.{ℕ, false, Option}
use Rattle.mono_words.specs.declared.mono.TheConstants.{VARS}
use Rattle.system_text.specs.Lines.{TextSystem}
use Rattle.tri_io.specs.Commands.{Options}
use Rattle.split_paths.specs.Answer.{Answer}
use Rattle.finish_rules.specs.Leaves.{Leaf}
use Rattle.report_text.specs.declared.status.Status.{Status}
use Rattle.report_text.specs.Answers.{is_stopped}
use Rattle.run_rules.specs.Programs.{Program}
use Rattle.solver_reports.specs.Walks.{Walk}
use Rattle.solver_rules.specs.Solver.{solver, written_text}

-- the solver on one thread
abbrev pub alone : Program Options Status
alone = solver false VARS

-- what a walk of the tree of a system's cases gives
abbrev pub walk_for : Option ℕ → TextSystem → Answer Leaf → Walk
walk_for made system answer =
    record { text = written_text made system answer; stopped = is_stopped answer.stop }

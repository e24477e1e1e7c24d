-- Lawful leaves can be printed in the names of the system, and a summary is that of the counts.
use Rattle.std.proofs.Common.{ap, length, sym, subst, ◌∙◌}
use Rattle.std.proofs.lemmas.List.{length-map}
use Rattle.mono_words.specs.declared.mono.TheConstants.{VARS}
use Rattle.solver_reports.specs.Growth.{IsPrintableLeaf}
use Rattle.solver_rules.proofs.Printable.{lawful_printable}
use Rattle.tri_alone.proofs.walks.walk_cases.Goals as goal

pub walk-requires-clause-printable : goal.walk-requires-clause-printable
walk-requires-clause-printable c = λ leaf lawful. subst (λ k. IsPrintableLeaf k leaf) (ap (λ s. length s.names) (sym c.system.ensures) ∙ length-map _ _) (lawful_printable _ VARS _ leaf lawful)

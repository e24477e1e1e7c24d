-- Lawful polynomials are canonical.
use Rattle.std.proofs.Common.{length, sym, ap, subst, ◌∙◌}
use Rattle.mono_words.specs.declared.mono.TheConstants.{VARS}
use Rattle.polynomials.specs.Polynomials.{ArePolynomials}
use Rattle.impose_laws.specs.TaskForms.{IsTaskOver}
use Rattle.system_parser.specs.Systems.{names_of}
use Rattle.case_laws.proofs.Parts.{canonical_lawful, task_over}
use Rattle.case_tree.proofs.Roots.{finished_step}
use Rattle.case_tree.proofs.cases.Cases.step.Goals as goal

pub finish-requires-clause-inputs : goal.finish-requires-clause-inputs
finish-requires-clause-inputs c = subst (λ p. ArePolynomials p VARS c.self.inside.system.inputs) (ap (λ s. s.system.prime) c.self.view_is ∙ sym c.work-w.ensures.field) (canonical_lawful c.self.inside.system.field VARS (length (names_of c.self.inside.system.names)) c.self.inside.system.inputs c.self.invariant.inputs)

pub finish-requires-clause-over : goal.finish-requires-clause-over
finish-requires-clause-over c = subst (λ p. IsTaskOver p VARS c.args.task) (sym c.work-w.ensures.field) (task_over c.args.self.now.system.prime VARS (length c.args.self.now.system.names) c.args.task c.requires.1)

pub impose-requires-clause-over : goal.impose-requires-clause-over
impose-requires-clause-over c = subst (λ p. IsTaskOver p VARS c.args.task) (sym c.work-w.ensures.field) (task_over c.args.self.now.system.prime VARS (length c.args.self.now.system.names) c.args.task c.requires.1)

pub returns-then-is_empty : goal.returns-then-is_empty
returns-then-is_empty c = finished_step c.work-w.result.field c.work-w.result.width c.args.task c.self.view_is c.work-w.ensures.field c.work-w.ensures.width (sym (ap (λ t. t.queue) c.task.view_is) ∙ c.is_empty.ensures.0 c.if-is_empty.true) c.finish.result c.finish.ensures

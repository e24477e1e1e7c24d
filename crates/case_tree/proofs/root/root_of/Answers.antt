-- Lawful polynomials are canonical.
use Rattle.std.proofs.Common.{length}
use Rattle.mono_words.specs.declared.mono.TheConstants.{VARS}
use Rattle.system_parser.specs.Systems.{names_of}
use Rattle.case_laws.proofs.Parts.{canonical_lawful}
use Rattle.case_tree.proofs.root.root_of.Goals as goal

pub root_off_zero-requires-clause-over : goal.root_off_zero-requires-clause-over
root_off_zero-requires-clause-over c = canonical_lawful c.args.system.now.field VARS (length (names_of c.args.system.now.names)) c.args.system.now.nonzero c.requires.nonzero

-- The law of what lawful tasks emit, at a system's.
use Rattle.std.proofs.Common.{length}
use Rattle.mono_words.specs.declared.mono.TheConstants.{VARS}
use Rattle.case_laws.proofs.EmittedLeaves.{emitted_leaves_are_sound}
use Rattle.case_tree.specs.Systems.{polynomial_system_of}
use Rattle.case_tree.proofs.laws.emits_common_zeros_alone.Goals as goal

pub returns : goal.returns
returns c cases task lawful = emitted_leaves_are_sound VARS (length cases.system.names) cases.width (polynomial_system_of cases.system) task lawful.0 lawful.1

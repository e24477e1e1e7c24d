-- What is accepted, by the laws of system texts.
use Rattle.std.proofs.Common.{ℕ, List, Result, Ok, Err, IfOk, subst}
use Rattle.mono_words.specs.declared.mono.TheConstants.{VARS}
use Rattle.sparse_poly.specs.declared.system.System.{System}
use Rattle.system_text.specs.Faults.{Refusal}
use Rattle.system_text.specs.Lines.{TextSystem, read_text}
use Rattle.system_text.specs.Systems.{IsSystemText}
use Rattle.system_text.specs.Laws.{IsSystem}
use Rattle.system_text.proofs.ReadTexts.{system_texts_are_read}
use Rattle.system_text.proofs.ReadSystems.{what_is_read_is_a_system}
use Rattle.system_parser.specs.declared.errors.ParseFault.{ParseFault}
use Rattle.system_parser.specs.Readings.{Reads}
use Rattle.system_parser.specs.Systems.{text_system_of}

-- what was read is the system of the text
pub accepted_text : (bytes : List ℕ) (r : Result System ParseFault) → Reads text_system_of r (read_text VARS bytes) → IfOk r (λ s. IsSystemText VARS bytes (text_system_of s))
accepted_text bytes (Ok s) e = (system_texts_are_read VARS bytes (text_system_of s)).0 e
accepted_text bytes (Err e) h = tt

-- what was read is a system
pub accepted_system : (bytes : List ℕ) (r : Result System ParseFault) → Reads text_system_of r (read_text VARS bytes) → IfOk r (λ s. IsSystem VARS (text_system_of s))
accepted_system bytes (Ok s) e = what_is_read_is_a_system VARS bytes (text_system_of s) e
accepted_system bytes (Err e) h = tt

-- the text of a system is read as that system
pub system_is_read : (bytes : List ℕ) (r : Result System ParseFault) → Reads text_system_of r (read_text VARS bytes) → (t : TextSystem) → IsSystemText VARS bytes t → Reads text_system_of r (Ok t)
system_is_read bytes r h t is =
    let P : Result TextSystem Refusal → Type 0 = λ owed. Reads text_system_of r owed in
    subst P ((system_texts_are_read VARS bytes t).1 is) h

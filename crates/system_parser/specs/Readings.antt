-- What the reader gives, beside what is owed.
use Rattle.std.specs.Prelude.{◌≡◌, ℕ, Result, Ok, Err}
use Rattle.system_text.specs.Faults.{Fault as TextFault, Refusal}
use Rattle.system_parser.specs.declared.errors.ParseError.{ParseError}
use Rattle.system_parser.specs.declared.errors.ParseFault.{ParseFault}
use Rattle.system_parser.specs.declared.faults.Fault.{Fault}
use Rattle.system_parser.specs.declared.faults.LineFault.{LineFault}

-- a fault of a line
abbrev pub fault_of : Fault → TextFault
fault_of e = record { number = e.number; byte = e.byte }

-- a refusal with its place
abbrev pub refusal_of : ParseError → Refusal
refusal_of e = record { number = e.number; line = e.line; byte = e.byte }

-- the refusal is that of the line with its number, or both are a want of memory
abbrev pub IsInLine : ℕ → LineFault → ParseFault → Type 0
IsInLine line (LineFault.Memory e) fault = fault ≡ ParseFault.Memory e
IsInLine line (LineFault.Refused e) fault =
    fault ≡ ParseFault.Refused (record { number = e.number; line = line; byte = e.byte })

-- what is owed was given
abbrev pub GivesExactly : {A B : Type 0} → (A → B) → Result A Fault → Result B TextFault → Type 0
GivesExactly view (Ok x) owed = owed ≡ Ok (view x)
GivesExactly view (Err e) owed = owed ≡ Err (fault_of e)

-- what is owed was given, or there was no memory for it
abbrev pub Gives : {A B : Type 0} → (A → B) → Result A LineFault → Result B TextFault → Type 0
Gives view (Ok x) owed = owed ≡ Ok (view x)
Gives view (Err (LineFault.Memory e)) owed = Unit {0}
Gives view (Err (LineFault.Refused e)) owed = owed ≡ Err (fault_of e)

-- the same of a whole text
abbrev pub Reads : {A B : Type 0} → (A → B) → Result A ParseFault → Result B Refusal → Type 0
Reads view (Ok x) owed = owed ≡ Ok (view x)
Reads view (Err (ParseFault.Memory e)) owed = Unit {0}
Reads view (Err (ParseFault.Refused e)) owed = owed ≡ Err (refusal_of e)

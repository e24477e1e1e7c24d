-- The laws of system texts: what is read is what the grammar spells, and nothing else.
use Rattle.std.specs.Prelude.{◌≡◌, ◌↔◌, ℕ, ◌<◌, ◌≤◌, List, length, Ok, Contains, IsTrue}
use Rattle.polynomials.specs.Primes.{field_primes}
use Rattle.polynomials.specs.Polynomials.{Polynomial, IsPolynomial}
use Rattle.polynomials.specs.Views.{IsFreeOf}
use Rattle.system_text.specs.Readings.{Setting}
use Rattle.system_text.specs.Sums.{read_sum}
use Rattle.system_text.specs.Lines.{TextSystem, is_nonzero_line, read_nonzero, read_text}
use Rattle.system_text.specs.Systems.{SpellsSum, SpellsNonzero, IsSystemText, AreNames}

-- a line is read as a polynomial exactly where it spells a sum of that value
abbrev pub SpelledSumsAreRead : Type 0
SpelledSumsAreRead =
    (s : Setting) (line : List ℕ) (f : Polynomial)
    → 1 < s.modulus
    → (read_sum s line ≡ Ok f) ↔ SpellsSum s line f

-- a nonzero line is read as a polynomial exactly where it spells `nonzero` and a sum of that value
abbrev pub SpelledNonzeroLinesAreRead : Type 0
SpelledNonzeroLinesAreRead =
    (s : Setting) (line : List ℕ) (f : Polynomial)
    → 1 < s.modulus
    → (IsTrue (is_nonzero_line line) × (read_nonzero s line ≡ Ok f)) ↔ SpellsNonzero s line f

-- a text is read as a system exactly where it is that system's
abbrev pub SystemTextsAreRead : Type 0
SystemTextsAreRead =
    (n : ℕ) (bytes : List ℕ) (system : TextSystem)
    → (read_text n bytes ≡ Ok system) ↔ IsSystemText n bytes system

-- f is a canonical polynomial in which only variables with a name occur
abbrev pub IsNamedPolynomial : ℕ → ℕ → List (List ℕ) → Polynomial → Type 0
IsNamedPolynomial p n names f =
    IsPolynomial p n f × ((v : ℕ) → length names ≤ v → IsFreeOf v f)

-- each of them is
abbrev pub AreNamedPolynomials : ℕ → ℕ → List (List ℕ) → List Polynomial → Type 0
AreNamedPolynomials p n names fs =
    (f : Polynomial) → Contains fs f → IsNamedPolynomial p n names f

-- what is read has a prime that is offered, names that may stand, and canonical polynomials in them
pub record IsSystem (n : ℕ) (system : TextSystem) : Type 0 where
  pub prime : Contains field_primes system.prime
  pub lawful : AreNames n system.names
  pub inputs : AreNamedPolynomials system.prime n system.names system.inputs
  pub nonzero : AreNamedPolynomials system.prime n system.names system.nonzero

-- each text that is read is a system
abbrev pub WhatIsReadIsASystem : Type 0
WhatIsReadIsASystem =
    (n : ℕ) (bytes : List ℕ) (system : TextSystem)
    → read_text n bytes ≡ Ok system
    → IsSystem n system

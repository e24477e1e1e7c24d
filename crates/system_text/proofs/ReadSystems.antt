-- Each text that is read is a system.
use Rattle.std.proofs.Common.{ℕ, ◌<◌, not, List, [], ◌∷◌, subst, sym}
use Rattle.std.specs.Prelude.{filter}
use Rattle.std.proofs.lemmas.List.Elements.{All-from_recursion, All-contains}
use Rattle.std.specs.List.{AllByRecursion}
use Rattle.polynomials.specs.Polynomials.{Polynomial}
use Rattle.polynomials.proofs.PrimeLemmas.{IsPrime-field_primes}
use Rattle.system_text.specs.Tokens.{Token}
use Rattle.system_text.specs.Readings.{Setting}
use Rattle.system_text.specs.Lines.{is_nonzero_line, setting_of}
use Rattle.system_text.specs.Systems.{SpellEach, nonzero_word}
use Rattle.system_text.specs.Laws.{AreNamedPolynomials, WhatIsReadIsASystem}
use Rattle.system_text.proofs.Values.{IsNamed, sum_value_is_named}
use Rattle.system_text.proofs.ReadTexts.{system_texts_are_read}

-- what lines spell are polynomials in the variables that have a name
pub spelled_are_named : (first : List Token) (s : Setting) → 1 < s.modulus → (lines : List (List ℕ)) (fs : List Polynomial) → SpellEach first s lines fs → AllByRecursion (IsNamed s) fs
spelled_are_named first s many [] fs h = subst (AllByRecursion (IsNamed s)) (sym h) tt
spelled_are_named first s many (line ∷ lines) [] h = tt
spelled_are_named first s many (line ∷ lines) (f ∷ fs) h = (sum_value_is_named s many h.0.tree f h.0.value, spelled_are_named first s many lines fs h.1)

-- the law of what is read
pub what_is_read_is_a_system : WhatIsReadIsASystem
what_is_read_is_a_system n bytes system e =
    let h = (system_texts_are_read n bytes system).0 e in
    let many = (IsPrime-field_primes system.prime h.prime.offered).many in
    let s = setting_of n system in
    let each : (fs : List Polynomial) → AllByRecursion (IsNamed (setting_of n system)) fs → AreNamedPolynomials system.prime n system.names fs =
    λ fs ks f k. All-contains (IsNamed (setting_of n system)) fs f (All-from_recursion (IsNamed (setting_of n system)) fs ks) k in
    record {
      prime = h.prime.offered;
      lawful = h.order.lawful;
      inputs = each system.inputs (spelled_are_named [] s many (filter (λ line. not (is_nonzero_line line)) h.further_lines) system.inputs h.polynomials.inputs);
      nonzero = each system.nonzero (spelled_are_named nonzero_word s many (filter is_nonzero_line h.further_lines) system.nonzero h.polynomials.nonzero);
    }

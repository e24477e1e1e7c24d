-- A run has one expected ending.
use Rattle.std.proofs.Common.{◌≡◌, ℕ, Bool, true, false, List, Some, inl, inr, sym, ap, ◌∙◌, subst}
use Rattle.run_rules.specs.Programs.{Ending, Program, IsExpected, IsInput, IsCommandEnding, ending_of}
use Rattle.run_rules.specs.Laws.{HasKnownCommands}

-- a source tells one input, and a command that reads none has one
inputs_are_known : (reads : Bool) (told a b : List ℕ) → IsInput reads (Some told) a → IsInput reads (Some told) b → a ≡ b
inputs_are_known true told a b h k = sym h ∙ k
inputs_are_known false told a b h k = h ∙ sym k

module _ {O S : Type 0} (program : Program O S) (known : HasKnownCommands program) (words : List (List ℕ)) (bytes : List ℕ) where
  commands_end_once : (a b : Ending S) → IsCommandEnding program words (Some bytes) a → IsCommandEnding program words (Some bytes) b → a ≡ b
  commands_end_once a b h k =
      let same_options : h.options ≡ k.options = known words h.options k.options h.command k.command in
      let input = subst (λ options. IsInput (program.reads options) (Some bytes) h.bytes) same_options h.input in
      let same_bytes : h.bytes ≡ k.bytes = inputs_are_known (program.reads k.options) bytes h.bytes k.bytes input k.input in
      h.same ∙ ap (λ options. ending_of program options h.bytes) same_options ∙ ap (λ xs. ending_of program k.options xs) same_bytes ∙ sym k.same

  pub endings_are_known : (a b : Ending S) → IsExpected program words (Some bytes) a → IsExpected program words (Some bytes) b → a ≡ b
  endings_are_known a b (inl h) (inl k) = commands_end_once a b h k
  endings_are_known a b (inl h) (inr k) = absurd (k.0 h.options h.command)
  endings_are_known a b (inr h) (inl k) = absurd (h.0 k.options k.command)
  endings_are_known a b (inr h) (inr k) = h.1 ∙ sym k.1

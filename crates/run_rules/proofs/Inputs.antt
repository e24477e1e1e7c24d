-- What was read of a source: how a command ends for it, and what is left.
use Rattle.std.proofs.Common.{◌≡◌, ◌⊎◌, inl, inr, ℕ, ◌+◌, ◌<◌, ◌≤◌, ltb, cond, true, false, List, [], ◌++◌, length, drop, Option, Some, None, Ok, Err, IfSome, refl, sym, ap, ◌∙◌, subst, append-nil, length-append, lit≤, arith}
use Rattle.std.proofs.lemmas.Bool.Decides.{nat_tests}
use Rattle.std.proofs.lemmas.List.{drop_all}
use Rattle.std.proofs.Math.Seq.{drop-append_seam}
use Rattle.tri_io.specs.Transfers.{ReadsAll}
use Rattle.tri_io.specs.declared.input.Input.{Input}
use Rattle.tri_io.specs.declared.input.Input.TheVariants.{Whole, TooLong}
use Rattle.tri_io.specs.declared.input.ReadFail.{ReadFail}
use Rattle.run_rules.specs.Programs.{Ending, Program, IsExpected, IsReader, IsInput, ending_of, ending_of_input, most_bytes}
use Rattle.run_rules.specs.Runs.{Leaves}

-- few bytes pass the test, and more don't
few : (k : ℕ) (bytes : List ℕ) → length bytes ≤ k → ltb k (length bytes) ≡ false
few k bytes h = grind (arith, nat_tests)

many : (k : ℕ) (bytes : List ℕ) → k < length bytes → ltb k (length bytes) ≡ true
many k bytes h = grind (arith, nat_tests)

-- where all was read, the bytes are those that were told
whole_bytes : (bytes read left : List ℕ) → bytes ≡ read ++ left → left ≡ [] → bytes ≡ read
whole_bytes bytes read left h e = h ∙ ap (λ xs. read ++ xs) e ∙ append-nil read

-- behind a front stands what is left
behind : (bytes front left : List ℕ) → bytes ≡ front ++ left → left ≡ drop (length front) bytes
behind bytes front left e = sym (ap (λ xs. drop (length front) xs) e ∙ drop-append_seam front left)

-- more was read than an input may have
longer : (bytes front left : List ℕ) → length front ≡ most_bytes + 1 → bytes ≡ front ++ left → most_bytes < length bytes
longer bytes front left h e =
    let sum : length bytes ≡ length front + length left = ap length e ∙ length-append front left in
    omega arith

-- what was read to its end has the property
abbrev pub IfWhole : (List ℕ → Type 0) → Input → Type 0
IfWhole P (Whole bytes) = P bytes.items
IfWhole P TooLong = Unit {0}

-- what was read to its end is the input
pub whole_is_input : (told left : Option (List ℕ)) (input : Input) → ReadsAll most_bytes told left (Ok input) → IfWhole (λ bytes. IsInput true told bytes) input
whole_is_input told left TooLong h = tt
whole_is_input None left (Whole read) h = tt
whole_is_input (Some bytes) None (Whole read) h = absurd h.1
whole_is_input (Some bytes) (Some left) (Whole read) h = whole_bytes bytes read.items left h.1 h.2

module _ {O S : Type 0} (program : Program O S) where
  -- few bytes end as the program says, and more are too long
  few_ending : (options : O) (bytes : List ℕ) → length bytes ≤ most_bytes → program.ending options bytes ≡ ending_of program options bytes
  few_ending options bytes h = sym (ap (λ b. cond b program.too_long (program.ending options bytes)) (few most_bytes bytes h))

  many_ending : (options : O) (bytes : List ℕ) → most_bytes < length bytes → program.too_long ≡ ending_of program options bytes
  many_ending options bytes h = sym (ap (λ b. cond b program.too_long (program.ending options bytes)) (many most_bytes bytes h))

  module _ (words : List (List ℕ)) (options : O) (command : program.IsCommand words options) (reads : program.reads options ≡ true) where
    -- the ending of some bytes that are told is expected
    told_expected : (told : Option (List ℕ)) (bytes : List ℕ) (ending : Ending S) → IsInput true told bytes → ending ≡ ending_of program options bytes → IsExpected program words told ending
    told_expected told bytes ending h e = inl (record { options = options; command = command; bytes = bytes; input = subst (λ b. IsInput b told bytes) (sym reads) h; same = e })

    -- the ending of what was read is expected
    pub input_expected : (told left : Option (List ℕ)) (input : Input) (ending : Ending S) → ReadsAll most_bytes told left (Ok input) → ending ≡ ending_of_input program options input → IsExpected program words told ending
    input_expected None left (Whole read) ending h e = told_expected None read.items ending tt (e ∙ few_ending options read.items h.0)
    input_expected None left TooLong ending h e = told_expected None h.0 ending tt (e ∙ many_ending options h.0 (longer h.0 h.0 [] h.1 (sym (append-nil h.0))))
    input_expected (Some bytes) None (Whole read) ending h e = absurd h.1
    input_expected (Some bytes) None TooLong ending h e = absurd h.2
    input_expected (Some bytes) (Some left) (Whole read) ending h e = told_expected (Some bytes) read.items ending (whole_bytes bytes read.items left h.1 h.2) (e ∙ few_ending options read.items h.0)
    input_expected (Some bytes) (Some left) TooLong ending h e = told_expected (Some bytes) bytes ending refl (e ∙ many_ending options bytes (longer bytes h.0 left h.1 h.2))

  -- the ending of a command that reads no input is expected
  pub unread_expected : (words : List (List ℕ)) (options : O) (told : Option (List ℕ)) (ending : Ending S) → program.IsCommand words options → program.reads options ≡ false → ending ≡ program.ending options [] → IsExpected program words told ending
  unread_expected words options told ending command unread same =
      inl (record { options = options; command = command; bytes = []; input = subst (λ b. IsInput b told []) (sym unread) refl; same = same ∙ few_ending options [] (omega arith) })

  module _ (words : List (List ℕ)) where
    -- a command that read its input leaves what stands behind it, whatever its status is
    read_leaves : (bytes left : List ℕ) (status : S) → IsReader program words → left ≡ drop (most_bytes + 1) bytes → Leaves program words bytes (Some left) status
    read_leaves bytes left status reader e = record {
      unread = λ none. absurd (none reader);
      read = λ is_reader no_read_fault memory. ap Some e;
      ends = (most_bytes + 1, lit≤ tt, ap Some e);
    }

    pub input_leaves : (told left : Option (List ℕ)) (input : Input) (status : S) → IsReader program words → ReadsAll most_bytes told left (Ok input) → IfSome told (λ bytes. Leaves program words bytes left status)
    input_leaves None left input status reader h = tt
    input_leaves (Some bytes) None (Whole read) status reader h = absurd h.1
    input_leaves (Some bytes) None TooLong status reader h = absurd h.2
    input_leaves (Some bytes) (Some left) (Whole read) status reader h =
        let same : bytes ≡ read.items = whole_bytes bytes read.items left h.1 h.2 in
        let short : length bytes ≤ most_bytes = subst (λ xs. length xs ≤ most_bytes) (sym same) h.0 in
        read_leaves bytes left status reader (h.2 ∙ sym (drop_all (most_bytes + 1) bytes (omega arith)))
    input_leaves (Some bytes) (Some left) TooLong status reader h =
        read_leaves bytes left status reader (behind bytes h.0 left h.2 ∙ ap (λ k. drop k bytes) h.1)

    -- a command that failed to read leaves an end of its input
    pub failure_leaves : (told left : Option (List ℕ)) (fail : ReadFail) (status : S) → IsReader program words → (status ≡ program.read_fault) ⊎ (status ≡ program.out_of_memory) → ReadsAll most_bytes told left (Err fail) → IfSome told (λ bytes. Leaves program words bytes left status)
    failure_leaves None left fail status reader e h = tt
    failure_leaves (Some bytes) None fail status reader e h = absurd h.2
    failure_leaves (Some bytes) (Some left) fail status reader e h = record {
      unread = λ none. absurd (none reader);
      read = λ is_reader no_read_fault memory. absurd (elim e [ inl f ↦ no_read_fault f | inr f ↦ memory f ]);
      ends = (length h.0, omega arith, ap Some (behind bytes h.0 left h.2));
    }

    -- a run whose words are no command that reads an input leaves all
    pub nothing_read_leaves : (told left : Option (List ℕ)) (status : S) → (IsReader program words → ⊥) → left ≡ told → IfSome told (λ bytes. Leaves program words bytes left status)
    nothing_read_leaves None left status none e = tt
    nothing_read_leaves (Some bytes) left status none e = record {
      unread = λ is_none. e;
      read = λ reader no_read_fault memory. absurd (none reader);
      ends = (0, lit≤ tt, e);
    }

    -- a run that read nothing, for want of memory, leaves all
    pub unread_leaves : (told : Option (List ℕ)) (status : S) → (status ≡ program.read_fault) ⊎ (status ≡ program.out_of_memory) → IfSome told (λ bytes. Leaves program words bytes told status)
    unread_leaves None status e = tt
    unread_leaves (Some bytes) status e = record {
      unread = λ none. refl;
      read = λ is_reader no_read_fault memory. absurd (elim e [ inl f ↦ no_read_fault f | inr f ↦ memory f ]);
      ends = (0, lit≤ tt, refl);
    }

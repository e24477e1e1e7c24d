-- A text is read as a system exactly where it is that system's.
use Rattle.std.proofs.Common.{◌≡◌, ℕ, suc, ◌+◌, Bool, true, false, cond, not, List, [], ◌∷◌, length, Option, Some, None, Result, Ok, Err, refl, sym, ap, ap₂, ◌∙◌, subst, append-nil}
use Rattle.std.specs.List.{AllByRecursion}
use Rattle.system_text.specs.Faults.{Fault, Refusal}
use Rattle.system_text.specs.Lines.{lines_of, is_skipped, first_not_text, TextSystem, Progress, AtPrime, AtOrder, AtSums, read_content, skipped, read_line, refusal_in, text_ends, read_lines, read_text}
use Rattle.system_text.specs.Systems.{IsSystemText}
use Rattle.system_text.specs.Laws.{SystemTextsAreRead}
use Rattle.system_text.proofs.PlainTexts.{HasCharacters, characters_from_none, none_from_characters, plain_from_lines, lines_from_plain}
use Rattle.system_text.proofs.TextLines.{contents_of, of_polynomials, with_polynomials, HasPrime, Completes, content_is_spelled, content_is_read}

module _ (n : ℕ) where
  -- the lines have characters alone, and those that aren't skipped complete what was read
  record AreLinesOf (progress : Progress) (lines : List (List ℕ)) (system : TextSystem) : Type 0 where
    characters : AllByRecursion HasCharacters lines
    completes : Completes n progress (contents_of lines) system

  text_is_complete : (number end : ℕ) (progress : Progress) (system : TextSystem) → text_ends number end progress ≡ Ok system → Completes n progress [] system
  text_is_complete number end AtPrime system e = absurd cc
  text_is_complete number end (AtOrder p) system e = absurd cc
  text_is_complete number end (AtSums earlier) system e =
      let same : system ≡ earlier = cc in
      ([], [], same ∙ ap₂ (of_polynomials earlier) (sym (append-nil earlier.inputs)) (sym (append-nil earlier.nonzero)), refl, refl)

  complete_text_ends : (number end : ℕ) (progress : Progress) (system : TextSystem) → Completes n progress [] system → text_ends number end progress ≡ Ok system
  complete_text_ends number end AtPrime system k = absurd (cc k.3)
  complete_text_ends number end (AtOrder p) system k = absurd (cc k.2)
  complete_text_ends number end (AtSums earlier) system k =
      let inputs : k.0 ≡ [] = k.3 in
      let nonzero : k.1 ≡ [] = k.4 in
      let same : earlier ≡ system = sym (k.2 ∙ ap₂ (with_polynomials earlier) inputs nonzero ∙ ap₂ (of_polynomials earlier) (append-nil earlier.inputs) (append-nil earlier.nonzero)) in
      ap (λ x. Ok x) same

  skipped_is : (line : List ℕ) (progress next : Progress) (o : Option ℕ) → first_not_text 1 line ≡ o → skipped progress o ≡ Ok next → HasCharacters line × (progress ≡ next)
  skipped_is line progress next None d e = (characters_from_none 1 line d, cc)
  skipped_is line progress next (Some i) d e = absurd cc

  -- a line, and the lines after it
  line_before : (b : Bool) (line : List ℕ) (lines : List (List ℕ)) (progress next : Progress) (system : TextSystem) → is_skipped line ≡ b → HasPrime n progress → cond b (skipped progress (first_not_text 1 line)) (read_content n progress line) ≡ Ok next → (HasPrime n next → AreLinesOf next lines system) → AreLinesOf progress (line ∷ lines) system
  line_before true line lines progress next system d h e rest =
      let parts = skipped_is line progress next (first_not_text 1 line) refl e in
      let after = rest (subst (HasPrime n) parts.1 h) in
      record {
        characters = (parts.0, after.characters);
        completes = rw d (subst (λ q. Completes n q (contents_of lines) system) (sym parts.1) after.completes);
      }
  line_before false line lines progress next system d h e rest =
      let first = content_is_spelled n progress line next h e in
      let after = rest first.has_prime in
      record {
        characters = (first.characters, after.characters);
        completes = rw d (first.completes (contents_of lines) system after.completes);
      }

  then_lines : (number end : ℕ) (lines : List (List ℕ)) (a : Result Progress Fault) (system : TextSystem) (P : Type 0) → ((next : Progress) → a ≡ Ok next → read_lines n number end next lines ≡ Ok system → P) → elim a as (λ _. Result TextSystem Refusal) [ Ok next ↦ read_lines n number end next lines | Err e ↦ Err (refusal_in number e) ] ≡ Ok system → P
  then_lines number end lines (Ok next) system P h e = h next refl e
  then_lines number end lines (Err d) system P h e = absurd cc

  lines_are_spelled : (number end : ℕ) (progress : Progress) (lines : List (List ℕ)) (system : TextSystem) → HasPrime n progress → read_lines n number end progress lines ≡ Ok system → AreLinesOf progress lines system
  lines_are_spelled number end progress [] system h e = record { characters = tt; completes = text_is_complete number end progress system e }
  lines_are_spelled number end progress (line ∷ lines) system h e = then_lines (suc number) (length line + 1) lines (read_line n progress line) system (AreLinesOf progress (line ∷ lines) system) (λ next d k. line_before (is_skipped line) line lines progress next system refl h d (λ i. lines_are_spelled (suc number) (length line + 1) next lines system i k)) e

  -- one line is read, and the others complete what comes then
  record IsReadTo (progress : Progress) (line : List ℕ) (lines : List (List ℕ)) (system : TextSystem) : Type 0 where
    next : Progress
    read : read_line n progress line ≡ Ok next
    has_prime : HasPrime n next
    completes : Completes n next (contents_of lines) system

  line_is_read : (b : Bool) (line : List ℕ) (lines : List (List ℕ)) (progress : Progress) (system : TextSystem) → is_skipped line ≡ b → HasCharacters line → HasPrime n progress → Completes n progress (cond (not b) (line ∷ contents_of lines) (contents_of lines)) system → IsReadTo progress line lines system
  line_is_read true line lines progress system d characters h k = record {
    next = progress;
    read = rw (d, none_from_characters 1 line characters) refl;
    has_prime = h;
    completes = k;
  }
  line_is_read false line lines progress system d characters h k =
      let content = content_is_read n progress line (contents_of lines) system h k in
      record {
        next = content.next;
        read = rw d content.read;
        has_prime = content.has_prime;
        completes = content.completes;
      }

  lines_are_read : (number end : ℕ) (progress : Progress) (lines : List (List ℕ)) (system : TextSystem) → HasPrime n progress → AllByRecursion HasCharacters lines → Completes n progress (contents_of lines) system → read_lines n number end progress lines ≡ Ok system
  lines_are_read number end progress [] system h characters k = complete_text_ends number end progress system k
  lines_are_read number end progress (line ∷ lines) system h characters k =
      let first = line_is_read (is_skipped line) line lines progress system refl characters.0 h k in
      ap (λ a. elim a as (λ _. Result TextSystem Refusal) [ Ok next ↦ read_lines n (suc number) (length line + 1) next lines | Err e ↦ Err (refusal_in (suc number) e) ]) first.read
      ∙ lines_are_read (suc number) (length line + 1) first.next lines system first.has_prime characters.1 first.completes

-- the law of what is read of a text
pub system_texts_are_read : SystemTextsAreRead
system_texts_are_read n bytes system = (there, back)
  where
    there : read_text n bytes ≡ Ok system → IsSystemText n bytes system
    there e =
        let h = lines_are_spelled n 0 1 AtPrime (lines_of bytes) system tt e in
        let k = h.completes in
        record { characters = plain_from_lines bytes h.characters; prime_line = k.0; order_line = k.1; further_lines = k.2; lines = k.3; prime = k.4; order = k.5; polynomials = k.6 }

    back : IsSystemText n bytes system → read_text n bytes ≡ Ok system
    back h = lines_are_read n 0 1 AtPrime (lines_of bytes) system tt (lines_from_plain bytes h.characters) (h.prime_line, h.order_line, h.further_lines, h.lines, h.prime, h.order, h.polynomials)

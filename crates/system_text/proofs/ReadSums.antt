-- A line is read as a polynomial exactly where it spells a sum of that value.
use Rattle.std.proofs.Common.{◌≡◌, ℕ, ◌+◌, ◌<◌, true, List, [], ◌∷◌, ◌++◌, length, Option, Some, None, Result, Ok, Err, refl, sym, ap, ◌∙◌, subst, append_assoc, append-nil}
use Rattle.std.proofs.lemmas.Slice.Eq.{bytes_eq-Decides}
use Rattle.std.specs.Prelude.{drop, codes}
use Rattle.polynomials.specs.Polynomials.{Polynomial}
use Rattle.system_text.specs.Tokens.{Token, Placed, Name, tokens, unplaced}
use Rattle.system_text.specs.Faults.{Fault}
use Rattle.system_text.specs.Readings.{Setting, Frame, Mode, Reading, AtSum, AtFactor, AfterBase, AtExponent, AfterFactor, start}
use Rattle.system_text.specs.Factors.{with_factor, with_last}
use Rattle.system_text.specs.Sums.{step, ended_with, ended_bare, ended_in, read_tokens, read_sum}
use Rattle.system_text.specs.Grammar.{Sum, sum_tokens, sum_value, IsSumWithin}
use Rattle.system_text.specs.Lines.{is_nonzero_word, begin_with_nonzero, is_nonzero_line, read_nonzero}
use Rattle.system_text.specs.Systems.{SpellsAfter, SpellsSum, SpellsNonzero, nonzero_word}
use Rattle.system_text.specs.Laws.{SpelledSumsAreRead, SpelledNonzeroLinesAreRead}
use Rattle.system_text.proofs.Places.{read_at_places}
use Rattle.system_text.proofs.TreesAreRead.{tree_is_read}
use Rattle.system_text.proofs.PartialTrees.{Part, outer_tokens, OuterMeans, EndsWithTerm, Means, ReadingMeans, sum_from_term}
use Rattle.system_text.proofs.LaterSteps.{bare_term, step_means}

-- the tokens are those of a tree within the limits whose value is f
pub record AreSumTokens (s : Setting) (xs : List Token) (f : Polynomial) : Type 0 where
  pub tree : Sum
  pub spelled : xs ≡ sum_tokens tree
  pub value : sum_value s tree ≡ Some f
  pub within : IsSumWithin 0 tree

module _ (s : Setting) (many : 1 < s.modulus) where
  no_parts : (parts : List Part) → OuterMeans s parts [] → outer_tokens parts ≡ []
  no_parts [] h = refl
  no_parts (part ∷ parts) h = absurd h

  -- a term that ends outside of parentheses ends the whole sum
  term_ends : (xs : List Token) (outer : List Frame) (frame : Frame) (end : ℕ) (f g : Polynomial) → EndsWithTerm s xs outer frame f → ended_with s outer frame end f ≡ Ok g → AreSumTokens s xs g
  term_ends xs [] frame end f g h e =
      let whole = sum_from_term s many xs [] frame f h in
      let same : with_last s.modulus frame f ≡ g = cc in
      record {
        tree = whole.tree;
        spelled = whole.spelled ∙ ap (λ ys. ys ++ sum_tokens whole.tree) (no_parts whole.parts whole.outer_means);
        value = whole.value ∙ ap (λ x. Some x) same;
        within = whole.within;
      }
  term_ends xs (around ∷ outer) frame end f g h e = absurd cc

  bare_ends : (xs : List Token) (outer : List Frame) (frame : Frame) (last end : ℕ) (o : Option Polynomial) (g : Polynomial) → ((f : Polynomial) → o ≡ Some f → EndsWithTerm s xs outer frame f) → ended_bare s outer frame last end o ≡ Ok g → AreSumTokens s xs g
  bare_ends xs outer frame last end None g h e = absurd cc
  bare_ends xs outer frame last end (Some f) g h e = term_ends xs outer frame end f g (h f refl) e

  reading_ends : (xs : List Token) (outer : List Frame) (frame : Frame) (end : ℕ) (m : Mode) (g : Polynomial) → Means s xs outer frame m → ended_in s outer frame end m ≡ Ok g → AreSumTokens s xs g
  reading_ends xs outer frame end AtSum g h e = absurd cc
  reading_ends xs outer frame end AtFactor g h e = absurd cc
  reading_ends xs outer frame end (AfterBase f last most) g h e = bare_ends xs outer frame last end (with_factor s.modulus frame.product f) g (λ k product. bare_term s many xs outer frame f k most h product) e
  reading_ends xs outer frame end (AtExponent f most) g h e = absurd cc
  reading_ends xs outer frame end (AfterFactor f) g h e = term_ends xs outer frame end f g h e

  rest_is_spelled : (end : ℕ) (ts : List Placed) (a : Result Reading Fault) (ys : List Token) (f : Polynomial) → ((next : Reading) → a ≡ Ok next → read_tokens s end ts next ≡ Ok f → AreSumTokens s ys f) → elim a as (λ _. Result Polynomial Fault) [ Ok next ↦ read_tokens s end ts next | Err e ↦ Err e ] ≡ Ok f → AreSumTokens s ys f
  rest_is_spelled end ts (Ok next) ys f h e = h next refl e
  rest_is_spelled end ts (Err d) ys f h e = absurd cc

  -- what is read after these tokens is spelled with them
  tokens_are_spelled : (end : ℕ) (ts : List Placed) (xs : List Token) (r : Reading) (f : Polynomial) → ReadingMeans s xs r → read_tokens s end ts r ≡ Ok f → AreSumTokens s (xs ++ unplaced ts) f
  tokens_are_spelled end [] xs r f h e = subst (λ ys. AreSumTokens s ys f) (sym (append-nil xs)) (reading_ends xs r.outer r.frame end r.mode f h e)
  tokens_are_spelled end (t ∷ ts) xs r f h e = rest_is_spelled end ts (step s t r) (xs ++ unplaced (t ∷ ts)) f (λ next d k. subst (λ ys. AreSumTokens s ys f) (append_assoc xs (t.token ∷ []) (unplaced ts)) (tokens_are_spelled end ts (xs ++ t.token ∷ []) next f (step_means s many xs r next t h d) k)) e

  -- what is read is spelled
  pub spelled_from_read : (end : ℕ) (ts : List Placed) (f : Polynomial) → read_tokens s end ts start ≡ Ok f → AreSumTokens s (unplaced ts) f
  spelled_from_read end ts f e = tokens_are_spelled end ts [] start f (record { parts = []; spelled = refl; outer_means = tt; empty = refl }) e

  -- what is spelled is read
  pub read_from_spelled : (end : ℕ) (ts : List Placed) (f : Polynomial) → AreSumTokens s (unplaced ts) f → read_tokens s end ts start ≡ Ok f
  read_from_spelled end ts f h = read_at_places s end ts start f (rw h.spelled (tree_is_read s many h.tree f h.value h.within))

  -- a line whose tokens after the first few are read spells a sum after these
  pub spelled_after : (end : ℕ) (first : List Token) (line : List ℕ) (ts : List Placed) (f : Polynomial) → unplaced (tokens line) ≡ first ++ unplaced ts → read_tokens s end ts start ≡ Ok f → SpellsAfter first s line f
  spelled_after end first line ts f whole e =
      let h = spelled_from_read end ts f e in
      record { tree = h.tree; spelled = whole ∙ ap (λ xs. first ++ xs) h.spelled; value = h.value; within = h.within }

-- the law of what is read of a line
pub spelled_sums_are_read : SpelledSumsAreRead
spelled_sums_are_read s line f many = (there, back)
  where
    there : read_sum s line ≡ Ok f → SpellsSum s line f
    there e = spelled_after s many (length line + 1) [] line (tokens line) f refl e

    back : SpellsSum s line f → read_sum s line ≡ Ok f
    back h = read_from_spelled s many (length line + 1) (tokens line) f (record { tree = h.tree; spelled = h.spelled; value = h.value; within = h.within })

-- the word first, and then the other tokens
word_first_is : (ts : List Placed) → begin_with_nonzero (unplaced ts) ≡ true → unplaced ts ≡ nonzero_word ++ unplaced (drop 1 ts)
word_first_is [] e = absurd cc
word_first_is (t ∷ ts) e = by_token t.token refl e
  where
    by_token : (x : Token) → t.token ≡ x → is_nonzero_word x ≡ true → unplaced (t ∷ ts) ≡ nonzero_word ++ unplaced ts
    by_token (Name x) d k =
        let same : x ≡ codes "nonzero" = (bytes_eq-Decides x (codes "nonzero")).0 k in
        ap (λ y. y ∷ unplaced ts) (d ∙ ap (λ y. Name y) same)
    by_token Token.Plus d k = absurd cc
    by_token _ d k = absurd cc

after_first : (ts : List Placed) (x : Token) (xs : List Token) → unplaced ts ≡ x ∷ xs → unplaced (drop 1 ts) ≡ xs
after_first [] x xs e = absurd cc
after_first (t ∷ ts) x xs e = cc

-- the law of what is read of a nonzero line
pub spelled_nonzero_lines_are_read : SpelledNonzeroLinesAreRead
spelled_nonzero_lines_are_read s line f many = (there, back)
  where
    there : (is_nonzero_line line ≡ true) × (read_nonzero s line ≡ Ok f) → SpellsNonzero s line f
    there h = spelled_after s many (length line + 1) nonzero_word line (drop 1 (tokens line)) f (word_first_is (tokens line) h.0) h.1

    back : SpellsNonzero s line f → (is_nonzero_line line ≡ true) × (read_nonzero s line ≡ Ok f)
    back h = (
      ap begin_with_nonzero h.spelled ∙ (bytes_eq-Decides (codes "nonzero") (codes "nonzero")).1 refl,
      read_from_spelled s many (length line + 1) (drop 1 (tokens line)) f (record { tree = h.tree; spelled = after_first (tokens line) (Name (codes "nonzero")) (sum_tokens h.tree) h.spelled; value = h.value; within = h.within }),
    )

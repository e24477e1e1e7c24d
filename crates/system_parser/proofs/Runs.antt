-- Runs of bytes that are one token, and spaces.
use Rattle.std.proofs.Common.{◌≡◌, ◌≢◌, ℕ, suc, ◌+◌, ◌-◌, ◌<◌, Bool, true, false, cond, eqb, ◌||◌, List, [], ◌∷◌, ◌++◌, length, take, drop, get_or, Some, None, refl, sym, ap, ap₂, ◌∙◌, append-nil, append_assoc, arith, length-drop, get_or-drop, add-zero}
use Rattle.std.specs.List.{prefix_len}
use Rattle.std.proofs.lemmas.Bool.{ne_eqb, eqb-false}
use Rattle.std.proofs.lemmas.List.Sums.{prefix_len_stops}
use Rattle.std.proofs.lemmas.List.Folds.{length-prefix_len}
use Rattle.system_text.specs.Characters.{is_letter, is_digit, is_name_character}
use Rattle.system_text.specs.Tokens.{Token, Name, Number, Placed, Run, tokens_from, Opening, closed, extended, opened, nothing, begun, single, sign_or_stray}
use Rattle.system_parser.specs.Tokens.{BeginWith, token_length}

-- the token of a run with some bytes more, and what is left
abbrev run_token : ℕ → Run → ℕ → List ℕ → List Placed
run_token i r k bs = closed (i + k) (record r { bytes = r.bytes ++ take k bs }) ∷ tokens_from (i + k) None (drop k bs)

-- one byte more of it
run_step : (i k : ℕ) (r : Run) (b : ℕ) (bs : List ℕ) → run_token (suc i) (extended r b) k bs ≡ run_token i r (1 + k) (b ∷ bs)
run_step i k r b bs =
    let same : i + (1 + k) ≡ suc i + k = omega arith in
    let more : 1 + k ≡ suc k = omega arith in
    rw (same, more, append_assoc r.bytes (b ∷ []) (take k bs)) refl

run_by_test : (i : ℕ) (r : Run) (b : ℕ) (bs : List ℕ) (t : Bool) → r.goes_on b ≡ t → tokens_from (suc i) (Some (extended r b)) bs ≡ run_token (suc i) (extended r b) (prefix_len r.goes_on bs) bs → tokens_from i (Some r) (b ∷ bs) ≡ run_token i r (prefix_len r.goes_on (b ∷ bs)) (b ∷ bs)
run_by_test i r b bs true e later = rw e (later ∙ run_step i (prefix_len r.goes_on bs) r b bs)
run_by_test i r b bs false e later = rw (e, add-zero, append-nil) refl

-- a run ends where bytes end to pass
tokens_from-run : (i : ℕ) (r : Run) (bs : List ℕ) → tokens_from i (Some r) bs ≡ run_token i r (prefix_len r.goes_on bs) bs
tokens_from-run i r [] = rw (add-zero, append-nil) refl
tokens_from-run i r (b ∷ bs) = run_by_test i r b bs (r.goes_on b) refl (tokens_from-run (suc i) (extended r b) bs)

-- as many bytes as pass are taken
taken_length : (p : ℕ → Bool) (k : ℕ) (bs : List ℕ) → k ≡ prefix_len p bs → length (take k bs) ≡ k
taken_length p k bs e = ap (λ n. length (take n bs)) e ∙ (length-prefix_len p bs ∙ sym e)

-- how many spaces the bytes begin with
abbrev spaces : List ℕ → ℕ
spaces bs = prefix_len (λ b. eqb b 32) bs

no_space : (i k : ℕ) (bs : List ℕ) → k ≡ 0 → tokens_from i None bs ≡ tokens_from (i + k) None (drop k bs)
no_space i k bs e =
    let same : i ≡ i + k = omega arith in
    ap₂ (λ j l. tokens_from j None l) same (ap (λ n. drop n bs) (sym e))

spaces_by_test : (i : ℕ) (b : ℕ) (bs : List ℕ) (t : Bool) → eqb b 32 ≡ t → tokens_from (suc i) None bs ≡ tokens_from (suc i + spaces bs) None (drop (spaces bs) bs) → tokens_from i None (b ∷ bs) ≡ tokens_from (i + spaces (b ∷ bs)) None (drop (spaces (b ∷ bs)) (b ∷ bs))
spaces_by_test i b bs true e later =
    let same : i + (1 + spaces bs) ≡ suc i + spaces bs = omega arith in
    let more : 1 + spaces bs ≡ suc (spaces bs) = omega arith in
    rw (e, same, more) later
spaces_by_test i b bs false e later = no_space i (spaces (b ∷ bs)) (b ∷ bs) (ap (λ t. cond t (1 + spaces bs) 0) e)

-- spaces make no token
pub tokens_from-spaces : (i : ℕ) (bs : List ℕ) → tokens_from i None bs ≡ tokens_from (i + spaces bs) None (drop (spaces bs) bs)
tokens_from-spaces i [] = refl
tokens_from-spaces i (b ∷ bs) = spaces_by_test i b bs (eqb b 32) refl (tokens_from-spaces (suc i) bs)

-- a run that begins with b
abbrev run_from : (List ℕ → Token) → (ℕ → Bool) → ℕ → ℕ → Run
run_from make goes_on i b = record { make = make; goes_on = goes_on; first = i; bytes = b ∷ [] }

-- the token of a run that begins
begun_token : (make : List ℕ → Token) (goes_on : ℕ → Bool) (i b k : ℕ) (bs : List ℕ) → k ≡ prefix_len goes_on (b ∷ bs) → goes_on b ≡ true → tokens_from (suc i) (Some (run_from make goes_on i b)) bs ≡ record { token = make (take k (b ∷ bs)); first = i; last = i + k - 1 } ∷ tokens_from (i + k) None (drop k (b ∷ bs))
begun_token make goes_on i b k bs e passes =
    let n = prefix_len goes_on bs in
    let counted : k ≡ suc n = e ∙ ap (λ t. cond t (1 + n) 0) passes ∙ one_more n in
    let same : i + suc n ≡ suc i + n = omega arith in
    rw (counted, same) (tokens_from-run (suc i) (run_from make goes_on i b) bs)
  where
    one_more : (n : ℕ) → 1 + n ≡ suc n
    one_more n = omega arith

-- what a letter opens
opened-letter : (i b : ℕ) → b ≢ 32 → is_letter b ≡ true → opened i b ≡ begun Name is_name_character i b
opened-letter i b other letter =
    ap (λ t. cond t nothing (cond (is_letter b) (begun Name is_name_character i b) (cond (eqb b 48) (single i (Number (48 ∷ []))) (cond (is_digit b) (begun Number is_digit i b) (single i (sign_or_stray b)))))) (ne_eqb b 32 other)
    ∙ ap (λ t. cond t (begun Name is_name_character i b) (cond (eqb b 48) (single i (Number (48 ∷ []))) (cond (is_digit b) (begun Number is_digit i b) (single i (sign_or_stray b))))) letter

-- what a digit other than 0 opens
opened-digit : (i b : ℕ) → b ≢ 32 → is_letter b ≡ false → b ≢ 48 → is_digit b ≡ true → opened i b ≡ begun Number is_digit i b
opened-digit i b other letter nonzero digit =
    ap (λ t. cond t nothing (cond (is_letter b) (begun Name is_name_character i b) (cond (eqb b 48) (single i (Number (48 ∷ []))) (cond (is_digit b) (begun Number is_digit i b) (single i (sign_or_stray b)))))) (ne_eqb b 32 other)
    ∙ ap (λ t. cond t (begun Name is_name_character i b) (cond (eqb b 48) (single i (Number (48 ∷ []))) (cond (is_digit b) (begun Number is_digit i b) (single i (sign_or_stray b))))) letter
    ∙ ap (λ t. cond t (single i (Number (48 ∷ []))) (cond (is_digit b) (begun Number is_digit i b) (single i (sign_or_stray b)))) (ne_eqb b 48 nonzero)
    ∙ ap (λ t. cond t (begun Number is_digit i b) (single i (sign_or_stray b))) digit

-- what an opening makes of the bytes after it
abbrev opened_tokens : ℕ → Opening → List ℕ → List Placed
opened_tokens i o bs = o.tokens ++ tokens_from (suc i) o.run bs

-- the same, counted by the token's length
by_length : (i n k : ℕ) (t : Token) (bs : List ℕ) → n ≡ k → record { token = t; first = i; last = i + k - 1 } ∷ tokens_from (i + k) None (drop k bs) ≡ record { token = t; first = i; last = i + n - 1 } ∷ tokens_from (i + n) None (drop n bs)
by_length i n k t bs e = ap (λ m. record { token = t; first = i; last = i + m - 1 } ∷ tokens_from (i + m) None (drop m bs)) (sym e)

-- bytes that begin with a letter begin with a name
pub begin_with_name : (k : ℕ) (bytes : List ℕ) → k ≡ prefix_len is_name_character bytes → 0 < length bytes → get_or bytes 0 0 ≢ 32 → is_letter (get_or bytes 0 0) ≡ true → BeginWith bytes (Name (take k bytes))
begin_with_name k [] e some other letter = absurd (omega arith)
begin_with_name k (b ∷ bs) e some other letter = λ i.
    ap (λ o. opened_tokens i o bs) (opened-letter i b other letter)
    ∙ begun_token Name is_name_character i b k bs e (ap (λ t. t || (is_digit b || eqb b 95)) letter)
    ∙ by_length i (length (take k (b ∷ bs))) k (Name (take k (b ∷ bs))) (b ∷ bs) (taken_length is_name_character k (b ∷ bs) e)

-- bytes that begin with a digit other than 0 begin with a number
pub begin_with_number : (k : ℕ) (bytes : List ℕ) → k ≡ prefix_len is_digit bytes → 0 < length bytes → get_or bytes 0 0 ≢ 32 → is_letter (get_or bytes 0 0) ≡ false → get_or bytes 0 0 ≢ 48 → is_digit (get_or bytes 0 0) ≡ true → BeginWith bytes (Number (take k bytes))
begin_with_number k [] e some other letter nonzero digit = absurd (omega arith)
begin_with_number k (b ∷ bs) e some other letter nonzero digit = λ i.
    ap (λ o. opened_tokens i o bs) (opened-digit i b other letter nonzero digit)
    ∙ begun_token Number is_digit i b k bs e digit
    ∙ by_length i (length (take k (b ∷ bs))) k (Number (take k (b ∷ bs))) (b ∷ bs) (taken_length is_digit k (b ∷ bs) e)

-- after spaces nothing is left
pub no_token_left : (i k : ℕ) (bs : List ℕ) → k ≡ spaces bs → length (drop k bs) ≡ 0 → tokens_from i None bs ≡ []
no_token_left i k bs e none = tokens_from-spaces i bs ∙ nothing_left (i + spaces bs) (drop (spaces bs) bs) (ap (λ n. length (drop n bs)) (sym e) ∙ none)
  where
    nothing_left : (i : ℕ) (bs : List ℕ) → length bs ≡ 0 → tokens_from i None bs ≡ []
    nothing_left i [] e = refl
    nothing_left i (b ∷ bs) e = absurd (omega arith)

-- what stands after the spaces is no space
pub no_space_left : (k : ℕ) (bs rest : List ℕ) → k ≡ spaces bs → rest ≡ drop k bs → length rest ≢ 0 → get_or rest 0 0 ≢ 32
no_space_left k bs rest e after some space =
    let long : length rest ≡ length bs - k = ap length after ∙ length-drop k bs in
    let counted : spaces bs < length bs = omega arith in
    let place : spaces bs ≡ k + 0 = omega arith in
    let stopped : eqb (get_or bs (spaces bs) 0) 32 ≡ false = prefix_len_stops (λ b. eqb b 32) bs 0 counted in
    eqb-false (get_or bs (spaces bs) 0) 32 stopped (ap (λ n. get_or bs n 0) place ∙ (sym (get_or-drop k bs 0 0) ∙ (ap (λ l. get_or l 0 0) (sym after) ∙ space)))

-- the first token stands after the spaces
pub first_token : (i k n : ℕ) (bs rest : List ℕ) (t : Token) → k ≡ spaces bs → rest ≡ drop k bs → n ≡ token_length t → BeginWith rest t → tokens_from i None bs ≡ record { token = t; first = i + k; last = i + k + n - 1 } ∷ tokens_from (i + k + n) None (drop n rest)
first_token i k n bs rest t e after counted begins =
    tokens_from-spaces i bs
    ∙ (ap (λ m. tokens_from (i + m) None (drop m bs)) (sym e)
    ∙ (ap (tokens_from (i + k) None) (sym after)
    ∙ (begins (i + k)
    ∙ ap (λ m. record { token = t; first = i + k; last = i + k + m - 1 } ∷ tokens_from (i + k + m) None (drop m rest)) (sym counted))))

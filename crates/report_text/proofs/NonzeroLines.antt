-- A sum behind the word `nonzero` is a nonzero line, since tokens don't depend on their places.
use Rattle.std.proofs.Common.{◌≡◌, ℕ, suc, Bool, true, false, cond, eqb, List, [], ◌∷◌, ◌++◌, Option, Some, None, refl, sym, ap, ap₂, ◌∙◌, append_assoc}
use Rattle.std.proofs.lemmas.List.{map-append}
use Rattle.std.specs.Prelude.{codes}
use Rattle.polynomials.specs.Polynomials.{Polynomial}
use Rattle.system_text.specs.Characters.{is_letter, is_digit, is_name_character}
use Rattle.system_text.specs.Tokens.{Run, Opening, Name, Number, nothing, single, begun, sign_or_stray, opened, extended, tokens_from, unplaced}
use Rattle.system_text.specs.Readings.{Setting}
use Rattle.system_text.specs.Systems.{SpellsSum, SpellsNonzero}
use Rattle.report_text.specs.Polynomials.{poly_text}
use Rattle.report_text.specs.Laws.{SpellsOver, SpellsNonzeroOver, PrintedNonzeroLinesAreSpelled}
use Rattle.report_text.proofs.Spelling.{printed_polynomials_are_spelled}

-- the run without its place
abbrev run_at : ℕ → Option Run → Option Run
run_at i None = None
run_at i (Some r) = Some (record r { first = i })

-- an opening without its places
record IsSame (o q : Opening) : Type 0 where
  tokens : unplaced o.tokens ≡ unplaced q.tokens
  run : run_at 0 o.run ≡ run_at 0 q.run

opened_same : (i j b : ℕ) → IsSame (opened i b) (opened j b)
opened_same i j b = by_tests (eqb b 32) (is_letter b) (eqb b 48) (is_digit b)
  where
    opened_by : Bool → Bool → Bool → Bool → ℕ → Opening
    opened_by space letter zero digit i = cond space nothing (cond letter (begun Name is_name_character i b) (cond zero (single i (Number (48 ∷ []))) (cond digit (begun Number is_digit i b) (single i (sign_or_stray b)))))

    by_tests : (space letter zero digit : Bool) → IsSame (opened_by space letter zero digit i) (opened_by space letter zero digit j)
    by_tests true letter zero digit = record { tokens = refl; run = refl }
    by_tests false true zero digit = record { tokens = refl; run = refl }
    by_tests false false true digit = record { tokens = refl; run = refl }
    by_tests false false false true = record { tokens = refl; run = refl }
    by_tests false false false false = record { tokens = refl; run = refl }

-- one byte of a run, after the bytes that go on with it
run_by_test : (i : ℕ) (r : Run) (b : ℕ) (bs : List ℕ) (t : Bool) → r.goes_on b ≡ t → unplaced (tokens_from (suc i) (Some (extended r b)) bs) ≡ unplaced (tokens_from (suc i) (run_at 0 (Some (extended r b))) bs) → unplaced (tokens_from i (Some r) (b ∷ bs)) ≡ unplaced (tokens_from i (run_at 0 (Some r)) (b ∷ bs))
run_by_test i r b bs true e later = rw e later
run_by_test i r b bs false e later = rw e refl

-- the tokens of a run don't depend on the place at which it began
tokens_of_run : (i : ℕ) (r : Option Run) (bs : List ℕ) → unplaced (tokens_from i r bs) ≡ unplaced (tokens_from i (run_at 0 r) bs)
tokens_of_run i None bs = refl
tokens_of_run i (Some r) [] = refl
tokens_of_run i (Some r) (b ∷ bs) = run_by_test i r b bs (r.goes_on b) refl (tokens_of_run (suc i) (Some (extended r b)) bs)

-- the tokens of the bytes after an opening
opened_tokens_same : (i j b : ℕ) (bs : List ℕ) → ((r : Option Run) → unplaced (tokens_from (suc i) r bs) ≡ unplaced (tokens_from (suc j) r bs)) → unplaced ((opened i b).tokens ++ tokens_from (suc i) (opened i b).run bs) ≡ unplaced ((opened j b).tokens ++ tokens_from (suc j) (opened j b).run bs)
opened_tokens_same i j b bs later =
    let same = opened_same i j b in
    map-append (λ t. t.token) (opened i b).tokens (tokens_from (suc i) (opened i b).run bs)
    ∙ ap₂ ◌++◌ same.tokens
    (later (opened i b).run
    ∙ tokens_of_run (suc j) (opened i b).run bs
    ∙ ap (λ r. unplaced (tokens_from (suc j) r bs)) same.run
    ∙ sym (tokens_of_run (suc j) (opened j b).run bs))
    ∙ sym (map-append (λ t. t.token) (opened j b).tokens (tokens_from (suc j) (opened j b).run bs))

place_by_test : (i j : ℕ) (r : Run) (b : ℕ) (bs : List ℕ) (t : Bool) → r.goes_on b ≡ t → ((q : Option Run) → unplaced (tokens_from (suc i) q bs) ≡ unplaced (tokens_from (suc j) q bs)) → unplaced (tokens_from i (Some r) (b ∷ bs)) ≡ unplaced (tokens_from j (Some r) (b ∷ bs))
place_by_test i j r b bs true e later = rw e (later (Some (extended r b)))
place_by_test i j r b bs false e later = rw e (ap (λ ts. r.make r.bytes ∷ ts) (opened_tokens_same i j b bs later))

-- nor on the place at which they are read
pub tokens_same : (bs : List ℕ) (i j : ℕ) (r : Option Run) → unplaced (tokens_from i r bs) ≡ unplaced (tokens_from j r bs)
tokens_same [] i j None = refl
tokens_same [] i j (Some r) = refl
tokens_same (b ∷ bs) i j None = opened_tokens_same i j b bs (tokens_same bs (suc i) (suc j))
tokens_same (b ∷ bs) i j (Some r) = place_by_test i j r b bs (r.goes_on b) refl (tokens_same bs (suc i) (suc j))

-- a sum behind the word
pub nonzero_from_sum : (s : Setting) (text : List ℕ) (f : Polynomial) → SpellsSum s text f → SpellsNonzero s (codes "nonzero " ++ text) f
nonzero_from_sum s text f h = record {
  tree = h.tree;
  spelled = ap (λ ts. Name (codes "nonzero") ∷ ts) (tokens_same text 9 1 None ∙ h.spelled);
  value = h.value;
  within = h.within;
}

-- the law of printed lines
pub printed_nonzero_lines_are_spelled : PrintedNonzeroLinesAreSpelled
printed_nonzero_lines_are_spelled s f h = nonzero_from_sum s (poly_text s.names f) f (printed_polynomials_are_spelled s f h)

-- over each field
pub nonzero_over : (n : ℕ) (names : List (List ℕ)) (f : Polynomial) (poly text : List ℕ) → SpellsOver n names f poly → text ≡ codes "nonzero " ++ (poly ++ codes "\n") → SpellsNonzeroOver n names f text
nonzero_over n names f poly text spells e = record {
  line = codes "nonzero " ++ poly;
  ended = e ∙ sym (append_assoc (codes "nonzero ") poly (codes "\n"));
  spells = λ p many lawful canonical. nonzero_from_sum (record { modulus = p; variables = n; names = names }) poly f (spells p many lawful canonical);
}

-- What the tokens of a line tell of its bytes.
use Rattle.std.proofs.Common.{◌≡◌, ◌⊎◌, ℕ, suc, Bool, true, false, cond, eqb, List, [], ◌∷◌, ◌++◌, Option, Some, None, refl, sym, subst, inl, inr}
use Rattle.std.proofs.lemmas.Bool.{cond_both}
use Rattle.std.proofs.lemmas.List.{map-append}
use Rattle.std.specs.List.{AllByRecursion}
use Rattle.system_text.specs.Characters.{is_character, is_letter, is_digit, is_name_character, is_name}
use Rattle.system_text.specs.Tokens.{Token, Placed, Run, Opening, Name, Number, Plus, Minus, Times, Power, Open, Close, Stray, NotText, nothing, single, begun, sign_or_stray, opened, closed, extended, tokens_from, tokens, unplaced}
use Rattle.system_text.proofs.CharacterLemmas.{letter_is_character, digit_is_character, byte_is_character, name_character_is_character, is_name-push, is_name-letter, IsFull, IsFull-push, IsFull-digit}

-- names are names, and numbers don't begin with 0
abbrev pub IsWellSpelled : Token → Type 0
IsWellSpelled (Name x) = is_name x ≡ true
IsWellSpelled (Number digits) = (digits ≡ 48 ∷ []) ⊎ IsFull digits
IsWellSpelled _ = Unit {0}

-- a token of characters
abbrev pub IsText : Token → Type 0
IsText NotText = ⊥
IsText _ = Unit {0}

pub AllByRecursion-append : {A : Type 0} (P : A → Type 0) (xs ys : List A) → AllByRecursion P xs → AllByRecursion P ys → AllByRecursion P (xs ++ ys)
AllByRecursion-append P [] ys h i = i
AllByRecursion-append P (x ∷ xs) ys h i = (h.0, AllByRecursion-append P xs ys h.1 i)

pub AllByRecursion-parts : {A : Type 0} (P : A → Type 0) (xs ys : List A) → AllByRecursion P (xs ++ ys) → AllByRecursion P xs × AllByRecursion P ys
AllByRecursion-parts P [] ys h = (tt, h)
AllByRecursion-parts P (x ∷ xs) ys h =
    let parts = AllByRecursion-parts P xs ys h.1 in
    ((h.0, parts.0), parts.1)

unplaced-append : (ts us : List Placed) → unplaced (ts ++ us) ≡ unplaced ts ++ unplaced us
unplaced-append ts us = map-append (λ t. t.token) ts us

-- a run of a name, or of a number that doesn't begin with 0
abbrev IsSound : Run → Type 0
IsSound r = ((r.make ≡ Name) × (r.goes_on ≡ is_name_character) × (is_name r.bytes ≡ true)) ⊎ ((r.make ≡ Number) × (r.goes_on ≡ is_digit) × IsFull r.bytes)

abbrev IsSoundIfAny : Option Run → Type 0
IsSoundIfAny None = Unit {0}
IsSoundIfAny (Some r) = IsSound r

sound_token : (r : Run) → IsSound r → IsWellSpelled (r.make r.bytes)
sound_token r (inl h) = subst (λ make. IsWellSpelled (make r.bytes)) (sym h.0) h.2
sound_token r (inr h) = subst (λ make. IsWellSpelled (make r.bytes)) (sym h.0) (inr h.2)

sound_extended : (r : Run) (b : ℕ) → IsSound r → r.goes_on b ≡ true → IsSound (extended r b)
sound_extended r b (inl h) e = inl (h.0, h.1, is_name-push r.bytes b (subst (λ goes_on. goes_on b ≡ true) h.1 e) h.2)
sound_extended r b (inr h) e = inr (h.0, h.1, IsFull-push r.bytes b h.2)

sound_character : (r : Run) (b : ℕ) → IsSound r → r.goes_on b ≡ true → is_character b ≡ true
sound_character r b (inl h) e = name_character_is_character b (subst (λ goes_on. goes_on b ≡ true) h.1 e)
sound_character r b (inr h) e = digit_is_character b (subst (λ goes_on. goes_on b ≡ true) h.1 e)

-- what is known of what a byte begins
record IsSoundOpening (b : ℕ) (o : Opening) : Type 0 where
  tokens : AllByRecursion IsWellSpelled (unplaced o.tokens)
  run : IsSoundIfAny o.run
  character : AllByRecursion IsText (unplaced o.tokens) → is_character b ≡ true

sign_is_well_spelled : (b : ℕ) → IsWellSpelled (sign_or_stray b)
sign_is_well_spelled b =
    otherwise (eqb b 43) Plus _ tt (otherwise (eqb b 45) Minus _ tt (otherwise (eqb b 42) Times _ tt (otherwise (eqb b 94) Power _ tt (otherwise (eqb b 40) Open _ tt (otherwise (eqb b 41) Close _ tt (otherwise (is_character b) Stray NotText tt tt))))))
  where
    otherwise : (c : Bool) (x y : Token) → IsWellSpelled x → IsWellSpelled y → IsWellSpelled (cond c x y)
    otherwise true x y h i = h
    otherwise false x y h i = i

sign_is_character : (b : ℕ) → IsText (sign_or_stray b) → is_character b ≡ true
sign_is_character b =
    otherwise (eqb b 43) Plus _ (byte_is_character 43 b refl) (otherwise (eqb b 45) Minus _ (byte_is_character 45 b refl) (otherwise (eqb b 42) Times _ (byte_is_character 42 b refl) (otherwise (eqb b 94) Power _ (byte_is_character 94 b refl) (otherwise (eqb b 40) Open _ (byte_is_character 40 b refl) (otherwise (eqb b 41) Close _ (byte_is_character 41 b refl) (otherwise (is_character b) Stray NotText (λ e. e) (λ h. absurd h)))))))
  where
    otherwise : (c : Bool) (x y : Token) → (c ≡ true → is_character b ≡ true) → (IsText y → is_character b ≡ true) → IsText (cond c x y) → is_character b ≡ true
    otherwise true x y h i j = h refl
    otherwise false x y h i j = i j

sound_opening : (i b : ℕ) → IsSoundOpening b (opened i b)
sound_opening i b =
    cond_both (eqb b 32) nothing _ (IsSoundOpening b) (λ e. record { tokens = tt; run = tt; character = λ h. byte_is_character 32 b refl e })
    (λ space. cond_both (is_letter b) (begun Name is_name_character i b) _ (IsSoundOpening b) (λ e. record { tokens = tt; run = inl (refl, refl, is_name-letter b e); character = λ h. letter_is_character b e })
    (λ letter. cond_both (eqb b 48) (single i (Number (48 ∷ []))) _ (IsSoundOpening b) (λ e. record { tokens = (inl refl, tt); run = tt; character = λ h. byte_is_character 48 b refl e })
    (λ nonzero. cond_both (is_digit b) (begun Number is_digit i b) (single i (sign_or_stray b)) (IsSoundOpening b) (λ e. record { tokens = tt; run = inr (refl, refl, IsFull-digit b e nonzero); character = λ h. digit_is_character b e })
    (λ digit. record { tokens = (sign_is_well_spelled b, tt); run = tt; character = λ h. sign_is_character b h.0 }))))

-- each token of a line is well spelled
tokens_well_spelled : (i : ℕ) (run : Option Run) (bs : List ℕ) → IsSoundIfAny run → AllByRecursion IsWellSpelled (unplaced (tokens_from i run bs))
tokens_well_spelled i None [] h = tt
tokens_well_spelled i (Some r) [] h = (sound_token r h, tt)
tokens_well_spelled i None (b ∷ bs) h =
    let o = sound_opening i b in
    subst (AllByRecursion IsWellSpelled) (sym (unplaced-append (opened i b).tokens (tokens_from (suc i) (opened i b).run bs))) (AllByRecursion-append IsWellSpelled (unplaced (opened i b).tokens) _ o.tokens (tokens_well_spelled (suc i) (opened i b).run bs o.run))
tokens_well_spelled i (Some r) (b ∷ bs) h =
    let o = sound_opening i b in
    cond_both (r.goes_on b) (tokens_from (suc i) (Some (extended r b)) bs) (closed i r ∷ ((opened i b).tokens ++ tokens_from (suc i) (opened i b).run bs)) (λ ts. AllByRecursion IsWellSpelled (unplaced ts))
    (λ e. tokens_well_spelled (suc i) (Some (extended r b)) bs (sound_extended r b h e))
    (λ e. (sound_token r h, subst (AllByRecursion IsWellSpelled) (sym (unplaced-append (opened i b).tokens (tokens_from (suc i) (opened i b).run bs))) (AllByRecursion-append IsWellSpelled (unplaced (opened i b).tokens) _ o.tokens (tokens_well_spelled (suc i) (opened i b).run bs o.run))))

-- a line of text tokens has characters alone
bytes_are_characters : (i : ℕ) (run : Option Run) (bs : List ℕ) → IsSoundIfAny run → AllByRecursion IsText (unplaced (tokens_from i run bs)) → AllByRecursion (λ b. is_character b ≡ true) bs
bytes_are_characters i None [] h t = tt
bytes_are_characters i (Some r) [] h t = tt
bytes_are_characters i None (b ∷ bs) h t =
    let o = sound_opening i b in
    let parts = AllByRecursion-parts IsText (unplaced (opened i b).tokens) (unplaced (tokens_from (suc i) (opened i b).run bs)) (subst (AllByRecursion IsText) (unplaced-append (opened i b).tokens (tokens_from (suc i) (opened i b).run bs)) t) in
    (o.character parts.0, bytes_are_characters (suc i) (opened i b).run bs o.run parts.1)
bytes_are_characters i (Some r) (b ∷ bs) h t =
    let o = sound_opening i b in
    cond_both (r.goes_on b) (tokens_from (suc i) (Some (extended r b)) bs) (closed i r ∷ ((opened i b).tokens ++ tokens_from (suc i) (opened i b).run bs)) (λ ts. AllByRecursion IsText (unplaced ts) → AllByRecursion (λ b. is_character b ≡ true) (b ∷ bs))
    (λ e k. (sound_character r b h e, bytes_are_characters (suc i) (Some (extended r b)) bs (sound_extended r b h e) k))
    (λ e k.
    let parts = AllByRecursion-parts IsText (unplaced (opened i b).tokens) (unplaced (tokens_from (suc i) (opened i b).run bs)) (subst (AllByRecursion IsText) (unplaced-append (opened i b).tokens (tokens_from (suc i) (opened i b).run bs)) k.1) in
    (o.character parts.0, bytes_are_characters (suc i) (opened i b).run bs o.run parts.1))
    t

-- each token of a line is well spelled
pub line_is_well_spelled : (line : List ℕ) → AllByRecursion IsWellSpelled (unplaced (tokens line))
line_is_well_spelled line = tokens_well_spelled 1 None line tt

-- where no token is a byte that is no character, no byte is
pub line_of_characters : (line : List ℕ) → AllByRecursion IsText (unplaced (tokens line)) → AllByRecursion (λ b. is_character b ≡ true) line
line_of_characters line h = bytes_are_characters 1 None line tt h

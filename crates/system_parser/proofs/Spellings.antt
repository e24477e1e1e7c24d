-- What bytes that pass are.
use Rattle.std.proofs.Common.{◌≡◌, ℕ, suc, ◌+◌, ◌<◌, ◌≤◌, Bool, true, false, cond, leb, List, [], ◌∷◌, take, refl, sym, subst, arith}
use Rattle.std.specs.List.{prefix_len, AllByRecursion}
use Rattle.std.specs.Str.Parse.{AllDigits}
use Rattle.std.specs.Char.{digit_value}
use Rattle.std.proofs.lemmas.Bool.{and_parts, leb-true}
use Rattle.std.proofs.lemmas.Str.{digit_value_digit}
use Rattle.system_text.specs.Characters.{is_digit}

passing_step : (p : ℕ → Bool) (b : ℕ) (bs : List ℕ) (t : Bool) → p b ≡ t → AllByRecursion (λ b. p b ≡ true) (take (prefix_len p bs) bs) → AllByRecursion (λ b. p b ≡ true) (take (cond t (1 + prefix_len p bs) 0) (b ∷ bs))
passing_step p b bs true e later =
    let more : 1 + prefix_len p bs ≡ suc (prefix_len p bs) = omega arith in
    rw more (e, later)
passing_step p b bs false e later = tt

-- the bytes from the front that pass do
passing : (p : ℕ → Bool) (bs : List ℕ) → AllByRecursion (λ b. p b ≡ true) (take (prefix_len p bs) bs)
passing p [] = tt
passing p (b ∷ bs) = passing_step p b bs (p b) refl (passing p bs)

-- as many as were counted
pub passing_bytes : (p : ℕ → Bool) (k : ℕ) (bs : List ℕ) → k ≡ prefix_len p bs → AllByRecursion (λ b. p b ≡ true) (take k bs)
passing_bytes p k bs e = subst (λ n. AllByRecursion (λ b. p b ≡ true) (take n bs)) (sym e) (passing p bs)

-- digits have values below 10
all_digits : (bs : List ℕ) → AllByRecursion (λ b. is_digit b ≡ true) bs → AllDigits 10 bs
all_digits [] h = tt
all_digits (b ∷ bs) h = (digit_below b h.0, all_digits bs h.1)
  where
    digit_below : (b : ℕ) → is_digit b ≡ true → digit_value b < 10
    digit_below b e =
        let parts = and_parts (leb 48 b) (leb b 57) e in
        let most : b ≤ 57 = leb-true b 57 parts.1 in
        omega (arith, digit_value_digit b (leb-true 48 b parts.0, most))

pub passing_digits : (k : ℕ) (bs : List ℕ) → k ≡ prefix_len is_digit bs → AllDigits 10 (take k bs)
passing_digits k bs e = all_digits (take k bs) (passing_bytes is_digit k bs e)

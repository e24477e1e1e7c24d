-- One variable of a monomial of four words.
use Rattle.std.proofs.Common.{◌≡◌, ℕ, zero, suc, ◌+◌, ◌*◌, ◌/◌, ◌%◌, ◌<◌, [], ◌∷◌, ◌++◌, length, take, drop, replicate, set, refl, sym, ◌∙◌, ap, arith}
use Rattle.polynomials.specs.Monomials.{Monomial, exponent_of}
use Rattle.mono_words.specs.FourWords.{word_of, with_word}

one_more : (k v : ℕ) → suc (k + v) ≡ suc k + v
one_more k v = omega arith

-- an exponent of the list from place k on
exponent_of-drop : (k v : ℕ) (m : Monomial) → exponent_of v (drop k m) ≡ exponent_of (k + v) m
exponent_of-drop zero v m = ap (λ u. exponent_of u m) (omega arith)
exponent_of-drop (suc k) v [] = refl
exponent_of-drop (suc k) v (e ∷ m) = exponent_of-drop k v m ∙ ap (λ u. exponent_of u (e ∷ m)) (one_more k v)

-- an exponent of the first k
exponent_of-take : (k v : ℕ) (m : Monomial) → v < k → exponent_of v (take k m) ≡ exponent_of v m
exponent_of-take zero v m below = absurd (omega arith)
exponent_of-take (suc k) v [] below = refl
exponent_of-take (suc k) zero (e ∷ m) below = refl
exponent_of-take (suc k) (suc v) (e ∷ m) below = exponent_of-take k v m (omega arith)

-- the exponent stands in its word
pub exponent_of-word_of : (v : ℕ) (m : Monomial) → exponent_of (v % 4) (word_of (v / 4) m) ≡ exponent_of v m
exponent_of-word_of v m =
    exponent_of-take 4 (v % 4) (drop (4 * (v / 4)) m) (omega arith) ∙ exponent_of-drop (4 * (v / 4)) (v % 4) m
    ∙ ap (λ u. exponent_of u m) (omega arith)

-- a change within the first k
set-take : (k v e : ℕ) (m : Monomial) → v < k → set (take k m) v e ++ drop k m ≡ set m v e
set-take zero v e m below = absurd (omega arith)
set-take (suc k) v e [] below = refl
set-take (suc k) zero e (d ∷ m) below = ap (λ l. e ∷ l) (joined k m)
  where
    joined : (k : ℕ) (m : Monomial) → take k m ++ drop k m ≡ m
    joined zero m = refl
    joined (suc k) [] = refl
    joined (suc k) (d ∷ m) = ap (λ l. d ∷ l) (joined k m)
set-take (suc k) (suc v) e (d ∷ m) below = ap (λ l. d ∷ l) (set-take k v e m (omega arith))

-- a change from place k on
set-drop : (k v e : ℕ) (m : Monomial) → k + v < length m → take k m ++ set (drop k m) v e ≡ set m (k + v) e
set-drop zero v e m below = ap (λ u. set m u e) (omega arith)
set-drop (suc k) v e [] below = absurd (omega arith)
set-drop (suc k) v e (d ∷ m) below =
    ap (λ l. d ∷ l) (set-drop k v e m (omega arith)) ∙ ap (λ u. set (d ∷ m) u e) (one_more k v)

-- dropped in two steps
drop-drop : (k n : ℕ) (m : Monomial) → drop n (drop k m) ≡ drop (k + n) m
drop-drop zero n m = ap (λ k. drop k m) (omega arith)
drop-drop (suc k) n [] = none n ∙ ap (λ u. drop u []) (one_more k n)
  where
    none : (n : ℕ) → drop {A = ℕ} n [] ≡ drop {A = ℕ} (suc (k + n)) []
    none zero = refl
    none (suc n) = refl
drop-drop (suc k) n (e ∷ m) = drop-drop k n m ∙ ap (λ u. drop u (e ∷ m)) (one_more k n)

-- another exponent is another word
pub set-with_word : (v e : ℕ) (m : Monomial) → v < length m → with_word m (v / 4) (set (word_of (v / 4) m) (v % 4) e) ≡ set m v e
set-with_word v e m below =
    let rest = drop (4 * (v / 4)) m in
    ap (λ l. take (4 * (v / 4)) m ++ (set (word_of (v / 4) m) (v % 4) e ++ l)) (sym (drop-drop (4 * (v / 4)) 4 m))
    ∙ ap (λ l. take (4 * (v / 4)) m ++ l) (set-take 4 (v % 4) e rest (omega arith))
    ∙ set-drop (4 * (v / 4)) (v % 4) e m (omega arith) ∙ ap (λ u. set m u e) (omega arith)

-- the words of 1
pub word_of-one : (i : ℕ) → i < 4 → word_of i (replicate 16 0) ≡ replicate 4 0
word_of-one zero below = refl
word_of-one (suc zero) below = refl
word_of-one (suc (suc zero)) below = refl
word_of-one (suc (suc (suc zero))) below = refl
word_of-one (suc (suc (suc (suc i)))) below = absurd (omega arith)

-- Texts and what is read of them, by computation.
use Rattle.std.proofs.Common.{◌≡◌, ℕ, [], ◌∷◌, ◌++◌, Ok, Err, Result, refl}
use Rattle.std.specs.Prelude.{codes}
use Rattle.polynomials.specs.Polynomials.{term}
use Rattle.system_text.specs.Faults.{Refusal}
use Rattle.system_text.specs.Lines.{TextSystem, read_text}

-- a refusal with its place
abbrev refused : ℕ → ℕ → ℕ → Result TextSystem Refusal
refused number line byte = Err (record { number = number; line = line; byte = byte })

-- a system of one variable
one_variable : read_text 1 (codes "prime 5\norder x\nx^2 + 4\nx^2 + x + 3\n") ≡ Ok (record {
  prime = 5;
  names = codes "x" ∷ [];
  inputs = (term (2 ∷ []) 1 ∷ term (0 ∷ []) 4 ∷ []) ∷ (term (2 ∷ []) 1 ∷ term (1 ∷ []) 1 ∷ term (0 ∷ []) 3 ∷ []) ∷ [];
  nonzero = [];
})
one_variable = refl

-- spaces, a comment, a skipped line, signs, parentheses, no last line feed
two_variables : read_text 2 (codes "# a\n prime  7 \n\norder y x\n -2*( x - y)^2*y+ 3") ≡ Ok (record {
  prime = 7;
  names = codes "y" ∷ codes "x" ∷ [];
  inputs = (term (1 ∷ 2 ∷ []) 5 ∷ term (2 ∷ 1 ∷ []) 4 ∷ term (3 ∷ 0 ∷ []) 5 ∷ term (0 ∷ 0 ∷ []) 3 ∷ []) ∷ [];
  nonzero = [];
})
two_variables = refl

empty : read_text 8 [] ≡ refused 2 1 1
empty = refl

no_such_prime : read_text 8 (codes "prime 9\norder x\n") ≡ refused 3 1 7
no_such_prime = refl

ninth_name : read_text 8 (codes "prime 5\norder a b c d e f g h i\n") ≡ refused 5 2 23
ninth_name = refl

same_name : read_text 8 (codes "prime 5\norder x x\n") ≡ refused 6 2 9
same_name = refl

unknown_name : read_text 8 (codes "prime 5\norder x y\nx + z\n") ≡ refused 7 3 5
unknown_name = refl

no_factor : read_text 8 (codes "prime 5\norder x\nx*") ≡ refused 8 3 3
no_factor = refl

padded_exponent : read_text 8 (codes "prime 5\norder x\nx^01\n") ≡ refused 8 3 4
padded_exponent = refl

long_number : read_text 8 (codes "prime 5\norder x\n1000000000000000000*x\n") ≡ refused 9 3 1
long_number = refl

large_exponent : read_text 8 (codes "prime 5\norder x\nx^65536\n") ≡ refused 10 3 3
large_exponent = refl

no_text : read_text 8 (codes "prime 5\norder x\n# a\nx + x\n" ++ 255 ∷ []) ≡ refused 1 5 1
no_text = refl

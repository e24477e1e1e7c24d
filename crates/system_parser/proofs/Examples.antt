-- Made systems and their texts, by computation.
use Rattle.std.proofs.Common.{◌≡◌, Ok, refl}
use Rattle.std.specs.Prelude.{[], ◌∷◌, codes}
use Rattle.system_text.specs.Lines.{read_text}
use Rattle.system_parser.specs.Made.{made_polynomial, made_prime, made_names, made_system}

-- after seven polynomials the variables come again, with 1 added
nine_polynomials : read_text 8 (codes "prime 32003\norder a b c d e f g h\na*b\nb*c\nc*d\nd*e\ne*f\nf*g\ng*h\na*b + b\nb*c + c\n") ≡ Ok (made_system 8 9)
nine_polynomials = refl

-- the last of the largest system
last_of_the_largest : read_text 8 (codes "prime 32003\norder a b c d e f g h\ne*f + 1285*f\n") ≡ Ok (record { prime = made_prime; names = made_names; inputs = made_polynomial 8 8999 ∷ []; nonzero = [] })
last_of_the_largest = refl

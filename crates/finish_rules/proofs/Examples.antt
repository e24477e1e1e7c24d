-- Certificates of the initials of small chains, what vanishes where there is none, and tests of
-- certificates, with results that were found independently.
use Rattle.std.proofs.Common.{◌≡◌, ℕ, true, false, List, [], ◌∷◌, Some, None, refl}
use Rattle.polynomials.specs.Polynomials.{Term, term, Polynomial}
use Rattle.zero_sets.specs.Certificates.{Certificate}
use Rattle.split_paths.specs.declared.splitter.Step.TheVariants.{Gone, Emit, TooWide, Kids}
use Rattle.finish_rules.specs.Identities.{composed_within}
use Rattle.finish_rules.specs.Initials.{regularised, certified}
use Rattle.finish_rules.specs.Checks.{checked}

-- c x^a y^b, and c x^a y^b z^d
abbrev xy : ℕ → ℕ → ℕ → Term
xy c a b = term (a ∷ b ∷ []) c

abbrev xyz : ℕ → ℕ → ℕ → ℕ → Term
xyz c a b d = term (a ∷ b ∷ d ∷ []) c

abbrev certificate : ℕ → Polynomial → List Polynomial → Polynomial → Certificate
certificate v a bs r = record { of = v; cofactor = a; below = bs; value = r }

-- modulo 5, y^2 - x and y z - 1: the certificate of z has the value -x
abbrev square_chain : List Polynomial
square_chain = (xyz 1 0 2 0 ∷ xyz 4 1 0 0 ∷ []) ∷ (xyz 1 0 1 1 ∷ xyz 4 0 0 0 ∷ []) ∷ []

abbrev square_certificate : Certificate
square_certificate = certificate 2 (xyz 4 0 1 0 ∷ []) ((xyz 1 0 0 0 ∷ []) ∷ []) (xyz 4 1 0 0 ∷ [])

regularised_square : regularised 5 3 100000 square_chain [] 2 (xyz 1 0 1 0 ∷ []) ≡ Emit square_certificate
regularised_square = refl

certified_square : certified 5 3 100000 square_chain [] square_chain ≡ Emit (square_certificate ∷ [])
certified_square = refl

-- x^2 - x and x y - 1: the initial x divides zero, and its cofactor vanishes
regularised_divisor : regularised 5 2 100000 ((xy 1 2 0 ∷ xy 4 1 0 ∷ []) ∷ (xy 1 1 1 ∷ xy 4 0 0 ∷ []) ∷ []) [] 1 (xy 1 1 0 ∷ []) ≡ Kids ((xy 4 1 0 ∷ xy 1 0 0 ∷ []) ∷ [])
regularised_divisor = refl

-- x^2, y^3 - y^2 and (x y^2 + y - 1) z - 1: the cofactor reduces to 0, and a lead vanishes
regularised_leads : regularised 5 3 100000 ((xyz 1 2 0 0 ∷ []) ∷ (xyz 1 0 3 0 ∷ xyz 4 0 2 0 ∷ []) ∷ (xyz 1 1 2 1 ∷ xyz 1 0 1 1 ∷ xyz 4 0 0 1 ∷ xyz 4 0 0 0 ∷ []) ∷ []) [] 2 (xyz 1 1 2 0 ∷ xyz 1 0 1 0 ∷ xyz 4 0 0 0 ∷ []) ≡ Kids ((xyz 1 1 0 0 ∷ []) ∷ (xyz 1 1 0 0 ∷ xyz 3 0 0 0 ∷ []) ∷ [])
regularised_leads = refl

-- modulo 3, x^2 + x, y^3 + 1 and x y^2 z: after a coprime end the polynomial so far may vanish too
abbrev coprime_first : List Polynomial
coprime_first = (xyz 1 2 0 0 ∷ xyz 1 1 0 0 ∷ []) ∷ (xyz 1 0 3 0 ∷ xyz 1 0 0 0 ∷ []) ∷ (xyz 1 1 2 1 ∷ []) ∷ []

both_vanish : certified 3 3 100000 coprime_first [] coprime_first ≡ Kids ((xyz 1 1 0 0 ∷ xyz 1 0 0 0 ∷ []) ∷ (xyz 2 1 0 0 ∷ []) ∷ [])
both_vanish = refl

-- x^2, y^3 and x y^2 z: without one it may not
abbrev common_first : List Polynomial
common_first = (xyz 1 2 0 0 ∷ []) ∷ (xyz 1 0 3 0 ∷ []) ∷ (xyz 1 1 2 1 ∷ []) ∷ []

one_vanishes : certified 3 3 30 common_first [] common_first ≡ Kids ((xyz 2 1 1 0 ∷ []) ∷ [])
one_vanishes = refl

-- x^2, y^3 and (x y^2 + 1) z: the cofactor reduces to 0, and the leads x and 2 x are the same where
-- they are monic; where x is known nonzero nothing is left
abbrev twice : List Polynomial
twice = (xyz 1 2 0 0 ∷ []) ∷ (xyz 1 0 3 0 ∷ []) ∷ (xyz 1 1 2 1 ∷ xyz 1 0 0 1 ∷ []) ∷ []

leads_twice : certified 3 3 30 twice [] twice ≡ Kids ((xyz 1 1 0 0 ∷ []) ∷ (xyz 1 1 0 0 ∷ []) ∷ [])
leads_twice = refl

gone_by_leads : certified 2 3 100000 twice ((xyz 1 1 0 0 ∷ []) ∷ []) twice ≡ Gone
gone_by_leads = refl

-- modulo 2, x and x y: the initial of x y reduces to 0
gone_at_initial : certified 2 3 100000 ((xyz 1 1 0 0 ∷ []) ∷ (xyz 1 1 1 0 ∷ []) ∷ []) [] ((xyz 1 1 0 0 ∷ []) ∷ (xyz 1 1 1 0 ∷ []) ∷ []) ≡ Gone
gone_at_initial = refl

-- modulo 5, 4 x y^2 + 3 and 3 y z^2: two initials, that of the least main variable first
abbrev two_initials : List Polynomial
two_initials = (xyz 4 1 2 0 ∷ xyz 3 0 0 0 ∷ []) ∷ (xyz 3 0 1 2 ∷ []) ∷ []

two_certified : certified 5 3 100000 two_initials [] two_initials ≡ Emit (certificate 1 (xyz 1 0 0 0 ∷ []) [] (xyz 4 1 0 0 ∷ []) ∷ certificate 2 (xyz 3 1 1 0 ∷ []) ((xyz 4 0 0 0 ∷ []) ∷ []) (xyz 2 0 0 0 ∷ []) ∷ [])
two_certified = refl

-- modulo 2, x^2 + 1, x y^2 + 1 and x y z: the polynomials below that of the turn have cofactors too
abbrev three_members : List Polynomial
three_members = (xyz 1 2 0 0 ∷ xyz 1 0 0 0 ∷ []) ∷ (xyz 1 1 2 0 ∷ xyz 1 0 0 0 ∷ []) ∷ (xyz 1 1 1 1 ∷ []) ∷ []

all_cofactors : certified 2 3 100000 three_members [] three_members ≡ Emit (certificate 1 (xyz 1 1 0 0 ∷ []) ((xyz 1 0 0 0 ∷ []) ∷ []) (xyz 1 0 0 0 ∷ []) ∷ certificate 2 (xyz 1 2 1 0 ∷ []) ((xyz 1 0 0 0 ∷ []) ∷ (xyz 1 2 0 0 ∷ []) ∷ []) (xyz 1 0 0 0 ∷ []) ∷ [])
all_cofactors = refl

-- a product that doesn't fit
too_wide : certified 2 3 1 three_members [] three_members ≡ TooWide
too_wide = refl

-- y = 1 y composed with -x = -y y + 1 (y^2 - x), over y and y^2 - x
composed_twice : composed_within 5 2 100 (record { first = xy 1 0 1 ∷ []; cofactors = (xy 1 0 0 ∷ []) ∷ [] ∷ [] }) (record { first = xy 4 1 0 ∷ []; cofactors = (xy 4 0 1 ∷ []) ∷ (xy 1 0 0 ∷ []) ∷ [] }) ≡ Some (record { first = xy 4 1 0 ∷ []; cofactors = (xy 4 0 1 ∷ []) ∷ (xy 1 0 0 ∷ []) ∷ [] })
composed_twice = refl

-- the certificate of z is one; with another value it isn't, and its products need the width 2
checked_square : checked 5 3 100 square_chain square_certificate ≡ Some true
checked_square = refl

checked_other_value : checked 5 3 100 square_chain (certificate 2 (xyz 4 0 1 0 ∷ []) ((xyz 1 0 0 0 ∷ []) ∷ []) (xyz 1 1 0 0 ∷ [])) ≡ Some false
checked_other_value = refl

checked_too_wide : checked 5 3 1 square_chain square_certificate ≡ None
checked_too_wide = refl

checked_fits : checked 5 3 2 square_chain square_certificate ≡ Some true
checked_fits = refl

-- y is no value, since it is a main variable; and the initial of y^2 - x needs no certificate
checked_main : checked 5 3 100 square_chain (certificate 2 (xyz 1 0 0 0 ∷ []) ([] ∷ []) (xyz 1 0 1 0 ∷ [])) ≡ Some false
checked_main = refl

checked_constant : checked 5 3 100 square_chain (certificate 1 (xyz 1 0 0 0 ∷ []) [] (xyz 1 0 0 0 ∷ [])) ≡ Some false
checked_constant = refl

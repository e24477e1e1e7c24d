-- The definitions, tried by computation in the fields of 4 and of 5 elements.
use Rattle.std.proofs.Common.{◌≡◌, ℕ, true, [], ◌∷◌, refl, lit≤, arith}
use Rattle.polynomials.specs.Polynomials.{Polynomial, term, sum_of, product_of}
use Rattle.polynomials.specs.Sums.{combination}
use Rattle.polynomials.specs.Views.{initial_of}
use Rattle.zero_sets.specs.Domains.{Tables, IsFiniteDomain, value_at}
use Rattle.zero_sets.specs.ZeroSets.{InZeroSet, InQuasiComponent, IsTriangular}
use Rattle.zero_sets.specs.Certificates.{Certificate, CertifiesInitial, Certifies, AreCertificates, variables_to_certify}
use Rattle.zero_sets.proofs.DomainTests.{domain_from_tests}
use Rattle.zero_sets.specs.Tasks.{InTask, is_known_nonzero, with_nonzero}

-- the field of 4 elements: 0, 1, w and w + 1 = w^2
abbrev four : Tables
four = record {
  size = 4;
  sums = 0 ∷ 1 ∷ 2 ∷ 3 ∷ 1 ∷ 0 ∷ 3 ∷ 2 ∷ 2 ∷ 3 ∷ 0 ∷ 1 ∷ 3 ∷ 2 ∷ 1 ∷ 0 ∷ [];
  products = 0 ∷ 0 ∷ 0 ∷ 0 ∷ 0 ∷ 1 ∷ 2 ∷ 3 ∷ 0 ∷ 2 ∷ 3 ∷ 1 ∷ 0 ∷ 3 ∷ 1 ∷ 2 ∷ [];
  nil = 0;
  one = 1;
}

-- the field of 5 elements
abbrev five : Tables
five = record {
  size = 5;
  sums = 0 ∷ 1 ∷ 2 ∷ 3 ∷ 4 ∷ 1 ∷ 2 ∷ 3 ∷ 4 ∷ 0 ∷ 2 ∷ 3 ∷ 4 ∷ 0 ∷ 1 ∷ 3 ∷ 4 ∷ 0 ∷ 1 ∷ 2 ∷ 4 ∷ 0 ∷ 1 ∷ 2 ∷ 3 ∷ [];
  products = 0 ∷ 0 ∷ 0 ∷ 0 ∷ 0 ∷ 0 ∷ 1 ∷ 2 ∷ 3 ∷ 4 ∷ 0 ∷ 2 ∷ 4 ∷ 1 ∷ 3 ∷ 0 ∷ 3 ∷ 1 ∷ 4 ∷ 2 ∷ 0 ∷ 4 ∷ 3 ∷ 2 ∷ 1 ∷ [];
  nil = 0;
  one = 1;
}

-- x^2 + x + 1 modulo 2 is 0 at w, and 1 at 1
abbrev conjugate : Polynomial
conjugate = term (2 ∷ []) 1 ∷ term (1 ∷ []) 1 ∷ term (0 ∷ []) 1 ∷ []

zero_at_w : value_at four (2 ∷ []) conjugate ≡ 0
zero_at_w = refl

one_at_one : value_at four (1 ∷ []) conjugate ≡ 1
one_at_one = refl

-- x y^2 + y + 1, x and y + 1 over x < y
abbrev curve : Polynomial
curve = term (1 ∷ 2 ∷ []) 1 ∷ term (0 ∷ 1 ∷ []) 1 ∷ term (0 ∷ 0 ∷ []) 1 ∷ []

abbrev x : Polynomial
x = term (1 ∷ 0 ∷ []) 1 ∷ []

abbrev y_plus_one : Polynomial
y_plus_one = term (0 ∷ 1 ∷ []) 1 ∷ term (0 ∷ 0 ∷ []) 1 ∷ []

-- 3 * 1 + 1 + 1 = 0 modulo 5, and the initial is 3
inside_the_curve : InQuasiComponent five (3 ∷ 1 ∷ []) (curve ∷ [])
inside_the_curve = ((refl, tt), (λ e. cc, tt))

-- at x = 0 the initial vanishes, though the polynomial does too
zero_of_the_curve : InZeroSet five (0 ∷ 4 ∷ []) (curve ∷ [])
zero_of_the_curve = (refl, tt)

outside_the_curve : InQuasiComponent five (0 ∷ 4 ∷ []) (curve ∷ []) → ⊥
outside_the_curve h = h.1.0 refl

inside_the_second : InQuasiComponent five (0 ∷ 4 ∷ []) (x ∷ y_plus_one ∷ [])
inside_the_second = ((refl, (refl, tt)), (λ e. cc, (λ e. cc, tt)))

-- the quasi-components of x^2, y and of x: the first has one point, which the second has too
abbrev x_square : Polynomial
x_square = term (2 ∷ 0 ∷ []) 1 ∷ []

abbrev y : Polynomial
y = term (0 ∷ 1 ∷ []) 1 ∷ []

origin_in_the_first : InQuasiComponent five (0 ∷ 0 ∷ []) (x_square ∷ y ∷ [])
origin_in_the_first = ((refl, (refl, tt)), (λ e. cc, (λ e. cc, tt)))

origin_in_the_second : InQuasiComponent five (0 ∷ 0 ∷ []) (x ∷ [])
origin_in_the_second = ((refl, tt), (λ e. cc, tt))

other_point_in_the_second : InQuasiComponent five (0 ∷ 3 ∷ []) (x ∷ [])
other_point_in_the_second = ((refl, tt), (λ e. cc, tt))

other_point_not_in_the_first : InQuasiComponent five (0 ∷ 3 ∷ []) (x_square ∷ y ∷ []) → ⊥
other_point_not_in_the_first h = let e = h.0.1.0 in cc

-- the chain x^2 + 4 a, x y + 4 over a < x < y modulo 5
abbrev lower : Polynomial
lower = term (0 ∷ 2 ∷ 0 ∷ []) 1 ∷ term (1 ∷ 0 ∷ 0 ∷ []) 4 ∷ []

abbrev upper : Polynomial
upper = term (0 ∷ 1 ∷ 1 ∷ []) 1 ∷ term (0 ∷ 0 ∷ 0 ∷ []) 4 ∷ []

triangular : IsTriangular (lower ∷ upper ∷ [])
triangular = (1, refl, lit≤ tt, (2, refl, lit≤ tt, tt))

to_certify : variables_to_certify (lower ∷ upper ∷ []) ≡ 2 ∷ []
to_certify = refl

-- c x * x + 1 * (x^2 + 4 a) = 4 a, where c is 4 modulo 5
abbrev certificate : ℕ → Polynomial → Certificate
certificate c r = record {
  of = 2;
  cofactor = term (0 ∷ 1 ∷ 0 ∷ []) c ∷ [];
  below = (term (0 ∷ 0 ∷ 0 ∷ []) 1 ∷ []) ∷ [];
  value = r;
}

abbrev four_a : Polynomial
four_a = term (1 ∷ 0 ∷ 0 ∷ []) 4 ∷ []

certified : CertifiesInitial 5 3 (lower ∷ upper ∷ []) (certificate 4 four_a) upper
certified = record {
  member = refl;
  initial = refl;
  canonical = ((refl, lit≤ tt, lit≤ tt, tt, tt), ((refl, lit≤ tt, lit≤ tt, tt, tt), tt), (refl, lit≤ tt, lit≤ tt, tt, tt));
  count = refl;
  identity = refl;
  nonzero = λ e. cc;
  free = (refl, (refl, tt));
}

-- which is all that is to be certified
certificates : AreCertificates 5 3 (lower ∷ upper ∷ []) (certificate 4 four_a ∷ [])
certificates = record { variables = refl; certify = ((upper, certified), tt) }

-- with the value a the identity fails
not_certified : Certifies 5 3 (lower ∷ upper ∷ []) (certificate 4 (term (1 ∷ 0 ∷ 0 ∷ []) 1 ∷ [])) → ⊥
not_certified h = let m = h.1.member in let e = h.1.identity in let same : h.0 ≡ upper = cc in let f = rw same at e in cc

-- with the cofactor 9 x it holds, but 9 is no coefficient modulo 5
same_identity : sum_of 5 (product_of 5 (certificate 9 four_a).cofactor (initial_of upper)) (combination 5 (certificate 9 four_a).below (lower ∷ [])) ≡ four_a
same_identity = refl

not_canonical : Certifies 5 3 (lower ∷ upper ∷ []) (certificate 9 four_a) → ⊥
not_canonical h = let (exponents, positive, below, sorted, later) = h.1.canonical.0 in omega arith

-- 2 x is known nonzero where x is in the list, and x + 1 is not
known : is_known_nonzero 5 (x ∷ []) (term (1 ∷ 0 ∷ []) 2 ∷ []) ≡ true
known = refl

unknown : with_nonzero 5 (x ∷ []) y_plus_one ≡ x ∷ y_plus_one ∷ []
unknown = refl

in_task : InTask five (0 ∷ 4 ∷ []) (record { chain = x ∷ []; queue = curve ∷ []; nonzero = y ∷ [] })
in_task = (((refl, tt), (λ e. cc, tt)), (refl, tt), (λ e. cc, tt))

-- both are finite domains
four_is_a_domain : IsFiniteDomain 2 four
four_is_a_domain = domain_from_tests 2 four (record { many = refl; sum_count = refl; product_count = refl; nil_below = refl; one_below = refl; sum_below = refl; product_below = refl; add_comm = refl; add_assoc = refl; nil-add = refl; negative = refl; mul_comm = refl; mul_assoc = refl; one-mul = refl; mul-add = refl; one_not_nil = refl; characteristic = refl; integral = refl })

five_is_a_domain : IsFiniteDomain 5 five
five_is_a_domain = domain_from_tests 5 five (record { many = refl; sum_count = refl; product_count = refl; nil_below = refl; one_below = refl; sum_below = refl; product_below = refl; add_comm = refl; add_assoc = refl; nil-add = refl; negative = refl; mul_comm = refl; mul_assoc = refl; one-mul = refl; mul-add = refl; one_not_nil = refl; characteristic = refl; integral = refl })

-- Products of initials: of lists of terms and of canonical polynomials.
use Rattle.std.proofs.Common.{◌≡◌, inl, inr, ℕ, ◌<◌, List, [], ◌∷◌, map, All, Contains, refl, sym, ap, ◌∙◌, arith}
use Rattle.std.proofs.lemmas.List.Elements.{All-nil, All-cons}
use Rattle.polynomials.specs.Polynomials.{Polynomial, product_of}
use Rattle.polynomials.specs.Views.{initial_of}
use Rattle.polynomials.proofs.PolynomialRing.{CanonicalPolynomial}
use Rattle.division_rules.specs.Lists.{list_operations}
use Rattle.division_rules.specs.Points.{product_of_all, IsInitial, AreInitials}
use Rattle.division_rules.specs.PolynomialRows.{ArePolynomialRows}
use Rattle.division_rules.specs.Rows.{Row, first_entries}
use Rattle.division_rules.proofs.CanonicalViews.{canonical_operations}
use Rattle.division_rules.proofs.ListWords.{list_initial}
use Rattle.division_rules.proofs.Down.{terms_all}
use Rattle.division_rules.proofs.Up.{up_rows}
use Rattle.division_rules.proofs.Factors.{Contains-later}

module _ (p n : ℕ) (many : 1 < p) where
  -- products
  pub terms-product_of_all : (js : List (CanonicalPolynomial p n)) → (product_of_all (canonical_operations p n many) js).0 ≡ product_of_all (list_operations p n) (terms_all p n many js)
  terms-product_of_all [] = refl
  terms-product_of_all (a ∷ js) = ap (product_of p a.0) (terms-product_of_all js)

  -- an initial of rows is one of the initials of their first entries
  initial_member : (chain : List (Row Polynomial)) (are : ArePolynomialRows p n chain) (a : CanonicalPolynomial p n) → IsInitial (canonical_operations p n many) (up_rows p n many chain are) a → Contains (map initial_of (first_entries chain)) a.0
  initial_member [] are a h = absurd h
  initial_member (t ∷ chain) are a (inl e) = (0, omega arith, sym (ap (λ x. x.0) e ∙ list_initial p n t.first))
  initial_member (t ∷ chain) are a (inr h) = Contains-later (initial_of t.first) (map initial_of (first_entries chain)) a.0 (initial_member chain are.1 a h)

  -- so are several
  pub initial_members : (chain : List (Row Polynomial)) (are : ArePolynomialRows p n chain) (js : List (CanonicalPolynomial p n)) → AreInitials (canonical_operations p n many) (up_rows p n many chain are) js → All (Contains (map initial_of (first_entries chain))) (terms_all p n many js)
  initial_members chain are [] h = All-nil (Contains (map initial_of (first_entries chain)))
  initial_members chain are (a ∷ js) h = All-cons (Contains (map initial_of (first_entries chain))) a.0 (terms_all p n many js) (initial_member chain are a h.0) (initial_members chain are js h.1)

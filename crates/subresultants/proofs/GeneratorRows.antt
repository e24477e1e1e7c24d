-- Lists of zeros and rows of generators, made one by one.
use Rattle.std.proofs.Common.{◌≡◌, ◌+◌, ◌-◌, ◌<◌, ℕ, zero, suc, Bool, true, false, List, [], ◌∷◌, ◌++◌, drop, length, replicate, Some, refl, sym, ap, ap₂, subst, ◌∙◌, append_assoc, length-drop, length-append, arith}
use Rattle.std.specs.List.{slice_get}
use Rattle.std.proofs.lemmas.List.{length-replicate}
use Rattle.mono_words.specs.declared.mono.TheConstants.{VARS}
use Rattle.polynomials.specs.Polynomials.{Polynomial, IsPolynomial, ArePolynomials, one_of}
use Rattle.polynomials.proofs.Canonical.{IsPolynomial-one_of}
use Rattle.division_rules.specs.Rows.{Row, first_entries}
use Rattle.division_rules.specs.Chains.{EachRow}
use Rattle.division_rules.specs.Units.{unit_cofactors}
use Rattle.division_rules.specs.PolynomialRows.{IsPolynomialRow, ArePolynomialRows}
use Rattle.pseudo_division.proofs.Lists.{drop_at}
use Rattle.subresultants.specs.Generators.{generator_row, generator_rows}

one_later : (k : ℕ) → suc k ≡ k + 1
one_later k = omega arith

-- one more copy at the end
pub replicate_more : {X : Type 0} (k : ℕ) (x : X) → replicate k x ++ x ∷ [] ≡ replicate (k + 1) x
replicate_more k x = go k ∙ ap (λ j. replicate j x) (one_later k)
  where
    go : (j : ℕ) → replicate j x ++ x ∷ [] ≡ replicate (suc j) x
    go zero = refl
    go (suc j) = ap (λ zs. x ∷ zs) (go j)

-- the first of the last generators, and the others
generator_rows-first : (p : ℕ) (cofactors : Bool) (before : ℕ) (f : Polynomial) (fs : List Polynomial) → generator_rows p cofactors before (f ∷ fs) ≡ generator_row cofactors before (length fs) f ∷ generator_rows p cofactors (suc before) fs
generator_rows-first p true before f fs = refl
generator_rows-first p false before f fs = refl

-- one more row of a generator
pub generator_rows_more : (p : ℕ) (cofactors : Bool) (before : ℕ) (fs : List Polynomial) (rows longer : List (Row Polynomial)) (i : ℕ) (f : Polynomial) (r : Row Polynomial) → slice_get fs i ≡ Some f → r ≡ generator_row cofactors (before + i) (length fs - i - 1) f → longer ≡ rows ++ r ∷ [] → rows ++ generator_rows p cofactors (before + i) (drop i fs) ≡ generator_rows p cofactors before fs → longer ++ generator_rows p cofactors (before + (i + 1)) (drop (i + 1) fs) ≡ generator_rows p cofactors before fs
generator_rows_more p cofactors before fs rows longer i f r at same is whole =
    ap (λ zs. zs ++ generator_rows p cofactors (before + (i + 1)) rest) is
    ∙ append_assoc rows (r ∷ []) (generator_rows p cofactors (before + (i + 1)) rest)
    ∙ ap₂ (λ z j. rows ++ (z ∷ generator_rows p cofactors j rest)) (same ∙ ap (λ k. generator_row cofactors (before + i) k f) count) place
    ∙ ap (λ zs. rows ++ zs) (sym (generator_rows-first p cofactors (before + i) f rest))
    ∙ ap (λ zs. rows ++ generator_rows p cofactors (before + i) zs) (sym (drop_at fs i f at))
    ∙ whole
  where
    rest : List Polynomial
    rest = drop (i + 1) fs

    place : before + (i + 1) ≡ suc (before + i)
    place = omega arith

    count : length fs - i - 1 ≡ length rest
    count = omega (arith, length-drop (i + 1) fs)

-- at first all are to come
pub generator_rows_start : (p : ℕ) (cofactors : Bool) (before : ℕ) (fs : List Polynomial) → generator_rows p cofactors (before + 0) fs ≡ generator_rows p cofactors before fs
generator_rows_start p cofactors before fs = ap (λ (j : ℕ). generator_rows p cofactors j fs) (omega arith)

-- one more canonical row
pub rows_canonical_more : (p : ℕ) (rows longer : List (Row Polynomial)) (r : Row Polynomial) → longer ≡ rows ++ r ∷ [] → ArePolynomialRows p VARS rows → IsPolynomialRow p VARS r → ArePolynomialRows p VARS longer
rows_canonical_more p rows longer r is are i = subst (ArePolynomialRows p VARS) (sym is) (go rows are)
  where
    go : (zs : List (Row Polynomial)) → ArePolynomialRows p VARS zs → ArePolynomialRows p VARS (zs ++ r ∷ [])
    go [] are = (i, tt)
    go (z ∷ zs) are = (are.0, go zs are.1)

-- its first entry
pub generator_row-first : (cofactors : Bool) (before behind : ℕ) (f : Polynomial) → (generator_row cofactors before behind f).first ≡ f
generator_row-first true before behind f = refl
generator_row-first false before behind f = refl

pub generator_rows-entries : (p : ℕ) (cofactors : Bool) (before : ℕ) (fs : List Polynomial) → first_entries (generator_rows p cofactors before fs) ≡ fs
generator_rows-entries p true before [] = refl
generator_rows-entries p true before (f ∷ fs) = ap (λ zs. f ∷ zs) (generator_rows-entries p true (suc before) fs)
generator_rows-entries p false before [] = refl
generator_rows-entries p false before (f ∷ fs) = ap (λ zs. f ∷ zs) (generator_rows-entries p false before fs)

-- how many cofactors a row has, of so many generators
abbrev pub cofactor_count : Bool → ℕ → ℕ
cofactor_count true count = count
cofactor_count false count = 0

pub generator_row-count : (cofactors : Bool) (before behind count : ℕ) (f : Polynomial) → count ≡ before + suc behind → length (generator_row cofactors before behind f).cofactors ≡ cofactor_count cofactors count
generator_row-count true before behind count f all = length-append (replicate before []) (one_of VARS ∷ replicate behind []) ∙ ap₂ (λ i j. i + suc j) (length-replicate before []) (length-replicate behind []) ∙ sym all
generator_row-count false before behind count f all = refl

pub generator_rows-count : (p : ℕ) (cofactors : Bool) (before count : ℕ) (fs : List Polynomial) → count ≡ before + length fs → EachRow (λ f. length f.cofactors ≡ cofactor_count cofactors count) (generator_rows p cofactors before fs)
generator_rows-count p true before count [] all = tt
generator_rows-count p true before count (f ∷ fs) all = (generator_row-count true before (length fs) count f all, generator_rows-count p true (suc before) count fs (omega arith))
generator_rows-count p false before count [] all = tt
generator_rows-count p false before count (f ∷ fs) all = (refl, generator_rows-count p false (suc before) count fs (omega arith))

module _ (p : ℕ) (many : 1 < p) where
  zeros_canonical : (k : ℕ) → ArePolynomials p VARS (replicate k [])
  zeros_canonical zero = tt
  zeros_canonical (suc k) = (tt, zeros_canonical k)

  pub unit_canonical : (before behind : ℕ) → ArePolynomials p VARS (unit_cofactors [] (one_of VARS) before behind)
  unit_canonical zero behind = (IsPolynomial-one_of p VARS many, zeros_canonical behind)
  unit_canonical (suc before) behind = (tt, unit_canonical before behind)

  -- it is canonical where the polynomial is
  pub generator_row-canonical : (cofactors : Bool) (before behind : ℕ) (f : Polynomial) → IsPolynomial p VARS f → IsPolynomialRow p VARS (generator_row cofactors before behind f)
  generator_row-canonical true before behind f i = (i, unit_canonical before behind)
  generator_row-canonical false before behind f i = (i, tt)

  pub generator_rows-canonical : (cofactors : Bool) (before : ℕ) (fs : List Polynomial) → ArePolynomials p VARS fs → ArePolynomialRows p VARS (generator_rows p cofactors before fs)
  generator_rows-canonical true before [] are = tt
  generator_rows-canonical true before (f ∷ fs) are = (generator_row-canonical true before (length fs) f are.0, generator_rows-canonical true (suc before) fs are.1)
  generator_rows-canonical false before [] are = tt
  generator_rows-canonical false before (f ∷ fs) are = ((are.0, tt), generator_rows-canonical false before fs are.1)

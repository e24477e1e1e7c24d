-- Tasks: a triangular set, polynomials still to be imposed, and polynomials that don't vanish.
use Rattle.std.specs.Prelude.{◌≡◌, ℕ, Bool, true, false, ◌||◌, List, [], ◌∷◌, ◌++◌}
use Rattle.std.specs.List.{list_any}
use Rattle.polynomials.specs.Polynomials.{Polynomial, monic, same_polynomial}
use Rattle.polynomials.specs.Views.{is_constant}
use Rattle.zero_sets.specs.Domains.{Tables}
use Rattle.zero_sets.specs.ZeroSets.{InQuasiComponent, InZeroSet, AreNonZero, IsTriangular}

-- a task
pub record Task : Type 0 where
  pub chain : List Polynomial
  pub queue : List Polynomial
  pub nonzero : List Polynomial

-- the points of a task: those of the chain's quasi-component that make the whole queue zero and
-- none of the polynomials that don't vanish
abbrev pub InTask : Tables → List ℕ → Task → Type 0
InTask r xs t = InQuasiComponent r xs t.chain × InZeroSet r xs t.queue × AreNonZero r xs t.nonzero

-- f is one of them
abbrev pub is_member : Polynomial → List Polynomial → Bool
is_member f gs = list_any (same_polynomial f) gs

-- h, not 0, is known nonzero: it is constant, or monic it is one of ns
abbrev pub is_known_nonzero : ℕ → List Polynomial → Polynomial → Bool
is_known_nonzero p ns h = is_constant h || is_member (monic p h) ns

-- ns and h, made monic, unless h is known nonzero
abbrev pub with_nonzero : ℕ → List Polynomial → Polynomial → List Polynomial
with_nonzero p ns h =
    elim (is_known_nonzero p ns h) [ true ↦ ns | false ↦ ns ++ monic p h ∷ [] ]

-- different polynomials, each monic and none constant
abbrev pub AreMonicApart : ℕ → List Polynomial → Type 0
AreMonicApart p [] = Unit {0}
AreMonicApart p (f ∷ fs) =
    (monic p f ≡ f) × (is_constant f ≡ false) × (is_member f fs ≡ false) × AreMonicApart p fs

-- the chain is triangular, and the polynomials that don't vanish are different, monic and not
-- constant
abbrev pub IsTask : ℕ → Task → Type 0
IsTask p t = IsTriangular t.chain × AreMonicApart p t.nonzero

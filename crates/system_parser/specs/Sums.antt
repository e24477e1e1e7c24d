-- The reading of a sum, as its sums that are open and what was read of them.
use Rattle.std.specs.Prelude.{ℕ, ◌-◌, ◌%◌, Bool, true, false, List, map, IfSome}
use Rattle.std.specs.List.{AllByRecursion}
use Rattle.mono_words.specs.declared.mono.TheConstants.{VARS}
use Rattle.polynomials.specs.Polynomials.{Term, term, IsPolynomial, collected}
use Rattle.sparse_poly.specs.Falling.{HaveVariables, AreResidues}
use Rattle.system_text.specs.Readings.{Frame as TextFrame, Mode as TextMode, Reading as TextReading}
use Rattle.system_parser.specs.declared.frames.Frame.{Frame}
use Rattle.system_parser.specs.declared.sums.Mode.{Mode}
use Rattle.system_parser.specs.declared.sums.Mode.TheVariants.{AtSum, AtFactor, AfterBase, AtExponent, AfterFactor}
use Rattle.system_parser.specs.declared.sums.Reading.{Reading}

-- the residue c modulo p, or its negative
abbrev pub negated_if : ℕ → Bool → ℕ → ℕ
negated_if p true c = (p - c) % p
negated_if p false c = c

-- the terms, or their negatives modulo p
abbrev pub signed_terms : ℕ → Bool → List Term → List Term
signed_terms p is_negative ts = map (λ t. term t.0 (negated_if p is_negative t.1)) ts

-- a sum that is open, whose terms are collected
abbrev pub frame_of : ℕ → Frame → TextFrame
frame_of p f = record {
  sum = collected p f.terms.items;
  is_negative = f.is_negative;
  product = f.product;
}

-- the sums that are open round one
abbrev pub frames_of : ℕ → List Frame → List TextFrame
frames_of p fs = map (frame_of p) fs

-- where the reading stands
abbrev pub mode_of : Mode → TextMode
mode_of AtSum = TextMode.AtSum
mode_of AtFactor = TextMode.AtFactor
mode_of (AfterBase base) = TextMode.AfterBase base.value base.last base.most
mode_of (AtExponent base) = TextMode.AtExponent base.value base.most
mode_of (AfterFactor f) = TextMode.AfterFactor f

-- a reading modulo p
abbrev pub reading_of : ℕ → Reading → TextReading
reading_of p r = record {
  outer = frames_of p r.outer;
  frame = frame_of p r.frame;
  mode = mode_of r.mode;
}

-- each term has its exponents and a residue as its coefficient, and the product is canonical
pub record IsFrame (p : ℕ) (f : Frame) : Type 0 where
  pub variables : HaveVariables VARS f.terms.items
  pub small : AreResidues p f.terms.items
  pub product : IfSome f.product (IsPolynomial p VARS)

-- what was read last is canonical
abbrev pub IsMode : ℕ → Mode → Type 0
IsMode p AtSum = Unit {0}
IsMode p AtFactor = Unit {0}
IsMode p (AfterBase base) = IsPolynomial p VARS base.value
IsMode p (AtExponent base) = IsPolynomial p VARS base.value
IsMode p (AfterFactor f) = IsPolynomial p VARS f

-- all that a reading holds is of the field of p elements
pub record IsReading (p : ℕ) (r : Reading) : Type 0 where
  pub outer : AllByRecursion (IsFrame p) r.outer
  pub frame : IsFrame p r.frame
  pub mode : IsMode p r.mode

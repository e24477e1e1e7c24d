-- The lines of a report.
use Rattle.std.specs.Prelude.{ℕ, Bool, true, false, List, ◌++◌, codes}
use Rattle.std.specs.Fmt.{decimal}
use Rattle.std.specs.List.{flat_map}
use Rattle.polynomials.specs.Polynomials.{Polynomial}
use Rattle.split_paths.specs.Paths.{path_text}
use Rattle.split_paths.specs.declared.event.Why.{Why}
use Rattle.split_paths.specs.declared.event.Why.TheVariants.{Steps, Size}
use Rattle.report_text.specs.Polynomials.{poly_text}

-- a polynomial that must not vanish
abbrev pub nonzero_line : List (List ℕ) → Polynomial → List ℕ
nonzero_line names f = codes "nonzero " ++ (poly_text names f ++ codes "\n")

-- the path of a chain
abbrev pub chain_line : List ℕ → List ℕ
chain_line path = codes "chain " ++ (path_text path ++ codes "\n")

-- a polynomial of a chain
abbrev pub poly_line : List (List ℕ) → Polynomial → List ℕ
poly_line names f = codes "poly " ++ (poly_text names f ++ codes "\n")

-- a chain: its path and its polynomials
abbrev pub plain_chain_text : List (List ℕ) → List ℕ → List Polynomial → List ℕ
plain_chain_text names path fs = chain_line path ++ flat_map (poly_line names) fs

-- the end of an answer of so many chains
abbrev pub end_line : ℕ → List ℕ
end_line count = codes "end " ++ (decimal count ++ codes "\n")

-- what stopped a branch
abbrev pub cause_text : Why → List ℕ
cause_text Steps = codes "steps"
cause_text Size = codes "size"

-- the end of an answer at a branch that passed a limit
abbrev pub stopped_line : List ℕ → Why → List ℕ
stopped_line path why =
    codes "stopped " ++ (path_text path ++ (codes " " ++ (cause_text why ++ codes "\n")))

-- the number that a system was made from, how many chains its answer has, and how many polynomials
-- these have together
abbrev pub summary_lines : ℕ → ℕ → ℕ → List ℕ
summary_lines k chains polys =
    codes "made " ++ (decimal k
    ++ (codes "\nchains " ++ (decimal chains
    ++ (codes "\npolys " ++ (decimal polys ++ codes "\n")))))

-- the refusal of a text, with its number, its line and its byte
abbrev pub refused_line : ℕ → ℕ → ℕ → List ℕ
refused_line number line byte =
    codes "refused " ++ (decimal number
    ++ (codes " line " ++ (decimal line
    ++ (codes " byte " ++ (decimal byte ++ codes "\n")))))

-- the refusal of an input that is too long
unfoldable pub too_long_line : List ℕ
too_long_line = codes "refused 13\n"

-- how the program with several workers is called, and the one with a single worker
unfoldable pub usage_line : Bool → List ℕ
usage_line true = codes "usage: triangularize [--workers K] [--steps S] [--width W] [--made K]\n"
usage_line false = codes "usage: triangularize_alone [--steps S] [--width W] [--made K]\n"

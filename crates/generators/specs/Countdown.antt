-- A splitter of numbers, on which the walk is tried.
use Rattle.std.specs.Prelude.{ℕ, ◌-◌, ◌==◌, Bool, true, false, [], ◌∷◌, if◌then◌else◌}
use Rattle.std.proofs.Common.{lit<}
use Rattle.split_paths.specs.declared.splitter.Step.{Step}
use Rattle.split_paths.specs.declared.splitter.Step.TheVariants.{Gone, Emit, TooWide, Kids}
use Rattle.split_paths.specs.Lawful.{IsLawfulStep}

-- 0 is nothing, 1 is solved, 2 doesn't fit, 3 has one child, 4 has two, any other has three
abbrev pub countdown : ℕ → Step ℕ ℕ
countdown n =
    if n == 0 then Gone
    else (if n == 1 then Emit n
    else (if n == 2 then TooWide
    else (if n == 3 then Kids (0 ∷ [])
    else (if n == 4 then Kids (1 ∷ 1 ∷ [])
    else Kids ((n - 1) ∷ (n - 2) ∷ (n - 3) ∷ [])))))

-- a step that is one of two is lawful where both are
lawful_choice : (b : Bool) (one other : Step ℕ ℕ)
    → IsLawfulStep (λ _. Unit {0}) (λ _. Unit {0}) one
    → IsLawfulStep (λ _. Unit {0}) (λ _. Unit {0}) other
    → IsLawfulStep (λ _. Unit {0}) (λ _. Unit {0}) (if b then one else other)
lawful_choice true one other of_one of_other = of_one
lawful_choice false one other of_one of_other = of_other

-- each step has children few enough
pub countdown_is_lawful : (n : ℕ) → IsLawfulStep (λ _. Unit {0}) (λ _. Unit {0}) (countdown n)
countdown_is_lawful n =
    lawful_choice (n == 0) _ _ tt
    (lawful_choice (n == 1) _ _ tt
    (lawful_choice (n == 2) _ _ tt
    (lawful_choice (n == 3) (Kids (0 ∷ [])) _ (lit< tt, lit< tt, (tt, tt))
    (lawful_choice (n == 4) (Kids (1 ∷ 1 ∷ [])) (Kids ((n - 1) ∷ (n - 2) ∷ (n - 3) ∷ []))
    (lit< tt, lit< tt, (tt, (tt, tt)))
    (lit< tt, lit< tt, (tt, (tt, (tt, tt))))))))

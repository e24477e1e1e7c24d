-- Trees on which the pool is tried.
use Rattle.std.specs.Prelude.{ℕ, ◌-◌, ◌/◌, ◌==◌, Bool, true, false, [], ◌∷◌, if◌then◌else◌}
use Rattle.std.proofs.Common.{lit<}
use Rattle.split_paths.specs.declared.splitter.Step.{Step}
use Rattle.split_paths.specs.declared.splitter.Step.TheVariants.{Gone, Emit, TooWide, Kids}
use Rattle.split_paths.specs.Lawful.{IsLawfulStep}

-- 0 gives way to 1, 2 and 3, each of these to three, and each other task is its own leaf
abbrev pub thirteen : ℕ → Step ℕ ℕ
thirteen n =
    if n == 0 then Kids (1 ∷ 2 ∷ 3 ∷ [])
    else (if n == 1 then Kids (4 ∷ 5 ∷ 6 ∷ [])
    else (if n == 2 then Kids (7 ∷ 8 ∷ 9 ∷ [])
    else (if n == 3 then Kids (10 ∷ 11 ∷ 12 ∷ [])
    else Emit n)))

-- 0 gives way to 1 and 2, and each other task is its own leaf
abbrev pub two_leaves : ℕ → Step ℕ ℕ
two_leaves n = if n == 0 then Kids (1 ∷ 2 ∷ []) else Emit n

-- a number gives way to its half, its third and what is left, less one; one number doesn't fit
abbrev pub shares : ℕ → ℕ → Step ℕ ℕ
shares wide n =
    if n == wide then TooWide
    else (if n == 0 then Gone
    else (if n == 1 then Emit n
    else Kids ((n / 2) ∷ (n / 3) ∷ (n - n / 2 - n / 3 - 1) ∷ [])))

-- all steps are lawful where every task and every leaf is
abbrev IsFree : Step ℕ ℕ → Type 0
IsFree step = IsLawfulStep (λ task. Unit {0}) (λ leaf. Unit {0}) step

-- a step that is one of two is lawful where both are
choice : (b : Bool) (one other : Step ℕ ℕ) → IsFree one → IsFree other
    → IsFree (if b then one else other)
choice true one other of_one of_other = of_one
choice false one other of_one of_other = of_other

three : (a b c : ℕ) → IsFree (Kids (a ∷ b ∷ c ∷ []))
three a b c = (lit< tt, lit< tt, (tt, (tt, (tt, tt))))

pub thirteen_is_lawful : (n : ℕ) → IsFree (thirteen n)
thirteen_is_lawful n =
    choice (n == 0) (Kids (1 ∷ 2 ∷ 3 ∷ [])) _ (three 1 2 3)
    (choice (n == 1) (Kids (4 ∷ 5 ∷ 6 ∷ [])) _ (three 4 5 6)
    (choice (n == 2) (Kids (7 ∷ 8 ∷ 9 ∷ [])) _ (three 7 8 9)
    (choice (n == 3) (Kids (10 ∷ 11 ∷ 12 ∷ [])) (Emit n) (three 10 11 12) tt)))

pub two_leaves_are_lawful : (n : ℕ) → IsFree (two_leaves n)
two_leaves_are_lawful n =
    choice (n == 0) (Kids (1 ∷ 2 ∷ [])) (Emit n) (lit< tt, lit< tt, (tt, (tt, tt))) tt

pub shares_are_lawful : (wide n : ℕ) → IsFree (shares wide n)
shares_are_lawful wide n =
    choice (n == wide) TooWide _ tt
    (choice (n == 0) Gone _ tt
    (choice (n == 1) (Emit n) (Kids ((n / 2) ∷ (n / 3) ∷ (n - n / 2 - n / 3 - 1) ∷ [])) tt
    (three (n / 2) (n / 3) (n - n / 2 - n / 3 - 1))))

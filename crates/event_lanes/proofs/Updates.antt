-- A function that is changed at one number.
use Rattle.std.proofs.Common.{◌≡◌, ◌≢◌, ℕ, cond, eqb, ap, eq-eqb, ne_eqb}

module _ {A : Type 0} where
  abbrev pub at : (ℕ → A) → ℕ → A → ℕ → A
  at f place new i = cond (eqb i place) new (f i)

  pub at-here : (f : ℕ → A) (place : ℕ) (new : A) (i : ℕ) → i ≡ place → at f place new i ≡ new
  at-here f place new i same = ap (λ b. cond b new (f i)) (eq-eqb i place same)

  pub at-else : (f : ℕ → A) (place : ℕ) (new : A) (i : ℕ) → i ≢ place → at f place new i ≡ f i
  at-else f place new i apart = ap (λ b. cond b new (f i)) (ne_eqb i place apart)

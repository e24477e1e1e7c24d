-- Induction over lists of one length that are compared from the first.
use Rattle.std.proofs.Common.{◌≡◌, inl, inr, ℕ, zero, suc, ◌<◌, List, [], ◌∷◌, length, refl, sym, ap, subst, arith}
use Rattle.rank_rules.specs.Orders.{IsLessFromFirst}
use Rattle.rank_rules.specs.Laws.{RanksEnd}

-- what holds of a list where it holds of all lesser ones of the length m
abbrev pub IsInherited : ℕ → (List ℕ → Type 0) → Type 0
IsInherited m P = (r : List ℕ) → length r ≡ m → ((s : List ℕ) → length s ≡ m → IsLessFromFirst s r → P s) → P r

-- holds of each of them
pub by_descent : (m : ℕ) (P : List ℕ → Type 0) → IsInherited m P → (r : List ℕ) → length r ≡ m → P r
by_descent zero P step [] e = step [] e (λ s long less. nothing_less s less)
  where
    nothing_less : (s : List ℕ) → IsLessFromFirst s [] → P s
    nothing_less [] less = absurd less
    nothing_less (a ∷ s) less = absurd less
by_descent zero P step (a ∷ r) e = absurd (omega arith)
by_descent (suc m) P step [] e = absurd (omega arith)
by_descent (suc m) P step (a ∷ r) e = heads (suc a) a (omega arith) r (omega arith) (λ Q inherited r long. by_descent m Q inherited r long)
  where
    -- first numbers below b, and the lists behind them
    heads : (b a : ℕ) → a < b → (r : List ℕ) → length r ≡ m → ((Q : List ℕ → Type 0) → IsInherited m Q → (r : List ℕ) → length r ≡ m → Q r) → P (a ∷ r)
    heads zero a low r long behind = absurd (omega arith)
    heads (suc b) a low r long behind = behind (λ s. P (a ∷ s)) (λ s long_s each. step (a ∷ s) (ap suc long_s) (lesser s each (λ c low_c q long_q. heads b c low_c q long_q behind))) r long
      where
        lesser : (s : List ℕ) → ((q : List ℕ) → length q ≡ m → IsLessFromFirst q s → P (a ∷ q)) → ((c : ℕ) → c < b → (q : List ℕ) → length q ≡ m → P (c ∷ q)) → (q : List ℕ) → length q ≡ suc m → IsLessFromFirst q (a ∷ s) → P q
        lesser s each before [] long_q less = absurd less
        lesser s each before (c ∷ q) long_q (inl less) = before c (omega arith) q (omega arith)
        lesser s each before (c ∷ q) long_q (inr (same, less)) = subst (λ d. P (d ∷ q)) (sym same) (each q (omega arith) less)

-- so there is no endless descent from any list
pub ranks_end : RanksEnd
ranks_end m ranks long falls = by_descent m (λ r. (row : ℕ → List ℕ) → row 0 ≡ r → ((i : ℕ) → length (row i) ≡ m) → ((i : ℕ) → IsLessFromFirst (row (suc i)) (row i)) → ⊥) (λ r long_r each row starts long_row falls_row. each (row 1) (long_row 1) (subst (IsLessFromFirst (row 1)) starts (falls_row 0)) (λ i. row (suc i)) refl (λ i. long_row (suc i)) (λ i. falls_row (suc i))) (ranks 0) (long 0) ranks refl long falls

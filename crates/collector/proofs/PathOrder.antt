-- The lexicographic order of paths, by what a comparison answers.
use Rattle.std.proofs.Common.{◌≡◌, ℕ, Bool, true, false, List, [], ◌∷◌, refl, sym, ap, ◌∙◌, subst, is_lt, is_le, nat_cmp, Ordering}
use Rattle.std.specs.Cmp.Lexicographic.{slice_cmp}
use Rattle.std.specs.Ordering.{ordering_reverse}
use Rattle.std.specs.declared.cmp.Ordering.TheVariants.{Less, Equal, Greater}
use Rattle.std.proofs.lemmas.Cmp.{tied_itself, nat_list_cmp_total}
use Rattle.std.proofs.lemmas.Map.Lookups.{exact_bytes}
use Rattle.split_paths.specs.Paths.{IsBefore}

pub less_from_lt : (o : Ordering) → is_lt o ≡ true → o ≡ Less
less_from_lt Less e = refl
less_from_lt Equal e = cc
less_from_lt Greater e = cc

-- a path isn't before itself
pub at_itself : (q : List ℕ) → slice_cmp nat_cmp q q ≡ Equal
at_itself q = tied_itself nat_list_cmp_total q

pub same_path : (p q : List ℕ) → slice_cmp nat_cmp p q ≡ Equal → p ≡ q
same_path p q tied = exact_bytes p q tied

-- the other way round
pub after_before : (p q : List ℕ) → IsBefore p q → slice_cmp nat_cmp q p ≡ Greater
after_before p q less = nat_list_cmp_total.antisymm q p ∙ ap ordering_reverse less

before_by : (p q r : List ℕ) → IsBefore p q → (o : Ordering) → slice_cmp nat_cmp q r ≡ o → is_le o ≡ true → IsBefore p r
before_by p q r less Less is e = nat_list_cmp_total.trans p q r less is
before_by p q r less Equal is e = subst (λ (x : List ℕ). slice_cmp nat_cmp p x ≡ Less) (same_path q r is) less
before_by p q r less Greater is e = cc

-- a path before one that isn't after a third
pub before_from : (p q r : List ℕ) → IsBefore p q → is_le (slice_cmp nat_cmp q r) ≡ true → IsBefore p r
before_from p q r less from = before_by p q r less (slice_cmp nat_cmp q r) refl from

neither_by : (p q : List ℕ) → is_le (slice_cmp nat_cmp q p) ≡ true → (o : Ordering) → slice_cmp nat_cmp p q ≡ o → is_le o ≡ true → p ≡ q
neither_by p q other Less is e = let more : is_le (slice_cmp nat_cmp q p) ≡ false = ap is_le (after_before p q is) in cc
neither_by p q other Equal is e = same_path p q is
neither_by p q other Greater is e = cc

-- two paths of which neither is after the other
pub neither_after : (p q : List ℕ) → is_le (slice_cmp nat_cmp p q) ≡ true → is_le (slice_cmp nat_cmp q p) ≡ true → p ≡ q
neither_after p q one other = neither_by p q other (slice_cmp nat_cmp p q) refl one

pub not_both : (b : Bool) → b ≡ true → ¬ (b ≡ false)
not_both b one other = let bad : true ≡ false = sym one ∙ other in cc

-- no path is before the root's
pub from_root : (p : List ℕ) → is_le (slice_cmp nat_cmp [] p) ≡ true
from_root [] = refl
from_root (i ∷ is) = refl

-- two tests that pass together
pub same_tests : (a b : Bool) → (a ≡ true → b ≡ true) → (b ≡ true → a ≡ true) → a ≡ b
same_tests true b to back = sym (to refl)
same_tests false true to back = back refl
same_tests false false to back = refl

not_true_by : (b a : Bool) → b ≡ a → ¬ (b ≡ true) → b ≡ false
not_true_by b true is never = absurd (never is)
not_true_by b false is never = is

pub not_true : (b : Bool) → ¬ (b ≡ true) → b ≡ false
not_true b never = not_true_by b b refl never

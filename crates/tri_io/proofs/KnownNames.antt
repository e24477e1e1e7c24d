-- Which option a name finds.
use Rattle.std.proofs.Common.{◌≡◌, ◌∙◌, ℕ, Bool, true, false, cond, ◌||◌, List, [], ◌∷◌, Option, Some, None, refl, sym, ap, true≢false}
use Rattle.std.specs.List.{list_any}
use Rattle.std.specs.Str.{bytes_eq}
use Rattle.std.proofs.lemmas.Slice.Eq.{bytes_eq-Decides}
use Rattle.clap.specs.Walk.{Rule as ClapRule, arg_by_id, arg_by_index, arg_by_long, arg_by_short}
use Rattle.tri_io.proofs.Parsers.{filled_rule, filled_rules, none_found}

-- the name is one of these
abbrev pub is_known : List (List ℕ) → List ℕ → Bool
is_known names name = list_any (λ n. bytes_eq n name) names

-- the first of the names that is the name, or what the later ones find
here : (b : Bool) (n name : List ℕ) (rest : Option ClapRule) → (b ≡ true → n ≡ name) → (b ≡ false → rest ≡ Some (filled_rule name))
    → cond b (Some (filled_rule n)) rest ≡ Some (filled_rule name)
here true n name rest same later = ap (λ m. Some (filled_rule m)) (same refl)
here false n name rest same later = later refl

or_false : (b : Bool) → (b || false) ≡ b
or_false true = refl
or_false false = refl

-- the name isn't here, so it is later
later_known : (b k : Bool) → (b || k) ≡ true → b ≡ false → k ≡ true
later_known true k e miss = absurd (true≢false miss)
later_known false k e miss = e

pub by_id : (names : List (List ℕ)) (name : List ℕ) → is_known names name ≡ true → arg_by_id (filled_rules names) name ≡ Some (filled_rule name)
by_id [] name e = absurd (true≢false (sym e))
by_id (n ∷ names) name e =
    here (bytes_eq n name) n name (arg_by_id (filled_rules names) name) (bytes_eq-Decides n name).0
    (λ miss. by_id names name (later_known (bytes_eq n name) (is_known names name) e miss))

pub by_long : (names : List (List ℕ)) (name : List ℕ) → is_known names name ≡ true → arg_by_long (filled_rules names) name ≡ Some (filled_rule name)
by_long [] name e = absurd (true≢false (sym e))
by_long (n ∷ names) name e =
    ap (λ b. cond b (Some (filled_rule n)) (arg_by_long (filled_rules names) name)) (or_false (bytes_eq n name))
    ∙ here (bytes_eq n name) n name (arg_by_long (filled_rules names) name) (bytes_eq-Decides n name).0
    (λ miss. by_long names name (later_known (bytes_eq n name) (is_known names name) e miss))

-- neither the name nor what the later ones find
nowhere : (b k : Bool) (x : ClapRule) (rest : Option ClapRule) → (b || k) ≡ false → (k ≡ false → rest ≡ None) → cond (b || false) (Some x) rest ≡ None
nowhere true k x rest e later = absurd (true≢false e)
nowhere false k x rest e later = later e

pub by_long_unknown : (names : List (List ℕ)) (name : List ℕ) → is_known names name ≡ false → arg_by_long (filled_rules names) name ≡ None
by_long_unknown [] name e = refl
by_long_unknown (n ∷ names) name e =
    nowhere (bytes_eq n name) (is_known names name) (filled_rule n) (arg_by_long (filled_rules names) name) e (by_long_unknown names name)

-- no option has a short name or a place
pub by_short : (names : List (List ℕ)) (x : ℕ) → arg_by_short (filled_rules names) x ≡ None
by_short names x = none_found _ (λ name. refl) names

pub by_index : (names : List (List ℕ)) (i : ℕ) → arg_by_index (filled_rules names) i ≡ None
by_index names i = none_found _ (λ name. refl) names

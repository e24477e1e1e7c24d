-- Words that the parser takes are texts of the options' names, and words that are items of their rules are taken.
use Rattle.std.proofs.Common.{◌≡◌, ◌≢◌, inl, inr, ◌∙◌, ℕ, ◌≤◌, Bool, true, false, cond, ◌==◌, List, [], ◌∷◌, ◌++◌, get_or, map, Option, Some, None, option_and_then, option_map, refl, sym, ap, subst, arith}
use Rattle.std.specs.Prelude.{codes, slice_get}
use Rattle.std.specs.List.{AllByRecursion, Any, find}
use Rattle.std.specs.Str.{bytes_eq}
use Rattle.std.specs.Borrow.{Bor}
use Rattle.std.proofs.lemmas.Bool.{ne_eqb}
use Rattle.std.proofs.lemmas.Slice.Eq.{bytes_eq-Decides}
use Rattle.std.proofs.lemmas.Str.Parse.{digit_from_value}
use Rattle.clap.specs.Lexer.{long_of_rest, short_of_rest, strip_byte}
use Rattle.clap.specs.Matches.{first_value, found_of}
use Rattle.clap.specs.Walk.{Row, first_of, row_of, rows_of}
use Rattle.clap.specs.Simple.{HasMatchesOf}
use Rattle.clap.specs.Faults.{fault_of}
use Rattle.clap.specs.Facts.{Entry}
use Rattle.clap.specs.declared.parser.matches.ArgMatches.{ArgMatches}
use Rattle.clap.specs.declared.parser.matches.MatchedArg.{MatchedArg}
use Rattle.clap.proofs.WalkLemmas.{both, find_row}
use Rattle.tri_io.specs.Commands.{Rule, Item, AreItems, Falls, IsNumberOf, IsOfRule, single_word}
use Rattle.tri_io.specs.Texts.{AreRules, AreTexts, IsPlainName, app_of_names, rule_names, text_of}
use Rattle.tri_io.proofs.Parsers.{simple}
use Rattle.tri_io.proofs.Turns.{IsNoBreak}
use Rattle.tri_io.proofs.Readings.{IsBare, IsFit, reads, taken}
use Rattle.tri_io.proofs.Outcomes.{faults_are, first_is, rows_are}
use Rattle.tri_io.proofs.Distinct.{distinct, new}
use Rattle.tri_io.proofs.Rules.{all_of, any_with, from_any, name_known}

-- ---- what the parser takes

-- the text that the parser found first
found_first : (m : ArgMatches) (name : List ℕ) → first_value (found_of m) name ≡ first_of name (rows_of (found_of m))
found_first m name =
    go (find (λ (e : Entry). bytes_eq e.0.now name) (found_of m).entries.items)
    ∙ ap (λ o. option_and_then (λ (r : Row). slice_get r.values 0) o) (sym (find_row (found_of m).entries.items name))
  where
    heads : (vs : List (Bor (List ℕ))) → option_map (λ v. v.now) (slice_get vs 0) ≡ slice_get (map (λ (v : Bor (List ℕ)). v.now) vs) 0
    heads [] = refl
    heads (v ∷ vs) = refl

    go : (o : Option Entry) → option_and_then (λ (a : MatchedArg). option_map (λ s. s.now) (slice_get a.vals.items 0)) (option_map (λ e. e.1) o)
        ≡ option_and_then (λ (r : Row). slice_get r.values 0) (option_map row_of o)
    go None = refl
    go (Some e) = heads e.1.vals.items

-- words without a break that the parser takes, and the texts that it found
pub record FoundTexts (names words : List (List ℕ)) (m : ArgMatches) : Type 0 where
  pub items : List Item
  pub texts : AreTexts names words items
  pub each : (name : List ℕ) → first_value (found_of m) name ≡ text_of name items

pub found : (names words : List (List ℕ)) (m : ArgMatches) → AllByRecursion IsNoBreak words → fault_of (app_of_names names) words ≡ []
    → HasMatchesOf (app_of_names names) words m → FoundTexts names words m
found names words m breaks none matches =
    let r = reads names words [] None tt breaks (sym (faults_are names words) ∙ none) in
    let rows = (matches (both _ _ (simple names)).0).0 ∙ (rows_are names words ∙ r.rows) in
    record {
      items = r.items;
      texts = record { falls = r.falls; known = r.known; once = distinct r.items [] r.new };
      each = λ name. found_first m name ∙ (ap (first_of name) rows ∙ first_is name r.items);
    }

-- ---- what it takes

-- a number begins with a digit
begins_with_digit : (rule : Rule) (digits : List ℕ) → IsNumberOf rule digits → (48 ≤ get_or digits 0 0) × (get_or digits 0 0 ≤ 57)
begins_with_digit rule [] h = absurd (h.unpadded refl)
begins_with_digit rule (d ∷ ds) h = digit_from_value d h.number.1.0

-- so that it is neither a break nor an option
no_hyphen : (digits : List ℕ) → 48 ≤ get_or digits 0 0 → IsBare digits
no_hyphen [] low = absurd (omega arith)
no_hyphen (d ∷ ds) low =
    let other : (d == 45) ≡ false = ne_eqb _ _ (λ e. omega (arith, e, low)) in
    let ne : d ∷ ds ≢ 45 ∷ 45 ∷ [] = λ e. (let same : d ≡ 45 = cc in omega (arith, low, same)) in (
      not_equal (d ∷ ds) (45 ∷ 45 ∷ []) ne,
      ap (λ b. option_and_then long_of_rest (option_and_then (strip_byte 45) (cond b (Some ds) None))) other,
      ap (λ b. option_and_then short_of_rest (cond b (Some ds) None)) other,
    )
  where
    not_equal : (xs ys : List ℕ) → xs ≢ ys → bytes_eq xs ys ≡ false
    not_equal xs ys ne = go (bytes_eq xs ys) refl
      where
        go : (b : Bool) → bytes_eq xs ys ≡ b → b ≡ false
        go true is = absurd (ne ((bytes_eq-Decides xs ys).0 is))
        go false is = refl

-- an item of a rule may stand in either way
fit_of : (rules : List Rule) → AreRules rules → (item : Item) → Any (IsOfRule item) rules → IsFit (rule_names rules) item
fit_of rules are item some = record {
  plain = from_any (IsPlainName item.name) rules are.plain some (λ rule plain h. subst IsPlainName (sym h.named) plain);
  known = name_known rules item.name (any_with rules (all_of {P = λ _. Unit {0}} rules (λ _. tt)) some (λ rule _ h. sym h.named));
  bare = from_any (IsBare item.value) rules are.plain some (λ rule plain h. no_hyphen item.value (begins_with_digit rule item.value h.value).0);
}

pub all_map : {X : Type 0} {P Q : X → Type 0} (xs : List X) → AllByRecursion P xs → ((x : X) → P x → Q x) → AllByRecursion Q xs
all_map [] p f = tt
all_map (x ∷ xs) p f = (f x p.0, all_map xs p.1 f)

-- a word with a name isn't a break
no_break : (text : List ℕ) → text ≢ [] → IsNoBreak (codes "--" ++ text)
no_break [] some = absurd (some refl)
no_break (x ∷ xs) some = refl

no_break_single : (item : Item) → IsPlainName item.name → IsNoBreak (single_word item)
no_break_single item plain = go item.name plain.0
  where
    go : (name : List ℕ) → name ≢ [] → IsNoBreak (codes "--" ++ (name ++ (codes "=" ++ item.value)))
    go [] some = absurd (some refl)
    go (x ∷ xs) some = refl

pub no_breaks : (names words : List (List ℕ)) (items : List Item) → Falls words items → AllByRecursion (IsFit names) items → AllByRecursion IsNoBreak words
no_breaks names words [] falls fit = subst (λ (ws : List (List ℕ)). AllByRecursion IsNoBreak ws) (sym falls) tt
no_breaks names words (item ∷ items) (rest, inl e, falls) fit =
    subst (λ (ws : List (List ℕ)). AllByRecursion IsNoBreak ws) (sym e) (no_break_single item fit.0.plain, no_breaks names rest items falls fit.1)
no_breaks names words (item ∷ items) (rest, inr e, falls) fit =
    subst (λ (ws : List (List ℕ)). AllByRecursion IsNoBreak ws) (sym e) (no_break item.name fit.0.plain.0, (fit.0.bare.0, no_breaks names rest items falls fit.1))

-- words that are items have no break and no fault
pub items_without_break : (rules : List Rule) (words : List (List ℕ)) (items : List Item) → AreRules rules → AreItems rules words items → AllByRecursion IsNoBreak words
items_without_break rules words items are lawful = no_breaks (rule_names rules) words items lawful.falls (all_map items lawful.known (fit_of rules are))

pub items_are_taken : (rules : List Rule) (words : List (List ℕ)) (items : List Item) → AreRules rules → AreItems rules words items → fault_of (app_of_names (rule_names rules)) words ≡ []
items_are_taken rules words items are lawful =
    let fit = all_map items lawful.known (fit_of rules are) in
    faults_are (rule_names rules) words
    ∙ taken (rule_names rules) items words [] None tt tt (no_breaks (rule_names rules) words items lawful.falls fit) lawful.falls fit (new items lawful.once)

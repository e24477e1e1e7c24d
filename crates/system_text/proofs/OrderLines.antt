-- The order line is read exactly where it spells names that may stand.
use Rattle.std.proofs.Common.{◌≡◌, ◌≢◌, ℕ, ◌+◌, ◌≤◌, Bool, true, false, cond, leb, List, [], ◌∷◌, ◌++◌, length, map, Result, Ok, Err, refl, sym, ap, ◌∙◌, subst, append_assoc, append-nil, length-append, arith}
use Rattle.std.proofs.lemmas.Bool.{leb-false, lt-leb}
use Rattle.std.specs.Prelude.{codes}
use Rattle.std.proofs.lemmas.Cmp.{nat_list_eq_equiv}
use Rattle.std.proofs.lemmas.Map.Keys.{IsDistinct-push}
use Rattle.std.specs.List.{AllByRecursion, IsDistinct, list_any}
use Rattle.std.specs.Str.{bytes_eq}
use Rattle.system_text.specs.Characters.{is_name}
use Rattle.system_text.specs.Tokens.{Token, Placed, Name, tokens, unplaced}
use Rattle.system_text.specs.Faults.{Fault, fault}
use Rattle.system_text.specs.Heads.{reserved_names, word_first, with_name, names_end, names_from, and_then_read, read_order}
use Rattle.system_text.specs.Systems.{SpellsOrder}
use Rattle.system_text.proofs.TokenTexts.{IsWellSpelled, AllByRecursion-append, AllByRecursion-parts, line_is_well_spelled}
use Rattle.system_text.proofs.Lookups.{different_from_front}
use Rattle.system_text.proofs.Passed.{ok_after_test, both_read}
use Rattle.system_text.proofs.HeadWords.{word_is_spelled, word_is_read}

-- at most n different names, none of them reserved
record MayStand (n : ℕ) (names : List (List ℕ)) : Type 0 where
  most : length names ≤ n
  different : IsDistinct bytes_eq names
  free : AllByRecursion (λ x. list_any (bytes_eq x) reserved_names ≡ false) names

-- what is read after these names
record IsReadAfter (n : ℕ) (names : List (List ℕ)) (ts : List Placed) (result : List (List ℕ)) : Type 0 where
  further : List (List ℕ)
  spelled : unplaced ts ≡ map Name further
  all : result ≡ names ++ further
  lawful : MayStand n result
  some : result ≢ []

-- a name that is read may stand after the others
record IsNameAfter (n : ℕ) (names : List (List ℕ)) (t : Placed) (result : List (List ℕ)) : Type 0 where
  name : List ℕ
  spelled : t.token ≡ Name name
  all : result ≡ names ++ name ∷ []
  lawful : MayStand n result

name_is_spelled : (n : ℕ) (names : List (List ℕ)) (t : Placed) (result : List (List ℕ)) → MayStand n names → with_name n names t t.token ≡ Ok result → IsNameAfter n names t result
name_is_spelled n names t result h e = by_token t.token refl e
  where
    by_token : (x : Token) → t.token ≡ x → with_name n names t x ≡ Ok result → IsNameAfter n names t result
    by_token (Name x) d k =
        let free = ok_after_test (list_any (bytes_eq x) reserved_names) (fault 4 t.first) (cond (leb n (length names)) (Err (fault 5 t.first)) (cond (list_any (bytes_eq x) names) (Err (fault 6 t.first)) (Ok (names ++ x ∷ [])))) result k in
        let few = ok_after_test (leb n (length names)) (fault 5 t.first) (cond (list_any (bytes_eq x) names) (Err (fault 6 t.first)) (Ok (names ++ x ∷ []))) result free.1 in
        let new = ok_after_test (list_any (bytes_eq x) names) (fault 6 t.first) (Ok (names ++ x ∷ [])) result few.1 in
        let same : names ++ x ∷ [] ≡ result = cc new.1 in
        let below = leb-false n (length names) few.0 in
        record {
          name = x;
          spelled = d;
          all = sym same;
          lawful = subst (MayStand n) same (record {
            most = omega (arith, length-append names (x ∷ []));
            different = IsDistinct-push nat_list_eq_equiv names x h.different new.0;
            free = AllByRecursion-append (λ x. list_any (bytes_eq x) reserved_names ≡ false) names (x ∷ []) h.free (free.0, tt);
          });
        }
    by_token Token.Plus d k = absurd cc
    by_token _ d k = absurd cc

end_is_some : (end : ℕ) (names result : List (List ℕ)) → names_end end names ≡ Ok result → (result ≡ names) × (result ≢ [])
end_is_some end [] result e = absurd cc
end_is_some end (x ∷ names) result e = (cc, λ d. cc)

then_read : (n end : ℕ) (ts : List Placed) (a : Result (List (List ℕ)) Fault) (result : List (List ℕ)) (P : Type 0) → ((more : List (List ℕ)) → a ≡ Ok more → names_from n end more ts ≡ Ok result → P) → elim a as (λ _. Result (List (List ℕ)) Fault) [ Ok more ↦ names_from n end more ts | Err e ↦ Err e ] ≡ Ok result → P
then_read n end ts (Ok more) result P h e = h more refl e
then_read n end ts (Err d) result P h e = absurd cc

names_are_spelled : (n end : ℕ) (names : List (List ℕ)) (ts : List Placed) (result : List (List ℕ)) → MayStand n names → names_from n end names ts ≡ Ok result → IsReadAfter n names ts result
names_are_spelled n end names [] result h e =
    let last = end_is_some end names result e in
    record { further = []; spelled = refl; all = last.0 ∙ sym (append-nil names); lawful = subst (MayStand n) (sym last.0) h; some = last.1 }
names_are_spelled n end names (t ∷ ts) result h e = then_read n end ts (with_name n names t t.token) result (IsReadAfter n names (t ∷ ts) result) (λ more d k.
    let first = name_is_spelled n names t more h d in
    let rest = names_are_spelled n end more ts result first.lawful k in
    record {
      further = first.name ∷ rest.further;
      spelled = cc (first.spelled, rest.spelled);
      all = rest.all ∙ ap (λ xs. xs ++ rest.further) first.all ∙ append_assoc names (first.name ∷ []) rest.further;
      lawful = rest.lawful;
      some = rest.some;
    }) e

with_name_after : (n : ℕ) (names : List (List ℕ)) (t : Placed) (x : List ℕ) (b c d : Bool) → b ≡ false → c ≡ false → d ≡ false → cond b (Err (fault 4 t.first)) (cond c (Err (fault 5 t.first)) (cond d (Err (fault 6 t.first)) (Ok (names ++ x ∷ [])))) ≡ Ok (names ++ x ∷ [])
with_name_after n names t x true c d e f g = absurd cc
with_name_after n names t x false true d e f g = absurd cc
with_name_after n names t x false false true e f g = absurd cc
with_name_after n names t x false false false e f g = refl

names_are_read : (n end : ℕ) (names more : List (List ℕ)) (ts : List Placed) → unplaced ts ≡ map Name more → names ++ more ≢ [] → MayStand n (names ++ more) → names_from n end names ts ≡ Ok (names ++ more)
names_are_read n end [] [] [] e some h = absurd (some refl)
names_are_read n end (x ∷ names) [] [] e some h = ap (λ xs. Ok xs) (sym (append-nil (x ∷ names)))
names_are_read n end names (y ∷ more) [] e some h = absurd cc
names_are_read n end names [] (t ∷ ts) e some h = absurd cc
names_are_read n end names (y ∷ more) (t ∷ ts) e some h =
    let token : t.token ≡ Name y = cc in
    let rest : unplaced ts ≡ map Name more = cc in
    let total = h.most in
    let long = length-append names (y ∷ more) in
    let free = (AllByRecursion-parts (λ x. list_any (bytes_eq x) reserved_names ≡ false) names (y ∷ more) h.free).1.0 in
    let few = lt-leb n (length names) (omega arith) in
    let new = different_from_front names y more h.different in
    let first : with_name n names t t.token ≡ Ok (names ++ y ∷ []) = rw token (with_name_after n names t y (list_any (bytes_eq y) reserved_names) (leb n (length names)) (list_any (bytes_eq y) names) free few new) in
    let group = append_assoc names (y ∷ []) more in
    ap (λ a. elim a as (λ _. Result (List (List ℕ)) Fault) [ Ok more ↦ names_from n end more ts | Err e ↦ Err e ]) first
    ∙ names_are_read n end (names ++ y ∷ []) more ts rest (λ d. some (sym group ∙ d)) (subst (MayStand n) (sym group) h)
    ∙ ap (λ xs. Ok xs) group

names_are_names : (names : List (List ℕ)) → AllByRecursion IsWellSpelled (map Name names) → AllByRecursion (λ x. is_name x ≡ true) names
names_are_names [] h = tt
names_are_names (x ∷ names) h = (h.0, names_are_names names h.1)

-- a line is read as names exactly where it is their order line
pub order_line_is_read : (n : ℕ) (line : List ℕ) (names : List (List ℕ)) → SpellsOrder n line names → read_order n line ≡ Ok names
order_line_is_read n line names h =
    let after = word_is_read 4 (length line + 1) (codes "order") (tokens line) (map Name names) h.spelled in
    ap (λ a. and_then_read a (names_from n (length line + 1) [])) after.1
    ∙ names_are_read n (length line + 1) [] names after.0 after.2 h.lawful.some (record { most = h.lawful.most; different = h.lawful.different; free = h.lawful.free })

pub order_line_is_spelled : (n : ℕ) (line : List ℕ) (names : List (List ℕ)) → read_order n line ≡ Ok names → SpellsOrder n line names
unfolding IsDistinct
order_line_is_spelled n line names e =
    let parts = both_read (word_first 4 (codes "order") (length line + 1) (tokens line)) (names_from n (length line + 1) []) names e in
    let order = names_are_spelled n (length line + 1) [] parts.between names (record { most = omega arith; different = tt; free = tt }) parts.second in
    let spelled : unplaced (tokens line) ≡ Name (codes "order") ∷ map Name names = word_is_spelled 4 (length line + 1) (codes "order") (tokens line) parts.between parts.first ∙ ap (λ xs. Name (codes "order") ∷ xs) (order.spelled ∙ ap (map Name) (sym order.all)) in
    record {
      spelled = spelled;
      lawful = record {
        some = order.some;
        most = order.lawful.most;
        different = order.lawful.different;
        free = order.lawful.free;
        spelled = names_are_names names (subst (AllByRecursion IsWellSpelled) spelled (line_is_well_spelled line)).1;
      };
    }

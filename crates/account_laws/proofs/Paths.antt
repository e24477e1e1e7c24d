-- Events that weigh the same have the same paths.
use Rattle.std.proofs.Common.{◌≡◌, ◌<◌, ℕ, zero, suc, ◌+◌, Bool, true, false, cond, List, [], ◌∷◌, ◌++◌, refl, sym, ap, ◌∙◌, subst, arith, length}
use Rattle.std.proofs.lemmas.List.Sums.{sum_by-cons}
use Rattle.std.proofs.lemmas.List.Elements.{All-contains, All-from_recursion, All-contains_itself, recursion_from_All}
use Rattle.std.proofs.lemmas.Slice.Eq.{bytes_eq-Decides}
use Rattle.std.specs.List.{sum_by, Contains, AllByRecursion}
use Rattle.std.specs.Str.{bytes_eq}
use Rattle.split_paths.specs.declared.event.Event.{Event}
use Rattle.split_paths.specs.Walk.{path_of, HasEventAt}
use Rattle.split_paths.proofs.Lists.{all_weaker, all_contained}
use Rattle.tally_laws.specs.Weights.{WeighTheSame}

module _ {L : Type 0} (path : List ℕ) where
  -- an event at the path counts once
  abbrev at_path : Event L → ℕ
  at_path event = cond (bytes_eq path (path_of event)) 1 0

  one : (event : Event L) → path_of event ≡ path → at_path event ≡ 1
  one event same =
      let b : bytes_eq path (path_of event) ≡ true = grind (arith, bytes_eq-Decides) in
      ap (λ (c : Bool). cond c 1 0) b

  some : (events : List (Event L)) (event : Event L) → Contains events event → path_of event ≡ path → 0 < sum_by at_path events
  some [] event (i, before, is) same = absurd (omega arith)
  some (e ∷ events) event (zero, before, is) same =
      let cut = sum_by-cons at_path e events in
      let here = one e (ap path_of is ∙ same) in omega arith
  some (e ∷ events) event (suc i, before, is) same =
      let cut = sum_by-cons at_path e events in
      let rest = some events event (i, omega arith, is) same in omega arith

  found_from : (P : List ℕ → Type 0) (event : Event L) (events : List (Event L)) → P (path_of event)
      → (0 < sum_by at_path events → P path)
      → (b : Bool) → bytes_eq path (path_of event) ≡ b → 0 < cond b 1 0 + sum_by at_path events → P path
  found_from P event events here later true is positive = subst P (sym ((bytes_eq-Decides path (path_of event)).0 is)) here
  found_from P event events here later false is positive = later (omega arith)

  -- where it counts, there is one
  found : (P : List ℕ → Type 0) (events : List (Event L)) → AllByRecursion (λ e. P (path_of e)) events → 0 < sum_by at_path events → P path
  found P [] all positive = absurd (omega arith)
  found P (e ∷ events) all positive =
      let cut = sum_by-cons at_path e events in
      found_from P e events all.0 (found P events all.1) (bytes_eq path (path_of e)) refl (omega arith)

-- what holds of the paths of these events holds of the paths of those that weigh the same
pub all_noted : {L : Type 0} (P : List ℕ → Type 0) (root noted : List (Event L)) → WeighTheSame root noted
    → AllByRecursion (λ e. P (path_of e)) noted → AllByRecursion (λ e. P (path_of e)) root
all_noted P root noted same all =
    all_weaker (Contains root) (λ (e : Event _). P (path_of e))
    (λ e has. found (path_of e) P noted all (subst (λ (n : ℕ). 0 < n) (same (at_path (path_of e))) (some (path_of e) root e has refl)))
    root (all_contained root)

pub paths_noted : {L : Type 0} (root noted : List (Event L)) → WeighTheSame root noted
    → (path : List ℕ) → HasEventAt root path → HasEventAt noted path
paths_noted {L} root noted same path has =
    let all = all_noted (HasEventAt noted) root noted same
    (all_weaker (Contains noted) (λ (e : Event L). HasEventAt noted (path_of e)) (λ e in_noted. (e, in_noted, refl)) noted (all_contained noted)) in
    subst (HasEventAt noted) has.2 (All-contains (λ (e : Event L). HasEventAt noted (path_of e)) root has.0 (All-from_recursion (λ (e : Event L). HasEventAt noted (path_of e)) root all) has.1)

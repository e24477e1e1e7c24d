-- The place of a name among different names.
use Rattle.std.proofs.Common.{◌≡◌, ◌∙◌, ℕ, suc, ◌+◌, false, List, [], ◌∷◌, ◌++◌, Some, length, refl, ap, arith}
use Rattle.std.proofs.lemmas.Slice.Eq.{bytes_eq-Decides}
use Rattle.std.specs.List.{IsDistinct}
use Rattle.std.specs.Str.{bytes_eq}
use Rattle.system_text.specs.Factors.{place_of_name}
use Rattle.system_text.proofs.Lookups.{among}

-- among different names the place of a name is where it stands
pub place_among : (i : ℕ) (front : List (List ℕ)) (x : List ℕ) (back : List (List ℕ)) → IsDistinct bytes_eq (front ++ x ∷ back) → place_of_name i (front ++ x ∷ back) x ≡ Some (i + length front)
unfolding IsDistinct
place_among i [] x back different = rw ((bytes_eq-Decides x x).1 refl) (ap Some (omega arith))
place_among i (y ∷ front) x back different =
    rw (among (λ z. bytes_eq y z ≡ false) front x back different.0) (place_among (suc i) front x back different.1 ∙ ap Some (omega arith))

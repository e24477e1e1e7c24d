-- What is known where a test or a reading passed.
use Rattle.std.proofs.Common.{◌≡◌, Bool, true, false, cond, Result, Ok, Err, refl}
use Rattle.system_text.specs.Faults.{Fault}
use Rattle.system_text.specs.Heads.{and_then_read}

-- what follows a test that refuses
pub ok_after_test : {A : Type 0} (b : Bool) (d : Fault) (x : Result A Fault) (y : A) → cond b (Err d) x ≡ Ok y → (b ≡ false) × (x ≡ Ok y)
ok_after_test true d x y e = absurd cc
ok_after_test false d x y e = (refl, e)

-- what follows a test that accepts
pub ok_from_test : {A : Type 0} (b : Bool) (x : A) (d : Fault) (y : A) → cond b (Ok x) (Err d) ≡ Ok y → (b ≡ true) × (x ≡ y)
ok_from_test true x d y e = (refl, cc)
ok_from_test false x d y e = absurd cc

-- where both readings have a result
pub record BothRead {A B : Type 0} (a : Result A Fault) (f : A → Result B Fault) (y : B) : Type 0 where
  pub between : A
  pub first : a ≡ Ok between
  pub second : f between ≡ Ok y

pub both_read : {A B : Type 0} (a : Result A Fault) (f : A → Result B Fault) (y : B) → and_then_read a f ≡ Ok y → BothRead a f y
both_read (Ok x) f y e = record { between = x; first = refl; second = e }
both_read (Err d) f y e = absurd cc

-- Values of eliminations, remainders and reductions at a point where the divisors are zero.
use Rattle.std.proofs.Common.{◌≡◌, ◌≢◌, ◌⊎◌, inl, inr, ◌↔◌, ℕ, zero, suc, true, false, List, [], ◌∷◌, refl, sym, ap, ap₂, ◌∙◌}
use Rattle.polynomials.specs.Rings.{power_in}
use Rattle.polynomials.proofs.RingLaws.{neg_from_plus, neg-plus, neg-nil, plus-nil, times-nil, one-times, times_assoc, times_left_comm, product_nonzero, power_nonzero}
use Rattle.division_rules.specs.Operations.{lead, shifted_lead, initial}
use Rattle.division_rules.specs.Rows.{Row, cross, elimination, is_reduced_by, sparse_remainder, turns, times_row, pseudo_remainder_by, pseudo_remainder, reduction}
use Rattle.division_rules.specs.Chains.{EachRow}
use Rattle.division_rules.specs.Points.{product_of_all, IsInitial, AreInitials}
use Rattle.division_rules.proofs.Settings.{ViewedRing, operations, Evaluation, IsZero, NotZero, AllZero, InitialsNotZero}
use Rattle.division_rules.proofs.Steps.{choose, sparse_remainder_by-keeps, reduction-keeps, Keeps, EachRow-zip}

module _ {A : Type 0} (P : ViewedRing A) where
  -- where the initials of c are among those of d, each member of c has its initial among those of d
  each_initial : (c d : List (Row A)) → ((a : A) → IsInitial (operations P) c a → IsInitial (operations P) d a) → EachRow (λ t. IsInitial (operations P) d (initial (operations P) t.first)) c
  each_initial [] d within = tt
  each_initial (t ∷ c) d within = (within (initial (operations P) t.first) (inl refl), each_initial c d (λ a h. within a (inr h)))

  -- each member of a chain has its initial among those of the chain
  pub own_initials : (chain : List (Row A)) → EachRow (λ t. IsInitial (operations P) chain (initial (operations P) t.first)) chain
  own_initials chain = each_initial chain chain (λ a h. h)

module _ {A B : Type 0} (P : ViewedRing A) (E : Evaluation P B) where
  open E.values use {◌⊕◌, ◌⊗◌, nil, one, neg}
  open E use {val}

  -- the value of a negative
  pub val-neg : (f : A) → val (P.ring.neg f) ≡ neg (val f)
  val-neg f = neg_from_plus E.values (val (P.ring.neg f)) (val f) (sym (E.is_value.val-plus (P.ring.neg f) f) ∙ ap val (neg-plus P.ring f) ∙ E.is_value.val-nil)

  -- the value of l f - m g where g is zero
  pub val-cross : (l m f g : A) → IsZero P E g → val (cross (operations P) l m f g) ≡ val l ⊗ val f
  val-cross l m f g z = E.is_value.val-plus (P.ring.◌⊗◌ l f) (P.ring.neg (P.ring.◌⊗◌ m g)) ∙ ap₂ ◌⊕◌ (E.is_value.val-times l f) (val-neg (P.ring.◌⊗◌ m g) ∙ ap neg (E.is_value.val-times m g ∙ ap (λ x. val m ⊗ x) z ∙ times-nil E.values (val m)) ∙ neg-nil E.values) ∙ plus-nil E.values (val l ⊗ val f)

  -- an elimination by what is zero multiplies the value by that of the lead
  pub val-elimination : (v : ℕ) (f g : Row A) → IsZero P E g.first → val (elimination (operations P) v f g).first ≡ val (lead (operations P) v g.first) ⊗ val f.first
  val-elimination v f g z = val-cross (lead (operations P) v g.first) (shifted_lead (operations P) v f.first g.first) f.first g.first z

  -- and a pseudo-remainder by a power of it
  pub val-pseudo_remainder_by : (v : ℕ) (g : Row A) → IsZero P E g.first → (k : ℕ) (f : Row A) → val (pseudo_remainder_by (operations P) v g k f).first ≡ power_in E.values (val (lead (operations P) v g.first)) k ⊗ val f.first
  val-pseudo_remainder_by v g z zero f = sym (one-times E.values (val f.first))
  val-pseudo_remainder_by v g z (suc k) f = val-pseudo_remainder_by v g z k step ∙ ap (λ x. power_in E.values l k ⊗ x) (choose (λ h. val h.first ≡ l ⊗ val f.first) (is_reduced_by (operations P) v g f) (times_row (operations P) (lead (operations P) v g.first) f) (elimination (operations P) v f g) (λ e. E.is_value.val-times (lead (operations P) v g.first) f.first) (λ e. val-elimination v f g z)) ∙ times_left_comm E.values (power_in E.values l k) l (val f.first) ∙ sym (times_assoc E.values l (power_in E.values l k) (val f.first))
    where
      l : B
      l = val (lead (operations P) v g.first)

      step : Row A
      step = elim (is_reduced_by (operations P) v g f) [ true ↦ times_row (operations P) (lead (operations P) v g.first) f | false ↦ elimination (operations P) v f g ]

  -- with the power d - e + 1 for the degrees d and e
  pub val-pseudo_remainder : (v : ℕ) (f g : Row A) → IsZero P E g.first → val (pseudo_remainder (operations P) v f g).first ≡ power_in E.values (val (lead (operations P) v g.first)) (turns (operations P) v f.first g.first) ⊗ val f.first
  val-pseudo_remainder v f g z = val-pseudo_remainder_by v g z (turns (operations P) v f.first g.first) f

  -- so it is zero where both rows are
  pub zero-pseudo_remainder : (v : ℕ) (f g : Row A) → IsZero P E f.first → IsZero P E g.first → IsZero P E (pseudo_remainder (operations P) v f g).first
  zero-pseudo_remainder v f g zf zg =
      let scale : B = power_in E.values (val (lead (operations P) v g.first)) (turns (operations P) v f.first g.first) in
      val-pseudo_remainder v f g zg ∙ ap (λ x. scale ⊗ x) zf ∙ times-nil E.values scale

  -- a product of values other than 0 is not 0
  pub product_not_zero : (x y : B) → x ≢ nil → y ≢ nil → x ⊗ y ≢ nil
  product_not_zero = product_nonzero E.values E.integral

  -- where the lead of the divisor is not zero, the pseudo-remainder is zero only where f is
  pub zero_iff_pseudo_remainder_zero : (v : ℕ) (f g : Row A) → IsZero P E g.first → NotZero P E (lead (operations P) v g.first) → IsZero P E f.first ↔ IsZero P E (pseudo_remainder (operations P) v f g).first
  zero_iff_pseudo_remainder_zero v f g zg hg = (λ zf. zero-pseudo_remainder v f g zf zg, λ z. go (E.integral scale (val f.first) (sym (val-pseudo_remainder v f g zg) ∙ z)))
    where
      scale : B
      scale = power_in E.values (val (lead (operations P) v g.first)) (turns (operations P) v f.first g.first)

      go : (scale ≡ nil) ⊎ (val f.first ≡ nil) → IsZero P E f.first
      go (inl e) = absurd (power_nonzero E.values E.integral E.one_not_nil (val (lead (operations P) v g.first)) (turns (operations P) v f.first g.first) hg e)
      go (inr e) = e

  -- a sparse remainder multiplies the value by a power of that of the lead
  pub val-sparse_remainder : (v : ℕ) (f g : Row A) → IsZero P E g.first → (j : ℕ) × (val (sparse_remainder (operations P) v f g).first ≡ power_in E.values (val (lead (operations P) v g.first)) j ⊗ val f.first)
  val-sparse_remainder v f g z = sparse_remainder_by-keeps P (λ h. (j : ℕ) × (val h.first ≡ power_in E.values l j ⊗ val f.first)) v g (λ h e i. (suc i.0, val-elimination v h g z ∙ ap (λ x. l ⊗ x) i.1 ∙ sym (times_assoc E.values l (power_in E.values l i.0) (val f.first)))) (turns (operations P) v f.first g.first) f (0, sym (one-times E.values (val f.first)))
    where
      l : B
      l = val (lead (operations P) v g.first)

  -- y is x times the value of a product of initials of the chain
  abbrev pub IsScaled : List (Row A) → B → B → Type 0
  IsScaled chain x y = (js : List A) × AreInitials (operations P) chain js × (y ≡ val (product_of_all (operations P) js) ⊗ x)

  -- what is itself is scaled by no initial
  pub scaled-same : (chain : List (Row A)) (x : B) → IsScaled chain x x
  scaled-same chain x = ([], tt, sym (ap (λ y. y ⊗ x) E.is_value.val-one ∙ one-times E.values x))

  -- one initial more
  pub scaled-more : (chain : List (Row A)) (x y z : B) (a : A) → IsInitial (operations P) chain a → z ≡ val a ⊗ y → IsScaled chain x y → IsScaled chain x z
  scaled-more chain x y z a i e h = (a ∷ h.0, (i, h.1), e ∙ ap (λ w. val a ⊗ w) h.2 ∙ sym (times_assoc E.values (val a) (val (product_of_all (operations P) h.0)) x) ∙ ap (λ w. w ⊗ x) (sym (E.is_value.val-times a (product_of_all (operations P) h.0))))

  -- the reduction by a chain that is zero multiplies the value by initials of the chain
  pub val-reduction : (chain : List (Row A)) → AllZero P E chain → (f : Row A) → IsScaled chain (val f.first) (val (reduction (operations P) chain f).first)
  val-reduction chain zeros f = reduction-keeps P Q chain (EachRow-zip (λ t. IsZero P E t.first) (λ t. IsInitial (operations P) chain (initial (operations P) t.first)) (Keeps P Q) chain (λ t z i h e scaled. scaled-more chain (val f.first) (val h.first) (val (elimination (operations P) (P.views.main t.first) h t).first) (initial (operations P) t.first) i (val-elimination (P.views.main t.first) h t z) scaled) zeros (own_initials P chain)) f (scaled-same chain (val f.first))
    where
      Q : Row A → Type 0
      Q h = IsScaled chain (val f.first) (val h.first)

  -- so it is zero where f is
  pub zero-reduction : (chain : List (Row A)) → AllZero P E chain → (f : Row A) → IsZero P E f.first → IsZero P E (reduction (operations P) chain f).first
  zero-reduction chain zeros f z =
      let scaled = val-reduction chain zeros f in
      scaled.2 ∙ ap (λ x. val (product_of_all (operations P) scaled.0) ⊗ x) z ∙ times-nil E.values (val (product_of_all (operations P) scaled.0))

  -- an initial of a chain is not zero where those of the members are not
  pub initial_not_zero : (chain : List (Row A)) → InitialsNotZero P E chain → (a : A) → IsInitial (operations P) chain a → NotZero P E a
  initial_not_zero [] each a h = absurd h
  initial_not_zero (t ∷ chain) each a (inl e) = λ z. each.0 (ap val (sym e) ∙ z)
  initial_not_zero (t ∷ chain) each a (inr h) = initial_not_zero chain each.1 a h

  -- nor is a product of them
  pub initials_not_zero : (chain : List (Row A)) → InitialsNotZero P E chain → (js : List A) → AreInitials (operations P) chain js → NotZero P E (product_of_all (operations P) js)
  initials_not_zero chain each [] h z = E.one_not_nil (sym E.is_value.val-one ∙ z)
  initials_not_zero chain each (a ∷ js) h z = product_not_zero (val a) (val (product_of_all (operations P) js)) (initial_not_zero chain each a h.0) (initials_not_zero chain each js h.1) (sym (E.is_value.val-times a (product_of_all (operations P) js)) ∙ z)

  -- so what is scaled by initials that are not zero is zero only where it was
  pub scaled_zero : (chain : List (Row A)) → InitialsNotZero P E chain → (x y : B) → IsScaled chain x y → y ≡ nil → x ≡ nil
  scaled_zero chain each x y scaled z = go (E.integral (val (product_of_all (operations P) scaled.0)) x (sym scaled.2 ∙ z))
    where
      go : (val (product_of_all (operations P) scaled.0) ≡ nil) ⊎ (x ≡ nil) → x ≡ nil
      go (inl e) = absurd (initials_not_zero chain each scaled.0 scaled.1 e)
      go (inr e) = e

  -- where the chain is zero and its initials are not, f is zero exactly where its reduction is
  pub zero_iff_reduction_zero : (chain : List (Row A)) → AllZero P E chain → InitialsNotZero P E chain → (f : Row A) → IsZero P E f.first ↔ IsZero P E (reduction (operations P) chain f).first
  zero_iff_reduction_zero chain zeros each f = (zero-reduction chain zeros f, scaled_zero chain each (val f.first) (val (reduction (operations P) chain f).first) (val-reduction chain zeros f))

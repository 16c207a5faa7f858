-- What the laws of a field give. Assumes nothing.
use Rattle.std.specs.Prelude.{◌≡◌, Bool, true, false, ◌⊎◌, ◌≢◌, refl}
use Rattle.std.proofs.Common.{sym, ap, ◌∙◌, inl, inr}
use Rattle.std.proofs.lemmas.Bool.{false≢true}
use Rattle.fields.specs.Laws.{FieldLaws}

-- of an operation that commutes and associates
left_comm : {F : Type 0} (op : F → F → F) → ((a b : F) → op a b ≡ op b a) → ((a b c : F) → op (op a b) c ≡ op a (op b c)) → (a b c : F) → op a (op b c) ≡ op b (op a c)
left_comm op comm assoc a b c = sym (assoc a b c) ∙ ap (λ x. op x c) (comm a b) ∙ assoc b a c

module _ {F : Type 0} {zero one marker : F} {sum product : F → F → F} {inverse : F → F} {same : F → F → Bool} (laws : FieldLaws zero one marker sum product inverse same) where
  -- Eight of the laws, as lemmas: a ruleset, as `ring` below, lists no field of a record.
  pub sum_comm : (a b : F) → sum a b ≡ sum b a
  sum_comm = laws.sum_comm

  pub sum_assoc : (a b c : F) → sum (sum a b) c ≡ sum a (sum b c)
  sum_assoc = laws.sum_assoc

  pub sum_zero : (a : F) → sum a zero ≡ a
  sum_zero = laws.sum_zero

  pub sum_self : (a : F) → sum a a ≡ zero
  sum_self = laws.sum_self

  pub product_comm : (a b : F) → product a b ≡ product b a
  product_comm = laws.product_comm

  pub product_assoc : (a b c : F) → product (product a b) c ≡ product a (product b c)
  product_assoc = laws.product_assoc

  pub product_one : (a : F) → product a one ≡ a
  product_one = laws.product_one

  pub distributes : (a b c : F) → product a (sum b c) ≡ sum (product a b) (product a c)
  distributes = laws.distributes

  pub sum_left_comm : (a b c : F) → sum a (sum b c) ≡ sum b (sum a c)
  sum_left_comm = left_comm sum sum_comm sum_assoc

  pub product_left_comm : (a b c : F) → product a (product b c) ≡ product b (product a c)
  product_left_comm = left_comm product product_comm product_assoc

  pub zero_sum : (a : F) → sum zero a ≡ a
  zero_sum a = sum_comm zero a ∙ sum_zero a

  pub one_product : (a : F) → product one a ≡ a
  one_product a = product_comm one a ∙ product_one a

  pub right_distributes : (a b c : F) → product (sum a b) c ≡ sum (product a c) (product b c)
  right_distributes a b c = simp (product_comm, distributes)

  -- equal summands cancel
  pub sum_cancel : (a b : F) → sum a (sum a b) ≡ b
  sum_cancel a b = sym (sum_assoc a a b) ∙ ap (λ x. sum x b) (sum_self a) ∙ zero_sum b

  pub product_zero : (a : F) → product a zero ≡ zero
  product_zero a = ap (product a) (sym (sum_self zero)) ∙ distributes a zero zero ∙ sum_self (product a zero)

  pub zero_product : (a : F) → product zero a ≡ zero
  zero_product a = product_comm zero a ∙ product_zero a

  -- Multiplies out, sorts, and cancels equal summands: `simp (ring, laws)` proves an equation of sums and products that holds in every field.
  pub ruleset ring = (sum_comm, sum_assoc, sum_left_comm, sum_zero, zero_sum, sum_self, sum_cancel, product_comm, product_assoc, product_left_comm, product_one, one_product, product_zero, zero_product, distributes, right_distributes)

  pub equal_of_zero_sum : (a b : F) → sum a b ≡ zero → a ≡ b
  equal_of_zero_sum a b e = sym (sum_zero a) ∙ ap (sum a) (sym e) ∙ sum_cancel a b

  -- `same` decides equality
  pub equal? : (a b : F) → Dec (a ≡ b)
  equal? a b = decided (same a b) refl
    where
      decided : (t : Bool) → same a b ≡ t → Dec (a ≡ b)
      decided true e = yes (laws.same_means a b e)
      decided false e = no (λ p. false≢true (sym e ∙ laws.same_holds a b p))

  -- the inverse undoes a product
  pub inverse_product : (a b : F) → (a ≢ zero) → product (inverse a) (product a b) ≡ b
  inverse_product a b n =
      let undone : product (inverse a) a ≡ one = product_comm (inverse a) a ∙ laws.inverts a n in
      sym (product_assoc (inverse a) a b) ∙ ap (λ x. product x b) undone ∙ one_product b

  pub no_zero_divisors : (a b : F) → product a b ≡ zero → (a ≡ zero) ⊎ (b ≡ zero)
  no_zero_divisors a b e = elim (equal? a zero) [ yes p ↦ inl p | no n ↦ inr (other n) ]
    where
      other : (a ≢ zero) → b ≡ zero
      other n = sym (inverse_product a b n) ∙ ap (product (inverse a)) e ∙ product_zero (inverse a)

  pub inverse_unique : (a b : F) → product a b ≡ one → b ≡ inverse a
  inverse_unique a b e = sym (inverse_product a b not_zero) ∙ ap (product (inverse a)) e ∙ product_one (inverse a)
    where
      not_zero : a ≡ zero → ⊥
      not_zero p = laws.zero_is_not_one (sym (zero_product b) ∙ ap (λ x. product x b) (sym p) ∙ e)

  pub inverse_unique_zero : (a b : F) → a ≡ zero → b ≡ zero → b ≡ inverse a
  inverse_unique_zero a b p q = q ∙ sym laws.inverse_zero ∙ ap inverse (sym p)

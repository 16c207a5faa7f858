-- The pairs over a field are a field. Assumes nothing.
use Rattle.std.specs.Prelude.{◌≡◌, Bool, ◌≢◌}
use Rattle.std.proofs.Common.{sym, ap, ◌∙◌, ⊎_elim}
use Rattle.std.proofs.Math.Bool.{and-eq-true_iff}
use Rattle.fields.specs.declared.pair.Pair.{Pair}
use Rattle.fields.specs.Laws.{FieldLaws}
use Rattle.fields.specs.Pairs.{pair, pair_zero, pair_one, pair_marker, pair_sum, pair_product, pair_norm, pair_inverse, pair_same}
use Rattle.fields.specs.FieldFacts.{ring, equal_of_zero_sum, equal?, no_zero_divisors, zero_product}

-- equal halves, equal pairs
pub pair_path : {F : Type 0} {p q : Pair F} → p.high ≡ q.high → p.low ≡ q.low → p ≡ q
pair_path e f = λ i. pair (e i) (f i)

module _ {F : Type 0} {zero one marker : F} {sum product : F → F → F} {inverse : F → F} {same : F → F → Bool} (laws : FieldLaws zero one marker sum product inverse same) where
  abbrev norm : Pair F → F
  norm = pair_norm marker sum product

  -- Δ(0X + l) = ll
  norm_low : (l : F) → norm (pair zero l) ≡ product l l
  norm_low l = simp (ring, laws)

  -- Δ(X + t) = (tt + t) + m
  norm_monic : (t : F) → norm (pair one t) ≡ sum (sum (product t t) t) marker
  norm_monic t = simp (ring, laws)

  -- Δ(up) = uuΔ(p)
  norm_scaled : (p : Pair F) (u : F) → norm (pair (product p.high u) (product p.low u)) ≡ product (norm p) (product u u)
  norm_scaled p u = simp (ring, laws)

  -- Δ(hX + l) = 0 with h not 0 would make l/h a root of tt + t = m
  norm_root : (p : Pair F) → norm p ≡ zero → (p.high ≢ zero) → ⊥
  norm_root p e n =
      let u = inverse p.high in
      let t = product p.low u in
      let scaled : norm (pair one t) ≡ product (norm p) (product u u) = ap (λ x. norm (pair x t)) (sym (laws.inverts p.high n)) ∙ norm_scaled p u in
      let monic : norm (pair one t) ≡ zero = scaled ∙ ap (λ x. product x (product u u)) e ∙ zero_product laws (product u u) in
      laws.no_root t (equal_of_zero_sum laws _ _ (sym (norm_monic t) ∙ monic))

  -- Δ is 0 only at 0
  norm_zero : (p : Pair F) → norm p ≡ zero → p ≡ pair_zero zero
  norm_zero p e = elim (equal? laws p.high zero) [ yes z ↦ pair_path z (low_zero z) | no n ↦ absurd (norm_root p e n) ]
    where
      low_zero : p.high ≡ zero → p.low ≡ zero
      low_zero z =
          let square : product p.low p.low ≡ zero = sym (norm_low p.low) ∙ ap (λ x. norm (pair x p.low)) (sym z) ∙ e in
          ⊎_elim (λ k. k) (λ k. k) (no_zero_divisors laws p.low p.low square)

  -- (hX + l)(hsX + (h + l)s) = Δs
  norm_product : (p : Pair F) (s : F) → pair_product marker sum product p (pair (product p.high s) (product (sum p.high p.low) s)) ≡ pair zero (product (norm p) s)
  norm_product p s = simp (ring, laws)

  pub pair_laws : FieldLaws (pair_zero zero) (pair_one zero one) (pair_marker zero marker) (pair_sum sum) (pair_product marker sum product) (pair_inverse marker sum product inverse) (pair_same same)
  pair_laws = record {
    sum_comm = λ a b. simp (ring, laws);
    sum_assoc = λ a b c. simp (ring, laws);
    sum_zero = λ a. simp (ring, laws);
    sum_self = λ a. simp (ring, laws);
    product_comm = λ a b. simp (ring, laws);
    product_assoc = λ a b c. simp (ring, laws);
    product_one = λ a. simp (ring, laws);
    distributes = λ a b c. simp (ring, laws);
    zero_is_not_one = λ e. laws.zero_is_not_one (ap (λ x. x.low) e);
    inverse_zero = simp (ring, laws);
    inverts = λ a n. norm_product a (inverse (norm a)) ∙ ap (pair zero) (laws.inverts (norm a) (λ e. n (norm_zero a e)));
    -- the high half of tt + t is hh + h
    no_root = λ t e. laws.no_root t.high (simp (ring, laws) (simp (ring, laws) at (ap (λ x. x.high) e)));
    same_means = λ a b e. let both = (and-eq-true_iff _ _).0 e in pair_path (laws.same_means _ _ both.0) (laws.same_means _ _ both.1);
    same_holds = λ a b e. (and-eq-true_iff _ _).1 (laws.same_holds _ _ (ap (λ x. x.high) e), laws.same_holds _ _ (ap (λ x. x.low) e));
  }

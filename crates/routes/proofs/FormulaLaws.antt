-- Each formula inverts. Assumes nothing.
use Rattle.std.proofs.Common.{◌≡◌, ℕ, ◌<◌, cond, eqb, sym, refl, ap, ◌∙◌, subst}
use Rattle.fields.specs.Bytes.{byte, byte_sum, byte_product}
use Rattle.fields.specs.declared.byte.Byte.{Byte}
use Rattle.fields.specs.FieldFacts.{zero_product, product_left_comm}
use Rattle.fields.specs.PowersLemmas.{first_power, joined_powers, powers_of_powers}
use Rattle.fields.specs.WordLaws.{byte_laws}
use Rattle.routes.specs.Formulas.{byte_power, twisted, fourth, eighth}
use Rattle.routes.specs.Inverting.{Inverts}
use Rattle.routes.proofs.Cubes.{zero_twist}
use Rattle.routes.proofs.Inversions.{shown, full_order, zero_powered, cube_power, picked, picks, picked_value, twist_picks}
use Rattle.routes.proofs.Subfield.{fourth_is, eighth_is, entry_of, entry_inverts}

-- s = a^84, and r, or s where r is 00
pub power_inverts : (a : ℕ) (s r : Byte) (v : ℕ) → a < 256 → s ≡ byte_power 84 (byte a) → r ≡ twisted (byte a) s → v ≡ cond (eqb r.value 0) s.value r.value → Inverts a v
power_inverts a s r v h is-s is_r is-v = subst (Inverts a) (picked_value r s ∙ sym is-v) (shown a (picked r s) h inverted at_zero)
  where
    inverted : (byte a ≡ byte 0 → ⊥) → byte_product (byte a) (picked r s) ≡ byte 1
    inverted n =
        ap (λ x. byte_product (byte a) (picked x s)) is_r
        ∙ twist_picks (byte a) s (ap (λ x. let c = byte_product (byte a) x in byte_product (byte_product c c) c) is-s ∙ cube_power (byte a) 84 ∙ full_order (byte a) n)

    zero_s : byte a ≡ byte 0 → s ≡ byte 0
    zero_s z = is-s ∙ zero_powered 83 (byte a) z

    at_zero : byte a ≡ byte 0 → picked r s ≡ byte 0
    at_zero z = picks (λ x. x ≡ byte 0) r s (λ _. zero_s z) (λ n. is_r ∙ ap (twisted (byte a)) (zero_s z) ∙ zero_twist byte_laws (byte a))

module _ (a : ℕ) (h : a < 256) (a16 b : Byte) (is_a16 : a16 ≡ byte_power 16 (byte a)) (is_b : b ≡ byte_product a16 (byte a)) where
  pub seventeenth : b ≡ byte_power 17 (byte a)
  seventeenth = joined_powers byte_laws (byte a) 16 1 is_b is_a16 (first_power byte_laws (byte a))

  -- what inverts a^17, times a^16, inverts a
  pub times_sixteenth : (u : Byte) → ((byte a ≡ byte 0 → ⊥) → byte_product b u ≡ byte 1) → Inverts a (byte_product a16 u).value
  times_sixteenth u inverted =
      shown a (byte_product a16 u) h
      (λ n. product_left_comm byte_laws (byte a) a16 u ∙ sym (byte_laws.product_assoc a16 (byte a) u) ∙ ap (λ x. byte_product x u) (sym is_b) ∙ inverted n)
      (λ z. ap (λ x. byte_product x u) (is_a16 ∙ zero_powered 15 (byte a) z) ∙ zero_product byte_laws u)

  -- b^4, b^8 by bits, t = b·b^8 + b^4, and t, or b^4 where t is 00
  pub split_inverts : (b4 b8 t u : Byte) → b4 ≡ fourth b → b8 ≡ eighth b → t ≡ byte_sum (byte_product b b8) b4 → u ≡ picked t b4 → Inverts a (byte_product a16 u).value
  split_inverts b4 b8 t u is-b4 is-b8 is-t is-u = times_sixteenth u inverted
    where
      of_17 : (f g : Byte → Byte) → f (byte_power 17 (byte a)) ≡ g (byte_power 17 (byte a)) → f b ≡ g b
      of_17 f g e = ap f seventeenth ∙ e ∙ sym (ap g seventeenth)

      p4 : b4 ≡ byte_power 4 b
      p4 = is-b4 ∙ of_17 fourth (byte_power 4) (fourth_is (byte a))

      p8 : b8 ≡ byte_power 8 b
      p8 = is-b8 ∙ of_17 eighth (byte_power 8) (eighth_is (byte a))

      p1 : b ≡ byte_power 1 b
      p1 = first_power byte_laws b

      twist : t ≡ twisted b b4
      twist =
          is-t
          ∙ ap (λ x. byte_sum x b4)
          (joined_powers byte_laws b 1 8 refl p1 p8 ∙ sym (joined_powers byte_laws b 5 4 refl (joined_powers byte_laws b 1 4 refl p1 p4) p4))

      cube : (byte a ≡ byte 0 → ⊥) → let c = byte_product b b4 in byte_product (byte_product c c) c ≡ byte 1
      cube n =
          ap (λ x. let c = byte_product b x in byte_product (byte_product c c) c) p4 ∙ cube_power b 4
          ∙ ap (byte_power 15) seventeenth ∙ powers_of_powers byte_laws (byte a) 15 17 ∙ full_order (byte a) n

      inverted : (byte a ≡ byte 0 → ⊥) → byte_product b u ≡ byte 1
      inverted n = ap (byte_product b) (is-u ∙ ap (λ x. picked x b4) twist) ∙ twist_picks b b4 (cube n)

  pub table_inverts : (u : Byte) → u ≡ entry_of b → Inverts a (byte_product a16 u).value
  table_inverts u is-u =
      times_sixteenth u (λ n. ap (byte_product b) is-u ∙ ap (λ x. byte_product x (entry_of x)) seventeenth ∙ entry_inverts (byte a) n)

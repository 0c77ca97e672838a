-- Contents as DER writes them, and its rules.
use Rattle.std.proofs.Common.{◌≡◌, ℕ, Bool, true, false, List, [], ◌∷◌, Result, Ok, Err, refl, sym, ap, subst, inl, inr, arith}
use Rattle.std.specs.Prelude.{◌==◌, ◌||◌, ◌⊎◌, if◌then◌else◌}
use Rattle.std.proofs.lemmas.Bool.Decides.{nat_tests}
use Rattle.der_base.specs.declared.header.Class.{Class}
use Rattle.der_base.specs.declared.header.Class.TheVariants.{Universal}
use Rattle.der_base.specs.declared.rules.Rules.TheVariants.{Ber, Der}
use Rattle.der_contents.specs.declared.content_error.ContentError.{ContentError}
use Rattle.der_contents.specs.ContentRules.{AllHold, Checks, IsContent, IsFirstBroken, Rule, bit_string_rules, boolean_rules, content_rules}
use Rattle.der_elements.specs.declared.cause.Cause.{Cause}
use Rattle.der_writer.specs.Octets.{cleared}
use Rattle.der_canon.specs.NoDer.{ChecksForm, ChecksValue, HasNoForm, rules_of}
use Rattle.der_canon.specs.Values.{bits_in_der, boolean_in_der, boolean_octet, content_in_der}
use Rattle.der_canon.proofs.Contents.{cleared_zero, none_cleared}

pub none_broken : (rs : List Rule) (e : ContentError) → AllHold rs → IsFirstBroken rs e → ⊥
none_broken [] e h k = k
none_broken (r ∷ rs) e h (inl k) = k.0 h.0
none_broken (r ∷ rs) e h (inr k) = none_broken rs e h.1 k.1

truth : (p : Bool) (x : ℕ) → x ≡ (if p then 0 else 255) → (x ∷ [] ≡ 0 ∷ []) ⊎ (x ∷ [] ≡ 255 ∷ [])
truth true x e = inl (ap (λ y. y ∷ []) e)
truth false x e = inr (ap (λ y. y ∷ []) e)

boolean_form : (w : List ℕ) (x : Result (Unit {0}) ContentError) → Checks (boolean_rules Ber w) x → Checks (boolean_rules Der (boolean_in_der w)) x
boolean_form [] (Ok u) h = absurd (omega (arith, h.0))
boolean_form (b ∷ []) (Ok u) h = (refl, (truth (b == 0) (boolean_octet b) refl, tt))
boolean_form (b ∷ c ∷ w) (Ok u) h = absurd (omega (arith, h.0))
boolean_form [] (Err e) (inl h) = inl ((λ k. absurd (omega (arith, k))), h.1)
boolean_form (b ∷ []) (Err e) (inl h) = absurd (h.0 refl)
boolean_form (b ∷ c ∷ w) (Err e) (inl h) = inl ((λ k. absurd (omega (arith, k))), h.1)
boolean_form w (Err e) (inr h) = absurd h.1

bits_form : (w : List ℕ) (x : Result (Unit {0}) ContentError) → Checks (bit_string_rules Ber w) x → Checks (bit_string_rules Der (bits_in_der w)) x
bits_form [] x h = h
bits_form (u ∷ w) (Ok x) h = (h.0, ((λ k. h.1.0 (none_cleared u w k)), (cleared_zero u w h.0 h.1.0, tt)))
bits_form (u ∷ w) (Err e) (inl h) = inl h
bits_form (u ∷ w) (Err e) (inr (few, inl h)) = inr (few, inl ((λ k. h.0 (λ q. k (ap (cleared u) q))), h.1))
bits_form (u ∷ w) (Err e) (inr (few, inr h)) = absurd h.1

of_type : (t : ℕ) (w : List ℕ) (x : Result (Unit {0}) ContentError) (p q : Bool) → (t == 1) ≡ p → (t == 3) ≡ q → Checks (content_rules (if p || q then Ber else Der) t w) x
    → Checks (content_rules Der t (if p then boolean_in_der w else (if q then bits_in_der w else w))) x
of_type t w x true q e f h =
    let k : t ≡ 1 = grind (arith, nat_tests) in
    subst (λ z. Checks (content_rules Der z (boolean_in_der w)) x) (sym k) (boolean_form w x (subst (λ z. Checks (content_rules Ber z w) x) k h))
of_type t w x false true e f h =
    let k : t ≡ 3 = grind (arith, nat_tests) in
    subst (λ z. Checks (content_rules Der z (bits_in_der w)) x) (sym k) (bits_form w x (subst (λ z. Checks (content_rules Ber z w) x) k h))
of_type t w x false false e f h = h

-- a content that keeps the rules that are checked keeps those of DER as DER writes it, and one that breaks a rule breaks that
pub in_form : (t : ℕ) (w : List ℕ) (x : Result (Unit {0}) ContentError) → Checks (content_rules (rules_of t) t w) x → Checks (content_rules Der t (content_in_der t w)) x
in_form t w x h = of_type t w x (t == 1) (t == 3) refl refl h

-- the content of an element of class Universal was checked
pub of_universal : (k : Class) (t : ℕ) (w v : List ℕ) (r : Result (Unit {0}) Cause) → k ≡ Universal → v ≡ w → ChecksForm t w r → ChecksValue k t v r
of_universal k t w v (Ok x) u e h = λ q. subst (λ z. IsContent Der t (content_in_der t z)) (sym e) h
of_universal k t w v (Err c) u e h = (u, subst (λ z. HasNoForm t z c) (sym e) h)

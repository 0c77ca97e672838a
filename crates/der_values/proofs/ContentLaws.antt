-- The contents of primitive and of constructed elements.
use Rattle.std.proofs.Common.{◌≡◌, ℕ, Bool, true, false, List, Result, Ok, Err, sym, inl, inr, refl}
use Rattle.std.specs.Prelude.{◌||◌}
use Rattle.std.proofs.lemmas.Bool.{false≢true}
use Rattle.der_base.specs.declared.error.DerConstraint.TheVariants.{Constructed}
use Rattle.der_base.specs.declared.error.Error.{Error as BerError}
use Rattle.der_base.specs.declared.rules.Rules.{Rules}
use Rattle.der_base.specs.declared.rules.Rules.TheVariants.{Ber, Der}
use Rattle.der_base.specs.Leaf.{is_list, IsLeafContent}
use Rattle.der_base.specs.LeafRefusal.{Test, IsFirstRefusal, NoneHolds, ber_tests, choose}
use Rattle.der_base.specs.Refusal.{Refusal, refusal, der_constraint}
use Rattle.der_base.specs.Text.{is_text_type, IsTextOf}
use Rattle.der_base.specs.Tree.{Content, string}
use Rattle.der_base.proofs.Leaves.Always.{decided_text}
use Rattle.der_base.proofs.Leaves.Decided.{sure}
use Rattle.der_values.specs.Kinds.{Decodes, content_tests, contents, leaf_tests, primitives}

-- of two lists of tests, the second is chosen

none_chosen : (a : Bool) (ls ts : List Test) → a ≡ false → NoneHolds ts → NoneHolds (choose a ls ts)
none_chosen true ls ts e n = absurd (false≢true (sym e))
none_chosen false ls ts e n = n

first_chosen : (a : Bool) (ls ts : List Test) (e : Refusal) → a ≡ false → IsFirstRefusal ts e → IsFirstRefusal (choose a ls ts) e
first_chosen true ls ts r e h = absurd (false≢true (sym e))
first_chosen false ls ts r e h = h

-- in a primitive element
pub of_primitive : {T : Type 0} (value : T → Content) (r : Rules) (p : Bool) (t : ℕ) (w : List ℕ) (x : Result T BerError) → p ≡ false → is_list t ≡ false → Decodes value (primitives r t) w x
    → Decodes value (contents r p t) w x
of_primitive value Ber p t w (Ok x) e n h = rw e h
of_primitive value Ber p t w (Err f) e n h = rw e h
of_primitive value Der p t w (Ok x) e n h = rw e (none_chosen (is_list t) _ _ n ((λ q. false≢true q), h.0), h.1)
of_primitive value Der p t w (Err f) e n h = rw e (first_chosen (is_list t) _ _ (refusal f) n (inr ((λ q. false≢true q), h)))

-- one that is constructed is refused by DER
pub constructed_refused : (t : ℕ) (w : List ℕ) → is_list t ≡ false → IsFirstRefusal (content_tests Der true t w) (der_constraint Constructed)
constructed_refused t w n = first_chosen (is_list t) _ _ (der_constraint Constructed) n (inl (refl, refl))

-- the octets of a text are its content

one_chosen : (a b : Bool) (ls ts : List Test) → a ≡ true → NoneHolds ls → NoneHolds (choose (a || b) ls ts)
one_chosen true b ls ts e n = n
one_chosen false b ls ts e n = absurd (false≢true e)

of_chosen : (a : Bool) (ls ts : List Test) → a ≡ true → NoneHolds (choose a ls ts) → NoneHolds ls
of_chosen true ls ts e n = n
of_chosen false ls ts e n = absurd (false≢true e)

text_tests : (r : Rules) (t : ℕ) (w : List ℕ) → is_text_type t ≡ true → NoneHolds (ber_tests false t w) → NoneHolds (leaf_tests r t w)
text_tests Ber t w h n = n
text_tests Der t w h n = one_chosen (is_text_type t) _ _ _ h n

pub text_read : (r : Rules) (t : ℕ) (w v : List ℕ) (x : Content) → is_text_type t ≡ true → x ≡ string t v → NoneHolds (ber_tests false t w) × (v ≡ w) → NoneHolds (leaf_tests r t w) × IsLeafContent false t w x
text_read r t w v x h e n =
    let text : IsTextOf t w = sure _ (decided_text t w) (of_chosen (is_text_type t) _ _ h n.0).1.0 in
    rw (e, n.1) (text_tests r t w h n.0, (refl, inr (inr (inr (h, refl, text))), refl))

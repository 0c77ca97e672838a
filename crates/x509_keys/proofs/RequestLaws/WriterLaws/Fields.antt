-- Fields and contents of requests.
use Rattle.std.proofs.Common.{◌≡◌, ◌≢◌, ℕ, suc, ◌^◌, ◌<◌, false, List, [], ◌∷◌, map, length, All, ap, subst, arith, lit<}
use Rattle.std.proofs.lemmas.List.{append-nil}
use Rattle.std.specs.List.{flat_map}
use Rattle.der_base.specs.declared.header.Class.{Class}
use Rattle.der_base.specs.declared.header.Class.TheVariants.{Universal}
use Rattle.der_base.specs.Encoding.{element}
use Rattle.der_base.specs.Octets.{identifier, shortest_length}
use Rattle.der_cursor.specs.Elements.{IsNext}
use Rattle.der_cursor.specs.Formats.{Content, Field, Required, AnyElement, Each, Constructed}
use Rattle.der_writer.specs.Fields.{primitive, constructed, OctetString, Null}
use Rattle.der_writer.specs.Formats.Encodings.{Encodes, EncodesContent}
use Rattle.der_writer.proofs.FormatsLaws.Encoded.{any_encodes, limited_encodes, more_encode, none_encode, other_next}
use Rattle.x509_keys.specs.Request.Writer.Formats.{Filled, null_element}

-- a list that isn't empty
pub filled_encodes : {V : Type 0} (c : Class) (t : ℕ) {C : Content (List V)} {v : List V} {w : List ℕ} → t < 2 ^ 32 → v ≢ [] → EncodesContent C v w
    → Encodes (Required (Filled (Constructed c t C))) v (constructed c t w)
filled_encodes c t small filled h = limited_encodes (λ v. v ≢ []) c t small filled h

-- NULL is an element
pub null_any : Encodes AnyElement null_element Null
unfolding primitive
null_any = any_encodes Universal false 5 [] (lit< tt)

pub null_filled : Null ≢ []
unfolding primitive identifier shortest_length
null_filled = λ e. absurd (omega (arith, ap length e))

-- an OCTET STRING isn't a BOOLEAN
pub no_boolean : (w : List ℕ) → ¬ IsNext Universal 1 (OctetString w)
unfolding primitive
no_boolean w =
    let P : List ℕ → Type 0 = λ l. ¬ IsNext Universal 1 l in
    let other : ¬ ((Universal ≡ Universal) × (1 ≡ 4)) = λ h. absurd (omega (arith, h.1)) in
    subst P (append-nil (element Universal false 4 w)) (other_next Universal Universal 1 4 false w [] other)

-- a field for each item
pub each_encodes : {X V : Type 0} (F : Field V) (P : X → Type 0) (f : X → List ℕ) (g : X → V) → ((x : X) → P x → Encodes F (g x) (f x))
    → (xs : List X) → All P xs → EncodesContent (Each F) (map g xs) (flat_map f xs)
each_encodes F P f g h [] all = none_encode F
each_encodes F P f g h (x ∷ xs) all =
    more_encode (h x (all 0 x (omega arith))) (each_encodes F P f g h xs (λ k d l. all (suc k) d (omega arith)))

-- Values by their class.
use Rattle.std.proofs.Common.{◌≡◌, List, Option, refl, ℕ}
use Rattle.der_base.specs.declared.header.Class.{Class}
use Rattle.der_base.specs.declared.header.Class.TheVariants.{Universal, Application, ContextSpecific, Private}
use Rattle.der_print.specs.declared.style.Limit.{Limit}
use Rattle.der_print.specs.Values.{IsUniversalValue, IsValue, octets_text}
use Rattle.oid_names.specs.OwnNames.{Named}

pub other_value : (own : Option (List Named)) (limit : Limit) (k : Class) (t : ℕ) (w text : List ℕ) → ¬ (k ≡ Universal) → text ≡ octets_text limit w → IsValue own limit k t w text
other_value own limit Universal t w text other e = absurd (other refl)
other_value own limit Application t w text other e = e
other_value own limit ContextSpecific t w text other e = e
other_value own limit Private t w text other e = e

pub value_of_universal : (own : Option (List Named)) (limit : Limit) (k : Class) (t : ℕ) (w text : List ℕ) → k ≡ Universal → IsUniversalValue own limit t w text → IsValue own limit k t w text
value_of_universal own limit k t w text universal x = rw universal x

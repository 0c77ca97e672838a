-- What has the octets of an OBJECT IDENTIFIER is one.
use Rattle.std.proofs.Common.{◌≡◌, ◌≢◌, ℕ, Bool, true, false, List, [], None, refl, sym, ap, subst}
use Rattle.std.specs.Prelude.{if◌then◌else◌}
use Rattle.der_base.specs.Arcs.{arcs}
use Rattle.der_base.specs.LeafRefusal.{NoneHolds}
use Rattle.der_values.specs.declared.identifier.ObjectIdentifier.{ObjectIdentifier}
use Rattle.der_values.specs.Kinds.{EndsSubidentifier, borrowed_arcs, borrowed_octets, identifiers}

-- no octets are those of an OBJECT IDENTIFIER
no_end : EndsSubidentifier [] → ⊥
no_end h = h

not_empty : (w : List ℕ) → NoneHolds (identifiers.tests w) → w ≢ []
not_empty w n e = n.0 (λ h. no_end (subst EndsSubidentifier e h))

told : (relative : Bool) (own w : List ℕ) → w ≢ [] → (if relative then [] else own) ≡ w → (relative ≡ false) × (own ≡ w)
told true own w n e = absurd (n (sym e))
told false own w n e = (refl, e)

arcs_told : (relative : Bool) (own w : List ℕ) → relative ≡ false → own ≡ w → (if relative then None else arcs false own) ≡ arcs false w
arcs_told true own w r e = absurd (cc)
arcs_told false own w r e = ap (arcs false) e

module _ (x : ObjectIdentifier) (w : List ℕ) (n : NoneHolds (identifiers.tests w)) (e : borrowed_octets x ≡ w) where
  pub identifier_is : (x.relative ≡ false) × (x.octets.now ≡ w)
  identifier_is = told x.relative x.octets.now w (not_empty w n) e

  pub identifier_arcs : borrowed_arcs x ≡ arcs false w
  identifier_arcs = arcs_told x.relative x.octets.now w identifier_is.0 identifier_is.1

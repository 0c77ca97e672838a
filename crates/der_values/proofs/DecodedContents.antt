-- Content octets that were read or checked: a content of their type, or why they are none.
use Rattle.std.proofs.Common.{◌≡◌, ℕ, Bool, true, false, List, Result, Ok, Err, MatchResult, refl, inl, inr, All}
use Rattle.der_base.specs.declared.error.DerConstraint.TheVariants.{Constructed}
use Rattle.der_base.specs.declared.error.Error.{Error as BerError}
use Rattle.der_base.specs.declared.rules.Rules.TheVariants.{Ber, Der}
use Rattle.der_base.specs.Encoding.{content_octets}
use Rattle.der_base.specs.Leaf.{is_list, is_mapped, IsLeafContent, IsDerLeaf}
use Rattle.der_base.specs.LeafRefusal.{NoneHolds, BerLeafRefuses, DerLeafRefuses, der_tests}
use Rattle.der_base.specs.Refusal.{refusal, der_constraint}
use Rattle.der_base.specs.Tree.{Content}
use Rattle.der_base.proofs.Leaves.Always.{passed_content}
use Rattle.der_base.proofs.Leaves.Refusals.{none_refuses}
use Rattle.der_base.proofs.Octets.Shortest.{IsOctet}
use Rattle.der_values.proofs.LawsLaws.Leaves.AlwaysDer.{accepted_written, always_der}
use Rattle.der_values.specs.Kinds.{Decodes, checked, contents}
use Rattle.der_values.proofs.ContentLaws.{constructed_refused}

-- of a content by DER, the octets are those that are written for it
pub read_written : (p : Bool) (t : ℕ) (w : List ℕ) (x : Content) → All IsOctet w → is_list t ≡ false → NoneHolds (der_tests p t w) → IsLeafContent p t w x
    → (p ≡ false) × IsDerLeaf t x × (w ≡ content_octets x)
read_written true t w x are no_list n h = absurd (none_refuses (der_tests true t w) (der_constraint Constructed) n (constructed_refused t w no_list))
read_written false t w x are no_list n h =
    let k = accepted_written t w x are h (λ e r. none_refuses (der_tests false t w) e n r.1) in
    (refl, k.0, k.1)

-- octets that pass the tests are a content

pub ber_checked : (p : Bool) (t : ℕ) (w : List ℕ) (r : Result (Unit {0}) BerError) → is_mapped t ≡ true → is_list t ≡ false → Decodes (λ v. v) (checked (contents Ber p t)) w r
    → MatchResult r (λ _. (x : Content) × IsLeafContent p t w x) (λ e. BerLeafRefuses p t w (refusal e))
ber_checked p t w (Ok u) mapped no_list h = passed_content p t w mapped no_list h.0
ber_checked p t w (Err e) mapped no_list h = h

pub der_checked : (p : Bool) (t : ℕ) (w : List ℕ) (r : Result (Unit {0}) BerError) → All IsOctet w → is_mapped t ≡ true → is_list t ≡ false
    → Decodes (λ v. v) (checked (contents Der p t)) w r
    → MatchResult r (λ _. (x : Content) × (p ≡ false) × IsDerLeaf t x × (w ≡ content_octets x)) (λ e. DerLeafRefuses p t w (refusal e))
der_checked p t w (Ok u) are mapped no_list h = elim (always_der p t w are mapped no_list) [
  | inl k ↦ k
  | inr (e, r) ↦ absurd (none_refuses (der_tests p t w) e h.0 r.1)
]
der_checked p t w (Err e) are mapped no_list h = (mapped, h)

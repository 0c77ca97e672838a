-- The test of `same_node` answers whether two trees are equal.
use Rattle.std.proofs.Common.{◌≡◌, ℕ, Bool, true, false, List, ◌&&◌, ◌==◌, Option, Some, None, refl, ap, Decides}
use Rattle.std.proofs.lemmas.Bool.{false≢true}
use Rattle.std.proofs.lemmas.Bool.Decides.{Decides-and, Decides-like}
use Rattle.std.proofs.lemmas.Slice.Eq.{slice_eq-Decides}
use Rattle.std.specs.Cmp.{booleans_Decides, unsigned_Decides, signed_Decides}
use Rattle.std.specs.Option.{option_eq}
use Rattle.std.specs.Ordering.{int_eq}
use mathlib.Core.Bool.{beq}
use denote.Enum.Bare.{same_true, true_same}
use Rattle.der_base.specs.declared.header.Class.{Class}
use Rattle.der_base.specs.declared.time.ASN1DateTime.{ASN1DateTime}
use Rattle.der_base.specs.declared.time.ASN1TimeZone.{ASN1TimeZone}
use Rattle.der_base.specs.declared.time.ASN1TimeZone.TheVariants.{Undefined, Z, Offset}
use Rattle.der_base.specs.declared.time.TimeText.{TimeText}
use Rattle.der_base.specs.contracts.header.Class as Class_type
use Rattle.der_base.specs.Tree.{Node, node, Content, end_of_content, boolean, integer, bit_string, string, null}
use Rattle.der_base.specs.Tree.{enumerated, object_identifier, relative_oid, time, sequence, set, absent, present}
use Rattle.der_base.specs.Tree.{tagged, unknown, Nodes, no_nodes, nodes}
use Rattle.der_base.specs.TreeEquality.{same_class, same_octets, same_zone, same_time, same_node, same_content, same_nodes}

-- a test of one part, or of two, is one of the whole
one : {A P : Type 0} (a : Bool) → Decides a A → (A → P) → (P → A) → Decides a P
one a d f g = Decides-like a f g d

two : {A B P : Type 0} (a b : Bool) → Decides a A → Decides b B → (A × B → P) → (P → A × B) → Decides (a && b) P
two a b d e f g = Decides-like (a && b) f g (Decides-and a b d e)

always : {P : Type 0} → P → Decides true P
always p = (λ _. p, λ _. refl)

never : {P : Type 0} → (P → ⊥) → Decides false P
never f = (λ e. absurd (false≢true e), λ p. absurd (f p))

class-Decides : (c c' : Class) → Decides (same_class c c') (c ≡ c')
class-Decides c c' = (same_true Class_type.the_type tt c c', true_same Class_type.the_type c c')

octets-Decides : (w w' : List ℕ) → Decides (same_octets w w') (w ≡ w')
octets-Decides w w' = slice_eq-Decides unsigned_Decides w w' (same_octets w w') refl

option-Decides : (o o' : Option ℕ) → Decides (option_eq ◌==◌ o o') (o ≡ o')
option-Decides None None = always refl
option-Decides (Some n) (Some n') = one (n == n') (unsigned_Decides n n') (λ h. cc) (λ e. cc)
option-Decides _ _ = never (λ e. cc)

zone-Decides : (z z' : ASN1TimeZone) → Decides (same_zone z z') (z ≡ z')
zone-Decides Undefined Undefined = always refl
zone-Decides Z Z = always refl
zone-Decides (Offset h m) (Offset h' m') = two (int_eq h h') (int_eq m m') (signed_Decides h h') (signed_Decides m m') (λ h. cc) (λ e. (cc, cc))
zone-Decides _ _ = never (λ e. cc)

-- of times, by a test of the zones
pub time-Decides : (t t' : ASN1DateTime) (zones : Bool) → Decides zones (t.tz ≡ t'.tz)
    → Decides ((t.year == t'.year) && ((t.month == t'.month) && ((t.day == t'.day) && ((t.hour == t'.hour) && ((t.minute == t'.minute)
    && ((t.second == t'.second) && (option_eq ◌==◌ t.nanosecond t'.nanosecond && zones))))))) (t ≡ t')
time-Decides t t' zones d =
    Decides-like _
    (λ h i. record {
      year = h.0 i;
      month = h.1.0 i;
      day = h.1.1.0 i;
      hour = h.1.1.1.0 i;
      minute = h.1.1.1.1.0 i;
      second = h.1.1.1.1.1.0 i;
      nanosecond = h.1.1.1.1.1.1.0 i;
      tz = h.1.1.1.1.1.1.1 i;
    })
    (λ e. (
      ap (λ x. x.year) e,
      (ap (λ x. x.month) e, (ap (λ x. x.day) e, (ap (λ x. x.hour) e, (ap (λ x. x.minute) e, (ap (λ x. x.second) e, (ap (λ x. x.nanosecond) e, ap (λ x. x.tz) e)))))),
    ))
    (Decides-and (t.year == t'.year) _ (unsigned_Decides t.year t'.year)
    (Decides-and (t.month == t'.month) _ (unsigned_Decides t.month t'.month)
    (Decides-and (t.day == t'.day) _ (unsigned_Decides t.day t'.day)
    (Decides-and (t.hour == t'.hour) _ (unsigned_Decides t.hour t'.hour)
    (Decides-and (t.minute == t'.minute) _ (unsigned_Decides t.minute t'.minute)
    (Decides-and (t.second == t'.second) _ (unsigned_Decides t.second t'.second)
    (Decides-and _ zones (option-Decides t.nanosecond t'.nanosecond) d)))))))

-- of texts of times, by a test of the times
pub time_text-Decides : (x x' : TimeText) (times : Bool) → Decides times (x.time ≡ x'.time) → Decides ((x.tag.0 == x'.tag.0) && times) (x ≡ x')
time_text-Decides x x' times d =
    Decides-like _
    (λ h i. record {
      tag = record { 0 = h.0 i };
      time = h.1 i;
    })
    (λ e. (ap (λ y. y.tag.0) e, ap (λ y. y.time) e))
    (Decides-and (x.tag.0 == x'.tag.0) times (unsigned_Decides x.tag.0 x'.tag.0) d)

same_time-Decides : (t t' : ASN1DateTime) → Decides (same_time t t') (t ≡ t')
same_time-Decides t t' = time-Decides t t' (same_zone t.tz t'.tz) (zone-Decides t.tz t'.tz)

-- a class, a constructed bit and a number
kind-Decides : (c c' : Class) (p p' : Bool) (t t' : ℕ) → Decides (same_class c c' && (beq p p' && (t == t'))) ((c ≡ c') × ((p ≡ p') × (t ≡ t')))
kind-Decides c c' p p' t t' =
    Decides-and (same_class c c') (beq p p' && (t == t')) (class-Decides c c')
    (Decides-and (beq p p') (t == t') (booleans_Decides p p') (unsigned_Decides t t'))

mutual
  pub same_node-Decides : (a b : Node) → Decides (same_node a b) (a ≡ b)
  same_node-Decides (node c p t x) (node c' p' t' x') =
      two _ (same_content x x') (kind-Decides c c' p p' t t') (same_content-Decides x x') (λ h. cc) (λ e. ((cc, (cc, cc)), cc))

  pub same_content-Decides : (a b : Content) → Decides (same_content a b) (a ≡ b)
  same_content-Decides end_of_content end_of_content = always refl
  same_content-Decides (boolean b) (boolean b') = one (beq b b') (booleans_Decides b b') (λ h. cc) (λ e. cc)
  same_content-Decides (integer w) (integer w') = one (same_octets w w') (octets-Decides w w') (λ h. cc) (λ e. cc)
  same_content-Decides (bit_string u w) (bit_string u' w') = two (u == u') (same_octets w w') (unsigned_Decides u u') (octets-Decides w w') (λ h. cc) (λ e. (cc, cc))
  same_content-Decides (string k w) (string k' w') = two (k == k') (same_octets w w') (unsigned_Decides k k') (octets-Decides w w') (λ h. cc) (λ e. (cc, cc))
  same_content-Decides null null = always refl
  same_content-Decides (enumerated n) (enumerated n') = one (n == n') (unsigned_Decides n n') (λ h. cc) (λ e. cc)
  same_content-Decides (object_identifier r w) (object_identifier r' w') = two (beq r r') (same_octets w w') (booleans_Decides r r') (octets-Decides w w') (λ h. cc) (λ e. (cc, cc))
  same_content-Decides (relative_oid r w) (relative_oid r' w') = two (beq r r') (same_octets w w') (booleans_Decides r r') (octets-Decides w w') (λ h. cc) (λ e. (cc, cc))
  same_content-Decides (time k t) (time k' t') = two (k == k') (same_time t t') (unsigned_Decides k k') (same_time-Decides t t') (λ h. cc) (λ e. (cc, cc))
  same_content-Decides (sequence l) (sequence l') = one (same_nodes l l') (same_nodes-Decides l l') (λ h. cc) (λ e. cc)
  same_content-Decides (set l) (set l') = one (same_nodes l l') (same_nodes-Decides l l') (λ h. cc) (λ e. cc)
  same_content-Decides absent absent = always refl
  same_content-Decides (present o) (present o') = one (same_node o o') (same_node-Decides o o') (λ h. cc) (λ e. cc)
  same_content-Decides (tagged c t o) (tagged c' t' o') =
      two _ (same_node o o') (Decides-and (same_class c c') (t == t') (class-Decides c c') (unsigned_Decides t t')) (same_node-Decides o o') (λ h. cc) (λ e. ((cc, cc), cc))
  same_content-Decides (unknown c p t w) (unknown c' p' t' w') =
      two _ (same_octets w w') (kind-Decides c c' p p' t t') (octets-Decides w w') (λ h. cc) (λ e. ((cc, (cc, cc)), cc))
  same_content-Decides _ _ = never (λ e. cc)

  same_nodes-Decides : (a b : Nodes) → Decides (same_nodes a b) (a ≡ b)
  same_nodes-Decides no_nodes no_nodes = always refl
  same_nodes-Decides (nodes o l) (nodes o' l') = two (same_node o o') (same_nodes l l') (same_node-Decides o o') (same_nodes-Decides l l') (λ h. cc) (λ e. (cc, cc))
  same_nodes-Decides _ _ = never (λ e. cc)

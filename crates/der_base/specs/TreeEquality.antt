-- Whether two trees are the same.
use Rattle.std.specs.Prelude.{ℕ, Bool, true, false, List, ◌&&◌, ◌==◌}
use Rattle.std.specs.Option.{option_eq}
use Rattle.std.specs.Ordering.{int_eq}
use denote.Enum.Bare.{sameb}
use lib.Pointwise.{pointwise}
use mathlib.Core.Bool.{beq}
use Rattle.der_base.specs.declared.header.Class.{Class}
use Rattle.der_base.specs.declared.time.ASN1DateTime.{ASN1DateTime}
use Rattle.der_base.specs.declared.time.ASN1TimeZone.{ASN1TimeZone}
use Rattle.der_base.specs.declared.time.ASN1TimeZone.TheVariants.{Undefined, Z, Offset}
use Rattle.der_base.specs.contracts.header.Class as Class_type
use Rattle.der_base.specs.Tree.{Node, node, Content, end_of_content, boolean, integer, bit_string, string, null}
use Rattle.der_base.specs.Tree.{enumerated, object_identifier, relative_oid, time, sequence, set, absent, present}
use Rattle.der_base.specs.Tree.{tagged, unknown, Nodes, no_nodes, nodes}

abbrev pub same_class : Class → Class → Bool
same_class = sameb Class_type.the_type

abbrev pub same_octets : List ℕ → List ℕ → Bool
same_octets = pointwise ◌==◌

abbrev pub same_zone : ASN1TimeZone → ASN1TimeZone → Bool
same_zone Undefined Undefined = true
same_zone Z Z = true
same_zone (Offset hours minutes) (Offset hours' minutes') = int_eq hours hours' && int_eq minutes minutes'
same_zone _ _ = false

abbrev pub same_time : ASN1DateTime → ASN1DateTime → Bool
same_time t t' = (t.year == t'.year) && ((t.month == t'.month) && ((t.day == t'.day)
    && ((t.hour == t'.hour) && ((t.minute == t'.minute) && ((t.second == t'.second)
    && (option_eq ◌==◌ t.nanosecond t'.nanosecond && same_zone t.tz t'.tz))))))

abbrev mutual
  pub same_node : Node → Node → Bool
  same_node (node c p t x) (node c' p' t' x') = same_class c c' && (beq p p' && (t == t')) && same_content x x'

  pub same_content : Content → Content → Bool
  same_content end_of_content end_of_content = true
  same_content (boolean b) (boolean b') = beq b b'
  same_content (integer w) (integer w') = same_octets w w'
  same_content (bit_string u w) (bit_string u' w') = (u == u') && same_octets w w'
  same_content (string k w) (string k' w') = (k == k') && same_octets w w'
  same_content null null = true
  same_content (enumerated n) (enumerated n') = n == n'
  same_content (object_identifier r w) (object_identifier r' w') = beq r r' && same_octets w w'
  same_content (relative_oid r w) (relative_oid r' w') = beq r r' && same_octets w w'
  same_content (time k t) (time k' t') = (k == k') && same_time t t'
  same_content (sequence l) (sequence l') = same_nodes l l'
  same_content (set l) (set l') = same_nodes l l'
  same_content absent absent = true
  same_content (present o) (present o') = same_node o o'
  same_content (tagged c t o) (tagged c' t' o') = same_class c c' && (t == t') && same_node o o'
  same_content (unknown c p t w) (unknown c' p' t' w') = same_class c c' && (beq p p' && (t == t')) && same_octets w w'
  same_content _ _ = false

  pub same_nodes : Nodes → Nodes → Bool
  same_nodes no_nodes no_nodes = true
  same_nodes (nodes o l) (nodes o' l') = same_node o o' && same_nodes l l'
  same_nodes _ _ = false

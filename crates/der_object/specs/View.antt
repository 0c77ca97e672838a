-- The tree of an object.
use Rattle.std.specs.Prelude.{◌≡◌, List, map}
use Rattle.der_base.specs.declared.header.Header.{Header}
use Rattle.der_base.specs.Header.{class_of, is_constructed, number_of}
use Rattle.der_base.specs.Oids.{octets_of, is_relative_of}
use Rattle.der_base.specs.Tree.{Node, node, Content, end_of_content, boolean, integer, bit_string, string, null}
use Rattle.der_base.specs.Tree.{enumerated, object_identifier, relative_oid, time, sequence, set, absent, present}
use Rattle.der_base.specs.Tree.{tagged, unknown, Nodes, no_nodes, nodes, nodes_of}
use Rattle.der_object.specs.declared.object.BerObject.{BerObject}
use Rattle.der_object.specs.declared.object.BerObjectContent.{BerObjectContent, Row_of-BerObject, end_of-BerObject}
use Rattle.der_object.specs.declared.object.BerObjectContent.{more_of-BerObject, None', Some'}
use Rattle.der_object.specs.declared.object.BerObjectContent.{Held-BerObjectContent-Optional-0}
use Rattle.der_object.specs.declared.object.BerObjectContent.TheVariants.{EndOfContent, Boolean, Integer, BitString}
use Rattle.der_object.specs.declared.object.BerObjectContent.TheVariants.{OctetString, Null, Enum, OID, RelativeOID}
use Rattle.der_object.specs.declared.object.BerObjectContent.TheVariants.{NumericString, VisibleString, PrintableString}
use Rattle.der_object.specs.declared.object.BerObjectContent.TheVariants.{IA5String, UTF8String, T61String}
use Rattle.der_object.specs.declared.object.BerObjectContent.TheVariants.{VideotexString, ObjectDescriptor}
use Rattle.der_object.specs.declared.object.BerObjectContent.TheVariants.{GraphicString, GeneralString, BmpString}
use Rattle.der_object.specs.declared.object.BerObjectContent.TheVariants.{UniversalString, Sequence', Set', UTCTime}
use Rattle.der_object.specs.declared.object.BerObjectContent.TheVariants.{GeneralizedTime, Optional', Tagged', Unknown}

-- The node of a header and a content. The length and the raw tag of the header aren't part of it.
abbrev pub node_of : Header → Content → Node
node_of h x = node (class_of h) (is_constructed h) (number_of h) x

abbrev mutual
  pub content_tree : BerObjectContent → Content
  content_tree EndOfContent = end_of_content
  content_tree (Boolean b) = boolean b
  content_tree (Integer w) = integer w.now
  content_tree (BitString u w) = bit_string u w.bytes.now
  content_tree (OctetString w) = string 4 w.now
  content_tree Null = null
  content_tree (Enum n) = enumerated n
  content_tree (OID x) = object_identifier (is_relative_of x) (octets_of x)
  content_tree (RelativeOID x) = relative_oid (is_relative_of x) (octets_of x)
  content_tree (NumericString s) = string 18 s.now
  content_tree (VisibleString s) = string 26 s.now
  content_tree (PrintableString s) = string 19 s.now
  content_tree (IA5String s) = string 22 s.now
  content_tree (UTF8String s) = string 12 s.now
  content_tree (T61String s) = string 20 s.now
  content_tree (VideotexString s) = string 21 s.now
  content_tree (ObjectDescriptor s) = string 7 s.now
  content_tree (GraphicString s) = string 25 s.now
  content_tree (GeneralString s) = string 27 s.now
  content_tree (BmpString w) = string 30 w.now
  content_tree (UniversalString w) = string 28 w.now
  content_tree (Sequence' shape row) = sequence (row_tree row)
  content_tree (Set' shape row) = set (row_tree row)
  content_tree (UTCTime t) = time 23 t
  content_tree (GeneralizedTime t) = time 24 t
  content_tree (Optional' held) = held_tree held
  content_tree (Tagged' c t b h x) = tagged c t.0 (node_of h (content_tree x))
  content_tree (Unknown a) = unknown (class_of a.header) (is_constructed a.header) (number_of a.header) a.bytes.now

  -- an optional object
  pub held_tree : Held-BerObjectContent-Optional-0 → Content
  held_tree None' = absent
  held_tree (Some' b h x) = present (node_of h (content_tree x))

  -- the items of a list
  pub row_tree : {m : _} → Row_of-BerObject m → Nodes
  row_tree end_of-BerObject = no_nodes
  row_tree (more_of-BerObject h x rest) = nodes (node_of h (content_tree x)) (row_tree rest)

abbrev pub tree : BerObject → Node
tree o = node_of o.header (content_tree o.content)

-- the trees of objects, in order
abbrev pub trees : List BerObject → Nodes
trees os = nodes_of (map tree os)

-- what equality of objects, and of contents, compares
abbrev pub HaveOneTree : BerObject → BerObject → Type 0
HaveOneTree a b = tree a ≡ tree b

abbrev pub HaveOneContentTree : BerObjectContent → BerObjectContent → Type 0
HaveOneContentTree x y = content_tree x ≡ content_tree y

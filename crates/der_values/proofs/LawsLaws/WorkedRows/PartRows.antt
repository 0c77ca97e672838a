-- Worked rows of the parts that accessors return, computed.
use Rattle.std.proofs.Common.{◌≡◌, true, false, [], ◌∷◌, Some, None, refl}
use Rattle.der_base.specs.declared.header.Class.TheVariants.{ContextSpecific}
use Rattle.der_base.specs.Parts.{boolean_part, identifier_part, bits_part, text_part, octets_part, sequence_part, set_part, optional_part, tagged_part}
use Rattle.der_base.specs.Tree.{Node, boolean, integer, bit_string, string, null, enumerated, object_identifier, relative_oid, sequence, set, absent, present, tagged, unknown, no_nodes}

a_boolean : boolean_part (boolean true) ≡ Some true
a_boolean = refl

-- an integer is no boolean
no_boolean : boolean_part (integer (1 ∷ [])) ≡ None
no_boolean = refl

an_identifier : identifier_part (object_identifier false (0x2A ∷ [])) ≡ Some (false, 0x2A ∷ [])
an_identifier = refl

a_relative_one : identifier_part (relative_oid true (5 ∷ [])) ≡ Some (true, 5 ∷ [])
a_relative_one = refl

-- the unused bits are among them
some_bits : bits_part (bit_string 6 (0x6E ∷ 0x5D ∷ 0xE0 ∷ [])) ≡ Some (0x6E ∷ 0x5D ∷ 0xE0 ∷ [])
some_bits = refl

-- an octet string is no text, nor is a BMPString or a UniversalString
a_text : text_part (string 12 (0x61 ∷ [])) ≡ Some (0x61 ∷ [])
a_text = refl

an_object_descriptor : text_part (string 7 (0x61 ∷ [])) ≡ Some (0x61 ∷ [])
an_object_descriptor = refl

no_text : text_part (string 4 (0x61 ∷ [])) ≡ None
no_text = refl

no_bmp_text : text_part (string 30 (0 ∷ 0x61 ∷ [])) ≡ None
no_bmp_text = refl

no_universal_text : text_part (string 28 (0 ∷ 0 ∷ 0 ∷ 0x61 ∷ [])) ≡ None
no_universal_text = refl

-- each of them has octets, and so has an unknown content; an identifier, a number and a list have none
octets_of_a_text : octets_part (string 30 (0 ∷ 0x61 ∷ [])) ≡ Some (0 ∷ 0x61 ∷ [])
octets_of_a_text = refl

octets_of_an_unknown : octets_part (unknown ContextSpecific false 2 (1 ∷ [])) ≡ Some (1 ∷ [])
octets_of_an_unknown = refl

no_octets_of_an_identifier : octets_part (object_identifier false (0x2A ∷ [])) ≡ None
no_octets_of_an_identifier = refl

no_octets_of_a_number : octets_part (enumerated 5) ≡ None
no_octets_of_a_number = refl

no_octets_of_a_list : octets_part (sequence no_nodes) ≡ None
no_octets_of_a_list = refl

-- an empty list has no items, and is a list; a SET is no SEQUENCE
empty_sequence : sequence_part (sequence no_nodes) ≡ Some no_nodes
empty_sequence = refl

no_sequence : sequence_part (set no_nodes) ≡ None
no_sequence = refl

no_set : set_part null ≡ None
no_set = refl

-- an absent object has the part, with nothing in it
of_absent : optional_part absent ≡ Some None
of_absent = refl

of_present : (o : Node) → optional_part (present o) ≡ Some (Some o)
of_present o = refl

-- a tagged object is no optional one, nor is an absent one tagged
no_optional : (o : Node) → optional_part (tagged ContextSpecific 0 o) ≡ None
no_optional o = refl

of_tagged : (o : Node) → tagged_part (tagged ContextSpecific 31 o) ≡ Some (ContextSpecific, 31, o)
of_tagged o = refl

no_tagged : tagged_part absent ≡ None
no_tagged = refl

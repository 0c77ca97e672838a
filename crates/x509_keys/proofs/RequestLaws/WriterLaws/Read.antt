-- What is read as a request.
use Rattle.std.proofs.Common.{◌≡◌, ◌≢◌, ℕ, Bool, true, false, List, [], refl}
use Rattle.std.specs.Prelude.{if◌then◌else◌}
use Rattle.der_base.specs.declared.header.Class.TheVariants.{Universal, ContextSpecific}
use Rattle.der_base.specs.Numbers.{unsigned}
use Rattle.der_cursor.specs.Formats.{Required, Default, Each, Sequence, Set, Boolean, Text}
use Rattle.der_values.specs.Kinds.{bit_strings, booleans, identifiers, numbers, texts}
use Rattle.der_writer.specs.Fields as put
use Rattle.der_writer.specs.Formats.Encodings.{IsWrittenAs}
use Rattle.der_writer.proofs.FormatsLaws.Read.{constructed_written, primitive_written, implicit_written, limited_written, octets_of_written, any_written, choice_written, unless_written, left_written, then_written, only_written, end_written, each_written, encodes_only}
use Rattle.der_writer.proofs.FormatsLaws.ReadValues.{bits_written, boolean_written, identifier_written, number_written, text_written}
use Rattle.x509_keys.specs.Request.Writer.Formats.{TypeAndValue, DnsName, Extension, Extensions, RequestsAreWritten}
use Rattle.x509_keys.proofs.RequestLaws.WriterLaws.Requests.{request_encodes}

-- a BOOLEAN that isn't encoded where it is false
abbrev critical_octets : Bool → List ℕ
critical_octets v = if v then put.Boolean true else []

other_octets : (v : Bool) → v ≢ false → critical_octets v ≡ put.Boolean v
other_octets true other = refl
other_octets false other = absurd (other refl)

critical_written : IsWrittenAs (Default Boolean false) critical_octets
critical_written = unless_written Boolean false critical_octets (primitive_written booleans 1 boolean_written) refl other_octets

pub request_only : RequestsAreWritten
request_only r key subject own names =
    let identifier = primitive_written (λ r. identifiers) 6 identifier_written in
    let text = choice_written Text put.Text (λ t. primitive_written (λ r. texts t) t (text_written t)) in
    let attribute = constructed_written Universal 16 (then_written identifier (then_written text end_written)) in
    let relative_name = limited_written (λ v. v ≢ []) (Set (Each (Required TypeAndValue))) (constructed_written Universal 17 (each_written attribute)) in
    let name = constructed_written Universal 16 (each_written relative_name) in
    let algorithm = constructed_written Universal 16 (then_written identifier (then_written (left_written any_written) end_written)) in
    let bits = primitive_written bit_strings 3 bits_written in
    let key_info = constructed_written Universal 16 (then_written algorithm (then_written bits end_written)) in
    let dns_name = implicit_written (λ r. texts 22) 22 ContextSpecific 2 (text_written 22) in
    let dns_names = limited_written (λ v. v ≢ []) (Sequence (Each (Required DnsName))) (constructed_written Universal 16 (each_written dns_name)) in
    let value = octets_of_written (only_written dns_names) in
    let extension = constructed_written Universal 16 (then_written identifier (then_written critical_written (then_written value end_written))) in
    let extensions = limited_written (λ v. v ≢ []) (Sequence (Each (Required Extension))) (constructed_written Universal 16 (each_written extension)) in
    let values = limited_written (λ v. v ≢ []) (Set (Each (Required Extensions))) (constructed_written Universal 17 (each_written extensions)) in
    let own_attribute = constructed_written Universal 16 (then_written identifier (then_written values end_written)) in
    let attributes = constructed_written ContextSpecific 0 (each_written own_attribute) in
    let version = primitive_written (λ r. numbers r (unsigned 32)) 2 (number_written (unsigned 32)) in
    let fields = then_written version (then_written name (then_written key_info (then_written attributes end_written))) in
    encodes_only (constructed_written Universal 16 fields) (request_encodes r key subject own names)

-- What is read as a search.
use Rattle.std.proofs.Common.{◌≡◌, ℕ, List, ◌++◌, []}
use Rattle.der_base.specs.declared.header.Class.TheVariants.{Universal, ContextSpecific, Application}
use Rattle.der_base.specs.declared.rules.Rules.TheVariants.{Der}
use Rattle.der_base.specs.Numbers.{unsigned}
use Rattle.der_values.specs.Kinds.{booleans, enumerated_numbers, numbers, octet_strings}
use Rattle.der_writer.specs.Fields as put
use Rattle.der_writer.specs.Formats.Encodings.{AreOctets, IsWrittenAs}
use Rattle.der_writer.proofs.FormatsLaws.Read.{constructed_written, primitive_written, implicit_written, then_written, end_written, each_written, encodes_only}
use Rattle.der_writer.proofs.FormatsLaws.ReadValues.{boolean_written, enumerated_written, number_written, octets_written}
use Rattle.messages.specs.Ldap.Writer.Formats.{AnyFilter, FilterValue, equality_match, present, SearchesAreWritten}
use Rattle.messages.proofs.LdapLaws.WriterLaws.Searches.{search_encodes}

abbrev value_octets : FilterValue → List ℕ
value_octets (equality_match v) = put.Tagged 3 (put.OctetString v.0 ++ (put.OctetString v.1.0 ++ []))
value_octets (present v) = put.primitive ContextSpecific 7 v

filter_octets : (i : List ℕ) (v : FilterValue) (rest : List ℕ) → AreOctets i → AnyFilter Der i v rest → i ≡ value_octets v ++ rest
unfolding AnyFilter
filter_octets i (equality_match v) rest octets r =
    let text = primitive_written (λ r. octet_strings) 4 octets_written in
    (constructed_written ContextSpecific 3 (then_written text (then_written text end_written))).written i v rest octets r
filter_octets i (present v) rest octets r =
    (implicit_written (λ r. octet_strings) 4 ContextSpecific 7 octets_written).written i v rest octets r

filter_written : IsWrittenAs AnyFilter value_octets
filter_written = record { written = filter_octets }

pub search_only : SearchesAreWritten
search_only id s few =
    let text = primitive_written (λ r. octet_strings) 4 octets_written in
    let choice = primitive_written enumerated_numbers 10 enumerated_written in
    let limit = primitive_written (λ r. numbers r (unsigned 31)) 2 (number_written (unsigned 31)) in
    let truth = primitive_written booleans 1 boolean_written in
    let attributes = constructed_written Universal 16 (each_written text) in
    let behind = then_written limit (then_written limit (then_written truth (then_written filter_written (then_written attributes end_written)))) in
    let request = constructed_written Application 3 (then_written text (then_written choice (then_written choice behind))) in
    encodes_only (constructed_written Universal 16 (then_written limit (then_written request end_written))) (search_encodes id s few)

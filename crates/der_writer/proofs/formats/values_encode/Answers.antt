use Rattle.der_writer.proofs.FormatsLaws.Values.{boolean_encodes, signed_encodes, unsigned_encodes, integer_encodes, enumerated_encodes, bits_encode, octets_encode, null_encodes, identifier_encodes, text_encodes, utc_encodes, generalized_encodes}
use Rattle.der_writer.proofs.FormatsLaws.NamedBits.{named_bits_encode}
use Rattle.der_writer.proofs.FormatsLaws.Times.{rfc5280_encodes}
use Rattle.der_writer.proofs.formats.values_encode.Goals as goal

pub returns : goal.returns
returns c = record {
  booleans = boolean_encodes;
  signed_numbers = signed_encodes;
  unsigned_numbers = unsigned_encodes;
  integers = integer_encodes;
  enumerated = enumerated_encodes;
  bit_strings = bits_encode;
  named_bits = named_bits_encode;
  octet_strings = octets_encode;
  nulls = null_encodes;
  identifiers = identifier_encodes;
  texts = text_encodes;
  utc_times = utc_encodes;
  generalized_times = generalized_encodes;
  certificate_times = rfc5280_encodes;
}

use Rattle.der_values.specs.Kinds.{booleans, integers, numbers, enumerated_numbers, bit_strings, octet_strings, nulls, identifiers, texts, times}
use Rattle.der_writer.proofs.FormatsLaws.Read.{primitive_written}
use Rattle.der_writer.proofs.FormatsLaws.ReadValues.{boolean_written, integer_written, number_written, enumerated_written, bits_written, octets_written, null_written, identifier_written, text_written, utc_written, generalized_written}
use Rattle.der_writer.proofs.formats.values_are_written.Goals as goal

pub returns : goal.returns
returns c = record {
  booleans = primitive_written booleans 1 boolean_written;
  integers = primitive_written integers 2 integer_written;
  numbers = λ k. primitive_written (λ r. numbers r k) 2 (number_written k);
  enumerated = primitive_written enumerated_numbers 10 enumerated_written;
  bit_strings = primitive_written bit_strings 3 bits_written;
  octet_strings = primitive_written (λ r. octet_strings) 4 octets_written;
  nulls = primitive_written nulls 5 null_written;
  identifiers = primitive_written (λ r. identifiers) 6 identifier_written;
  texts = λ t. primitive_written (λ r. texts t) t (text_written t);
  utc_times = primitive_written (λ r. times r 23) 23 utc_written;
  generalized_times = primitive_written (λ r. times r 24) 24 generalized_written;
}

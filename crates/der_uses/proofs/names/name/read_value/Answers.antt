use Rattle.std.proofs.Common.{rules, refl}
use Rattle.der_parser.specs.Header.{number_of}
use Rattle.der_uses.proofs.NamesLaws.Leaves.{header_refused, no_string, no_string_number, value_read}
use Rattle.der_uses.proofs.names.name.read_value.Goals as goal

pub returns-in-Err : goal.returns-in-Err
returns-in-Err c = header_refused c.args.i.now c.in-Err.e c.in-Err.ensures

pub returns-in-Err-assert_class : goal.returns-in-Err-assert_class
returns-in-Err-assert_class c = no_string c.args.i.now c.in-Ok.read.0 c.in-Ok.read.1 _ c.in-Ok.ensures (λ u n. c.in-Err-assert_class.ensures.0 u)

pub returns-in-Utf8String : goal.returns-in-Utf8String
returns-in-Utf8String c =
    value_read c.args.i.now c.in-Ok.read.0 c.in-Ok.read.1 12 c.parse_der_utf8string.result c.in-Ok.ensures c.in-Ok-assert_class.ensures (search rules) refl c.parse_der_utf8string.ensures

pub returns-in-PrintableString : goal.returns-in-PrintableString
returns-in-PrintableString c =
    value_read c.args.i.now c.in-Ok.read.0 c.in-Ok.read.1 19 c.parse_der_printablestring.result c.in-Ok.ensures c.in-Ok-assert_class.ensures (search rules) refl c.parse_der_printablestring.ensures

pub returns-in-Ia5String : goal.returns-in-Ia5String
returns-in-Ia5String c =
    value_read c.args.i.now c.in-Ok.read.0 c.in-Ok.read.1 22 c.parse_der_ia5string.result c.in-Ok.ensures c.in-Ok-assert_class.ensures (search rules) refl c.parse_der_ia5string.ensures

pub returns-in_default : goal.returns-in_default
returns-in_default c = no_string c.args.i.now c.in-Ok.read.0 c.in-Ok.read.1 _ c.in-Ok.ensures (λ u n. no_string_number (number_of c.in-Ok.read.1) (search rules) (search rules) (search rules) n)

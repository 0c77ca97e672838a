use Rattle.std.proofs.Common.{rules, ◌∙◌, ap}
use Rattle.std.specs.Prelude.{Some}
use Rattle.der_text.proofs.Identifiers.{identifier_made}
use Rattle.der_text.proofs.Numbers.{dotted_utf8}
use Rattle.der_text.proofs.word.identifier_octets.Goals as goal

pub returns-in_default : goal.returns-in_default
returns-in_default c = absurd (c.in_default.ensures.cases.0 (dotted_utf8 c.args.word.now (search rules)))

pub returns-in_ok-octets-in-Ok-from_dotted : goal.returns-in_ok-octets-in-Ok-from_dotted
returns-in_ok-octets-in-Ok-from_dotted c =
    ap Some (c.in_ok-octets-in-Ok-from_dotted.ensures.items ∙ c.as_bytes.ensures)
    ∙ identifier_made c.args.word.now c.in-Ok.text.now c.in-Ok-from_dotted.identifier (search rules) c.in-Ok.ensures.cases.0
    c.in-Ok-from_dotted.ensures

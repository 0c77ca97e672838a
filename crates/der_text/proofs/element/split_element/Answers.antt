use Rattle.std.proofs.Common.{◌∙◌, ap, sym}
use Rattle.std.specs.Option.{option_copied}
use Rattle.der_text.proofs.Firsts.{none_is_first, split_first, split_only}
use Rattle.der_text.proofs.element.split_element.Goals as goal

pub returns-in_default-clause-first : goal.returns-in_default-clause-first
returns-in_default-clause-first c =
    none_is_first c.args.octets.now c.ber_read_element_header.result c.in_default.field-0 c.in_default.is c.ber_read_element_header.ensures

pub returns-clause-first : goal.returns-clause-first
returns-clause-first c =
    split_first c.args.octets.now c.in-Some.identifier.now c.in-Ok.header c.in-Ok.behind c.ber_read_element_header.result c.in-Ok.is
    c.ber_read_element_header.ensures (sym c.raw_tag.ensures ∙ ap (λ x. option_copied x) c.in-Some.is) c.split_content.result
    c.split_content.ensures

pub returns-clause-only : goal.returns-clause-only
returns-clause-only c =
    split_only c.args.octets.now c.in-Some.identifier.now c.in-Ok.header c.in-Ok.behind c.ber_read_element_header.result c.in-Ok.is
    c.ber_read_element_header.ensures (sym c.raw_tag.ensures ∙ ap (λ x. option_copied x) c.in-Some.is) c.split_content.result
    c.split_content.ensures

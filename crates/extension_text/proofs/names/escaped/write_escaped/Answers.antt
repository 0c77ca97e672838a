use Rattle.std.proofs.Common.{◌∙◌, ap, subst, sym, true}
use Rattle.std.proofs.Output.{has_written_of_eq}
use Rattle.extension_text.specs.Names.Escapes.{IsPlain, escaped}
use Rattle.extension_text.proofs.NamesLaws.EscapeLaws.{plain_text}
use Rattle.extension_text.proofs.names.escaped.write_escaped.Goals as goal

pub returns-in-Utf8 : goal.returns-in-Utf8
returns-in-Utf8 g c =
    let plain_octets = subst (IsPlain true) c.as_bytes.ensures.value (c.are_plain.ensures c.if-are_plain.true) in
    let is = sym (plain_text c.in-Utf8.text.now plain_octets) ∙ ap (λ ps. escaped true ps) c.in-Utf8.ensures in
    λ plain ok. has_written_of_eq _ _ _ _ _ is (c.write_str.ensures.writes plain ok)

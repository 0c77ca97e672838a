use Rattle.std.proofs.Common.{rules, ap}
use Rattle.der_base.specs.declared.header.Class.TheVariants.{Universal}
use Rattle.der_writer.specs.Fields.{primitive}
use Rattle.der_writer.proofs.Composing.{puts_tagged, puts_back, puts_same}
use Rattle.x509_keys.proofs.request.writer.name.put_text.Goals as goal

pub returns : goal.returns
returns c =
    let same = c.implicit_of.ensures.same in
    let text = ap (λ w. primitive Universal c.args.string_type.0 w) c.as_bytes.ensures.value in
    puts_back _ _ _ _ (search (rules, same)) (puts_same text (puts_tagged 4 _ c.put_octets.ensures c.implicit_of.ensures.tagged))

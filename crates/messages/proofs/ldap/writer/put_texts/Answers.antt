use Rattle.der_writer.specs.Fields.{OctetString}
use Rattle.der_writer.proofs.Composing.{item_put, puts_plain}
use Rattle.messages.proofs.ldap.writer.put_texts.Goals as goal

pub loop-text-preserved : goal.loop-text-preserved
loop-text-preserved c =
    item_put (λ x. OctetString x.now) c.args.texts.now _ _ c.loop-text-test.true c.loop-text.invariant
    (puts_plain 4 _ c.put_octets.ensures c.loop-text.invariant.plain)

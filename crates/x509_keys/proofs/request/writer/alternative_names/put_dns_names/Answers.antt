use Rattle.x509_keys.specs.Request.Writer.Octets.{dns_name_octets}
use Rattle.der_writer.proofs.Composing.{item_put}
use Rattle.x509_keys.proofs.request.writer.alternative_names.put_dns_names.Goals as goal

pub loop-name-preserved : goal.loop-name-preserved
loop-name-preserved c =
    item_put (λ n. dns_name_octets n.now) c.args.dns_names.now _ _ c.loop-name-test.true c.loop-name.invariant
    c.put_dns_name.ensures

use Rattle.x509_keys.specs.Request.Writer.Octets.{relative_name_octets}
use Rattle.der_writer.proofs.Composing.{item_put}
use Rattle.x509_keys.proofs.request.writer.name.put_relative_names.Goals as goal

pub loop-attribute-preserved : goal.loop-attribute-preserved
loop-attribute-preserved c =
    item_put relative_name_octets c.args.attributes.now _ _ c.loop-attribute-test.true c.loop-attribute.invariant
    c.put_relative_name.ensures

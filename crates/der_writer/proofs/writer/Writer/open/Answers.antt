use Rattle.std.proofs.Common.{refl}
use Rattle.der_writer.proofs.Composing.{opens_put}
use Rattle.der_writer.proofs.writer.Writer.open.Goals as goal

pub returns : goal.returns
returns c =
    opens_put c.args.class c.args.constructed c.args.tag.0 c.identifier_octet_count.result _ c.args.self.now _ _ c.put_opening.ensures
    refl (c.identifier_octet_count.ensures.count c.args.class c.args.constructed) c.identifier_octet_count.ensures.some
    c.saturating_add-start.ensures

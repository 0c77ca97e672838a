use Rattle.der_writer.proofs.Arcs.{arcs_put}
use Rattle.der_writer.proofs.Composing.{leaf_within, puts_both}
use Rattle.der_writer.proofs.writer.Writer.put_absolute.Goals as goal

pub returns : goal.returns
returns c =
    let parts = puts_both c.put_subidentifiers.ensures c.put_subidentifier.ensures in
    let put = leaf_within 6 c.tag_put-class.result _ c.tag_put-class.ensures.class c.tag_put-class.ensures.number c.open-identifier.ensures parts c.close.ensures in
    arcs_put c.args.first c.args.second _ c.args.others.now _ _ c.in-Some.ensures.0 c.in-Some.ensures.1 put

use Rattle.der_writer.proofs.Composing.{leaf_within, puts_both}
use Rattle.der_writer.proofs.writer.Writer.put_parts.Goals as goal

pub returns : goal.returns
returns c =
    leaf_within c.args.tag.0 c.tag_put-class.result _ c.tag_put-class.ensures.class c.tag_put-class.ensures.number c.open-element.ensures
    (puts_both c.put_elements-2.ensures c.put_elements.ensures) c.close.ensures

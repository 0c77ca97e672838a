use Rattle.std.proofs.Common.{ap, ◌∙◌}
use Rattle.der_object.specs.declared.object.BerObjectContent.TheVariants.{Tagged}
use Rattle.der_object.proofs.Trees.{tagged_object_tree}
use Rattle.der_combinators.proofs.wrapping.tagged_object.Goals as goal

pub returns-in-Ok : goal.returns-in-Ok
returns-in-Ok c =
    let content = c.from_header_and_content.ensures.content ∙ ap (λ k. Tagged k c.tag.result c.in-Ok.boxed) c.class.ensures in
    record {
      header = c.from_header_and_content.ensures.header;
      tag = c.tag.result;
      number = c.tag.ensures;
      boxed = c.in-Ok.boxed;
      content = content;
      inner = c.in-Ok.ensures.ok;
      tree = tagged_object_tree _ _ _ _ _ c.from_header_and_content.ensures.header content c.tag.ensures c.in-Ok.ensures.ok;
    }

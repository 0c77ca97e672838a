use Rattle.der_object.proofs.Trees.{present_object_tree}
use Rattle.der_combinators.proofs.wrapping.present_object.Goals as goal

pub returns-in-Ok : goal.returns-in-Ok
returns-in-Ok c =
    let header = c.from_header_and_content.ensures.header in
    let content = c.from_header_and_content.ensures.content in
    record {
      header = header;
      boxed = c.in-Ok.boxed;
      content = content;
      inner = c.in-Ok.ensures.ok;
      tree = present_object_tree _ _ _ header content c.in-Ok.ensures.ok;
    }

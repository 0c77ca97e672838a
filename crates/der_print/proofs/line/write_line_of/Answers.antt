use Rattle.std.proofs.Common.{◌++◌, codes, ap, subst, ◌∙◌}
use Rattle.der_elements.specs.Walked.{visited_of}
use Rattle.der_print.specs.Lines.{IsEnding, front_text}
use Rattle.der_print.specs.Names.{table_of}
use Rattle.der_print.specs.Texts.{content_of}
use Rattle.der_print.proofs.FrontLaws.{same_part}
use Rattle.der_print.proofs.line.write_line_of.Goals as goal

pub returns : goal.returns
returns g c =
    let v = visited_of c.args.element.now in
    let w = content_of c.args.element.now in
    let own = table_of c.args.own in
    let field = c.args.field.now in
    let front = front_text c.args.style.colours c.args.style.limit field v in
    let has_front = c.in_ok-put_front.ensures.0 ∙ ap (λ o. o ++ front) c.clear.ensures in
    let left = c.in_ok-put_front.ensures.1 in
    let (value, shown, ending, adds) = c.in_ok-put_ending.ensures in
    record {
      line = c.as_bytes.result.now;
      is_line = record {
        value = value;
        shown = shown;
        ending = subst (λ l. IsEnding own l v w value) left ending;
        whole = c.as_bytes.ensures ∙ c.in_ok-push.ensures ∙ ap (λ o. o ++ codes "\n") (adds ∙ same_part value has_front left);
      };
      adds = c.in_ok-write_all.ensures.bytes;
    }

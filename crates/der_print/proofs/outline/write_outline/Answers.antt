use Rattle.std.proofs.Common.{◌++◌, codes, ap, subst, ◌∙◌}
use Rattle.std.specs.Io.KnownBytes.{Appends}
use Rattle.der_elements.specs.Walked.{visited_of}
use Rattle.der_print.specs.Cuts.{cut}
use Rattle.der_print.specs.Lines.{front_text, limit_of}
use Rattle.der_print.proofs.FrontLaws.{same_part}
use Rattle.der_print.proofs.outline.write_outline.Goals as goal

pub returns : goal.returns
returns g c =
    let v = visited_of c.args.element.now in
    let field = c.args.field.now in
    let front = front_text c.args.style.colours c.args.style.limit field v in
    let has_front = c.in_ok-put_front.ensures.0 ∙ ap (λ o. o ++ front) c.clear.ensures in
    let left = c.in_ok-put_front.ensures.1 in
    let ending = c.in_ok-put_part.ensures.octets ∙ same_part c.as_bytes.result.now has_front left
    ∙ ap (λ t. front ++ cut (limit_of c.args.style.limit field v) t) c.as_bytes.ensures.value in
    subst (Appends (g.W.Write.contents c.args.out.now) _)
    (c.as_bytes-2.ensures ∙ c.in_ok-push.ensures ∙ ap (λ o. o ++ codes "\n") ending) c.in_ok-write_all.ensures.bytes

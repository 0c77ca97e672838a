use Rattle.std.proofs.Common.{Bool, refl, ap, ◌∙◌}
use Rattle.der_elements.specs.Walked.{visited_of}
use Rattle.der_schema.specs.Meaning.{all_types}
use Rattle.der_schema.specs.Steps.{encoding_of, label_by}
use Rattle.der_schema.proofs.Passed.{named_next}
use Rattle.der_schema.proofs.namer.Namer.name_of.Goals as goal

pub returns : goal.returns
returns c sc i vs has shallow =
    let namer = c.args.self.now in
    let next =
    named_next sc i namer.known.input.now vs (visited_of c.args.element.now) (all_types namer.known.types.now)
    namer.levels c.pass.new.self (encoding_of namer.known c.args.element.now) _ has.types has.input refl has.opened
    has.whole (c.pass.ensures.opened shallow) (c.pass.ensures.whole shallow)
    (c.name_by.ensures ∙ ap (λ (b : Bool). label_by b c.pass.result) c.has_items-is_item.ensures
    ∙ c.pass.ensures.name shallow) in
    record {
      named = record { input = has.input; types = has.types; opened = next.opened; whole = next.whole };
      name = next.name;
    }

use Rattle.der_elements.specs.Walked.{visited_of}
use Rattle.der_schema.specs.Steps.{label_of}
use Rattle.der_actions.proofs.Fielding.{named_next, unnamed_next}
use Rattle.der_actions.proofs.fields.Fields.field_of.Goals as goal

pub returns-in-Some : goal.returns-in-Some
returns-in-Some c =
    λ s i vs h depth index.
    let e = c.args.element.now in
    let k = named_next s i vs (visited_of e) c.args.self.now.namer c.in-Some.namer c.name_of-name.new.self
    c.name_of-name.result c.args.self.now.secrets c.pass.new.self (record { name = c.text_of.result; exposure = c.pass.result })
    c.args.self.now.path.steps.items _ e.index c.in-Some.is h.named
    (λ sc j us m. c.name_of-name.ensures sc j us m depth) c.text_of.ensures h.followed (λ sc. c.pass.ensures sc i vs)
    h.steps index (c.enter.ensures depth) in
    (record { named = k.named; steps = k.has_steps; followed = k.followed }, k.field)

pub returns-in-None : goal.returns-in-None
returns-in-None c =
    λ s i vs h depth index.
    let k = unnamed_next s i vs (visited_of c.args.element.now) c.args.self.now.namer c.args.self.now.path.steps.items
    c.args.self.now.secrets c.in-None.is h.named in
    (record { named = k.named; steps = k.has_steps; followed = k.followed }, record { name = k.name; exposure = k.exposure })

use Rattle.std.proofs.Common.{◌≡◌, List, [], ◌∷◌, ◌++◌, ap, map, take, ◌∙◌}
use Rattle.der_elements.specs.Walked.{visited_of}
use Rattle.der_schema.specs.Steps.{label_of}
use Rattle.type_words.specs.declared.places.Place.{Place as Kept}
use Rattle.type_words.specs.Items.{Place, Step, named, step, step_by}
use Rattle.type_words.specs.Places.{place_of, places_in, step_of}
use Rattle.type_words.proofs.PlaceLaws.{pushed}
use Rattle.type_words.proofs.places.Places.pass.Goals as goal

pub returns-clause-places : goal.returns-clause-places
returns-clause-places c =
    let v = visited_of c.args.element.now in
    let ps = places_in c.args.self.now in
    let l = label_of c.args.name in
    let x = c.pass-passing.result in
    let same : step_of x ≡ step ps c.args.input.now (named v l) =
    c.pass-passing.ensures ∙ ap (λ (p : Place). step_by l p c.args.input.now v) c.place_at.ensures in
    let items = c.push-2.ensures.items
    ∙ ap (λ (ks : List Kept). ks ++ x.inside ∷ [])
    (c.push.ensures.items ∙ ap (λ (ks : List Kept). ks ++ x.after ∷ []) c.truncate.ensures.items) in
    ap (map place_of) items ∙ pushed c.args.self.now.places.items v.depth x.after x.inside
    ∙ ap (λ (s : Step). take v.depth ps ++ s.after ∷ s.inside ∷ []) same

use Rattle.std.proofs.Common.{◌≡◌, ◌≤◌, ◌+◌, List, [], ◌∷◌, ◌++◌, arith, ap, map, set, sym, subst, take, ◌∙◌}
use Rattle.std.specs.List.{All}
use Rattle.std.proofs.lemmas.List.{length-set, map-append, take_more_set}
use Rattle.std.proofs.lemmas.List.Elements.{All-nil, All-append, All-cons}
use Rattle.der_elements.specs.declared.element.Element.{Element}
use Rattle.der_elements.specs.Visits.{Visited}
use Rattle.der_elements.specs.Walked.{HasVisited, visited_of}
use Rattle.der_schema.specs.Known.{all_extras}
use Rattle.der_schema.proofs.Prefix.{visited_first}
use Rattle.der_schema.proofs.beginning.Beginning.of.Goals as goal

pub elements-preserved : goal.elements-preserved
elements-preserved c =
    let so = c.elements.invariant in
    let e = c.in-Ok-Some.element in
    let n = c.elements.len in
    let xs = c.elements.elements in
    let shallow = λ (x : Element). x.depth ≤ 100 in
    let next =
    rw c.in-Ok-Some.field-0-is at
    (c.in-Ok-Some.ensures.visits all_extras c.args.rules c.args.input.now (map visited_of (take n xs)) so.3) in
    let more : take (n + 1) (set xs n e) ≡ take n xs ++ e ∷ [] =
    take_more_set xs n e (omega (arith, so.1, c.elements-test.true)) in (
      omega (arith, c.elements-test.true),
      length-set xs n e ∙ so.1,
      subst (All shallow) (sym more)
          (All-append shallow (take n xs) (e ∷ []) so.2 (All-cons shallow e [] next.3 (All-nil shallow))),
      subst (λ (vs : List Visited). HasVisited all_extras c.args.rules c.args.input.now c.next_element.new.self vs)
          (sym (ap (map visited_of) more ∙ map-append visited_of (take n xs) (e ∷ []))) next.0,
    )

pub returns-in-Ok-None : goal.returns-in-Ok-None
returns-in-Ok-None c us all =
    let n = c.elements.len in
    visited_first all_extras c.args.rules c.args.input.now c.elements.walk
    (map visited_of (take n c.elements.elements)) us c.elements.invariant.3 all

pub returns : goal.returns
returns c us all =
    let n = c.elements.len in
    visited_first all_extras c.args.rules c.args.input.now c.elements.walk
    (map visited_of (take n c.elements.elements)) us c.elements.invariant.3 all

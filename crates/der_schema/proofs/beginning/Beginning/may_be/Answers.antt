use Rattle.std.proofs.Common.{◌+◌, ◌≤◌, List, ap, arith, drop, length, map, subst, sym, take, ◌∙◌}
use Rattle.std.specs.Option.{is_some}
use Rattle.der_elements.specs.Visits.{Visited}
use Rattle.der_elements.specs.Walked.{visited_of}
use Rattle.der_schema.specs.Beginnings.{BeginsWith}
use Rattle.der_schema.specs.Meaning.{root_of}
use Rattle.der_schema.specs.Named.{HasNamed}
use Rattle.der_schema.proofs.Firsts.{label_there, one_more, parted, shallow_at}
use Rattle.der_schema.proofs.OfType.{no_name_among}
use Rattle.der_schema.proofs.beginning.Beginning.may_be.Goals as goal

pub returns-then-is_none : goal.returns-then-is_none
returns-then-is_none c r begins t =
    let xs = c.args.self.now.elements in
    let n = c.args.self.now.len in
    let k = c.elements.index in
    let i = c.args.input.now in
    let sc = root_of c.args.schema in
    let vs = map visited_of (take k xs) in
    let within : n ≤ length xs = omega (arith, c.args.self.now.bounded, c.args.self.now.sized) in
    let next =
    c.name_of.ensures sc i vs c.elements.invariant.1
    (shallow_at xs n k _ c.elements-test.true within c.args.self.now.shallow) in
    absurd (no_name_among sc r i vs (map visited_of (drop (k + 1) (take n xs))) _
    (subst (BeginsWith r i) (parted xs n k _ c.elements-test.true within) begins)
    (sym (ap is_some next.name) ∙ label_there c.name_of.result ∙ c.if-is_none.ensures) t)

pub elements-preserved : goal.elements-preserved
elements-preserved c =
    let xs = c.args.self.now.elements in
    let n = c.args.self.now.len in
    let k = c.elements.index in
    let i = c.args.input.now in
    let sc = root_of c.args.schema in
    let vs = map visited_of (take k xs) in
    let within : n ≤ length xs = omega (arith, c.args.self.now.bounded, c.args.self.now.sized) in
    let next =
    c.name_of.ensures sc i vs c.elements.invariant.1
    (shallow_at xs n k _ c.elements-test.true within c.args.self.now.shallow) in (
      omega (arith, c.elements-test.true),
      subst (λ (us : List Visited). HasNamed sc i us c.name_of.new.self)
          (sym (one_more xs k _ (omega (arith, c.elements-test.true, within)))) next.named,
    )

use Rattle.std.proofs.Common.{true, false, [], ◌∷◌, ◌++◌, arith, length-append, refl}
use Rattle.der_elements.specs.Walked.{visited_of}
use Rattle.der_elements.proofs.OneVisit.{visits_same}
use Rattle.der_schema.specs.Known.{all_extras}
use Rattle.der_schema.proofs.Prefix.{visited_first}
use Rattle.der_schema.proofs.SignLaws.{content_here, content_past}
use Rattle.der_schema.proofs.sign.content_at.Goals as goal

pub elements-init : goal.elements-init
elements-init c = (
  [],
  c.keeping_values-walk.ensures (record { enters_strings = true; keeps_values = false }) c.args.rules
      c.args.input.now c.new.ensures,
  omega arith,
)

pub elements-preserved : goal.elements-preserved
elements-preserved c =
    let so = c.elements.invariant in
    let e = c.in-Ok-Some.element in
    let next =
    rw c.in-Ok-Some.field-0-is at (c.in-Ok-Some.ensures.visits all_extras c.args.rules c.args.input.now so.0 so.1) in (
      so.0 ++ visited_of e ∷ [],
      next.0,
      omega (arith, so.2, length-append so.0 (visited_of e ∷ []), c.if-before-eq0.false),
    )

pub returns-then-before-eq0 : goal.returns-then-before-eq0
returns-then-before-eq0 c us all =
    let so = c.elements.invariant in
    let v = visited_of c.in-Ok-Some.element in
    let i = c.args.input.now in
    let next =
    rw c.in-Ok-Some.field-0-is at (c.in-Ok-Some.ensures.visits all_extras c.args.rules i so.0 so.1) in
    let (ws, e) = visited_first all_extras c.args.rules i c.next_element.new.self (so.0 ++ v ∷ []) us next.0 all in
    content_here i so.0 us ws v c.args.number _ (omega (arith, so.2, c.if-before-eq0.true)) e c.content_of.ensures

pub returns-in-Ok-None : goal.returns-in-Ok-None
returns-in-Ok-None c us all =
    let so = c.elements.invariant in
    let i = c.args.input.now in
    let end = rw c.in-Ok-None.field-0-is at (c.in-Ok-None.ensures.visits all_extras c.args.rules i so.0 so.1) in
    content_past i so.0 us c.args.number (visits_same all end refl) (omega (arith, so.2))

pub returns-in-Err : goal.returns-in-Err
returns-in-Err c us all =
    let so = c.elements.invariant in
    let refused = c.in-Err.ensures.visits all_extras c.args.rules c.args.input.now so.0 so.1 in
    absurd (refused.never us all)

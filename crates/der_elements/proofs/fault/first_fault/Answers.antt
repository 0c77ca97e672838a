use Rattle.std.proofs.Common.{[], append-nil, sym}
use Rattle.std.proofs.lemmas.List.Elements.{All-nil, All-push}
use Rattle.der_elements.specs.FirstFault.{IsShallow, no_extras}
use Rattle.der_elements.proofs.FirstFaults.{first_of, nothing_there, nothing_whole, one_of}
use Rattle.der_elements.proofs.Leading.{lowers}
use Rattle.der_elements.proofs.fault.first_fault.Goals as goal

pub elements-init : goal.elements-init
elements-init c = ([], c.new-walk.ensures, All-nil (IsShallow c.args.max_depth))

pub elements-preserved : goal.elements-preserved
elements-preserved c =
    let so = c.elements.invariant in
    let next = rw c.in-Ok-Some.field-0-is at (c.in-Ok-Some.ensures.visits no_extras c.args.rules c.args.octets.now so.0 so.1) in
    (_, next.0, All-push (IsShallow c.args.max_depth) so.0 _ so.2 next.3)

pub returns-in-Ok-None : goal.returns-in-Ok-None
returns-in-Ok-None c =
    let so = c.elements.invariant in
    let i = c.args.octets.now in
    let all = rw c.in-Ok-None.field-0-is at (c.in-Ok-None.ensures.visits no_extras c.args.rules i so.0 so.1) in
    nothing_there c.args.rules c.args.max_depth i _ (nothing_whole c.args.max_depth i [] c.requires.none so.2 all (sym (append-nil i))) c.at.ensures

pub returns-in-Err : goal.returns-in-Err
returns-in-Err c =
    let so = c.elements.invariant in
    let i = c.args.octets.now in
    let d = c.args.max_depth in
    let refused = c.in-Err.ensures.visits no_extras c.args.rules i so.0 so.1 in
    one_of c.args.rules d i _ _ c.in-Err.refusal c.requires.none (first_of d c.next_within.new.self (lowers d) (λ q. absurd (cc)) refused.0 so.2 refused.1)

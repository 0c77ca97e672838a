use Rattle.std.proofs.Common.{arith}
use Rattle.der_elements.proofs.ListFaults.{begins_none, front_size, list_found, list_same}
use Rattle.der_elements.proofs.inside.fault_in.Goals.{then-not-is_list_frame-via-then-not-is_list_frame, then-not-is_list_frame-via-else-not-is_list_frame+then-is_element}
use Rattle.der_elements.proofs.inside.fault_in.Goals as goal

pub returns-then-not-is_list_frame : goal.returns-then-not-is_list_frame
returns-then-not-is_list_frame c =
    let e = c.args.element.now in
    let f = c.requires in
    λ n at.
    let z = list_same e c.args.octets n f at in
    elim c.then-not-is_list_frame.branch [
      | then-not-is_list_frame-via-then-not-is_list_frame w ↦ absurd (let t = c.is_list_frame.ensures.1 z.0 in let q = w.if-not-is_list_frame.true in cc)
      | then-not-is_list_frame-via-else-not-is_list_frame+then-is_element w ↦ z.1 (w.is_element.ensures.0 w.if-is_element.true)
    ]

pub first_fault-fault-requires-clause-none : goal.first_fault-fault-requires-clause-none
first_fault-fault-requires-clause-none c =
    begins_none c.args.octets.now (c.is_list_frame.ensures.0 c.if-not-is_list_frame.false) (λ one. absurd (let t = c.is_element.ensures.1 one in let q = c.if-is_element.false in cc))

pub returns : goal.returns
returns c =
    let e = c.args.element.now in
    let f = c.requires in
    let (u, front, parts) = list_found e c.args.octets f in
    let size = front_size e.number u front in (
      f.0,
      f.1,
      record {
        front = u;
        list = c.args.octets.now;
        parts = parts;
        is_front = front;
        frame = c.is_list_frame.ensures.0 c.if-not-is_list_frame.false;
        no_element = λ one. absurd (let t = c.is_element.ensures.1 one in let q = c.if-is_element.false in cc);
        fault = c.first_fault-fault.result;
        first = c.first_fault-fault.ensures;
        place = omega (arith, c.saturating_add.ensures, c.saturating_add-list.ensures, c.saturating_add-content.ensures, c.string_front.ensures, size);
      },
    )

use Rattle.std.proofs.Common.{arith}
use Rattle.der_elements.proofs.ElementReads.{reads_here, starts_again}
use Rattle.der_elements.proofs.Refusals.{refuses_check, refuses_content, refuses_depth, refuses_header}
use Rattle.der_elements.proofs.walk.Walk.read_element.Goals as goal

pub returns-clause-read : goal.returns-clause-read
returns-clause-read c =
    reads_here c.args.self.now c.args.here.now c.in-Ok.found _ c.in-Ok.ensures (starts_again c.in-Ok.found.1 _ _ _ _ c.element_of-element.result c.in-Ok-content_of.content c.held_in.result c.in-Ok-check.breaks c.element_of-element.ensures)
    c.in-Ok-content_of.ensures.content c.in-Ok-content_of.ensures.room c.in-Ok-check.ensures.checked c.held_in.ensures (omega arith)

pub returns-in-Err-clause-refused : goal.returns-in-Err-clause-refused
returns-in-Err-clause-refused c = refuses_header c.args.max_depth c.args.self.now c.args.here.now c.in-Err.e c.refuse_header.result c.requires.some c.in-Err.ensures c.refuse_header.ensures.cause c.refuse_header.ensures.place c.refuse_header.ensures.step

pub returns-in-Err-content_of-clause-refused : goal.returns-in-Err-content_of-clause-refused
returns-in-Err-content_of-clause-refused c =
    refuses_content c.args.max_depth c.args.self.now c.args.here.now c.in-Ok.found c.element_of-element.result c.in-Err-content_of.refusal c.in-Ok.ensures c.element_of-element.ensures c.in-Err-content_of.ensures.refused

pub returns-then-element-max_depth-clause-refused : goal.returns-then-element-max_depth-clause-refused
returns-then-element-max_depth-clause-refused c =
    let e = c.element_of-element.result in
    refuses_depth c.args.max_depth c.args.self.now c.args.here.now c.in-Ok.found _ c.of.result c.in-Ok.ensures (starts_again c.in-Ok.found.1 _ _ _ _ e c.in-Ok-content_of.content e.holds e.breaks_its_type c.element_of-element.ensures)
    c.in-Ok-content_of.content c.in-Ok-content_of.ensures.content c.in-Ok-content_of.ensures.room c.if-element-max_depth.true c.of.ensures.cause c.of.ensures.offset c.of.ensures.step

pub returns-in-Err-check-clause-refused : goal.returns-in-Err-check-clause-refused
returns-in-Err-check-clause-refused c =
    let e = c.element_of-element.result in
    refuses_check c.args.max_depth c.args.self.now c.args.here.now c.in-Ok.found _ c.in-Err-check.refusal c.in-Ok.ensures (starts_again c.in-Ok.found.1 _ _ _ _ e c.in-Ok-content_of.content e.holds e.breaks_its_type c.element_of-element.ensures)
    c.in-Ok-content_of.ensures.content c.in-Ok-content_of.ensures.room (omega arith) c.in-Err-check.ensures.refused

use Rattle.std.proofs.Common.{ℕ, subst}
use Rattle.c_values.specs.Outcomes.{Lists, read, refused}
use Rattle.c_values.proofs.readers.list.Goals as goal

pub returns-in-Some : goal.returns-in-Some
returns-in-Some c =
    let At : ℕ → Type 0 = λ d. Lists c.args.rules d c.args.input.now c.args.elements.now c.list_element.new.slots c.read_outcome.result in
    subst At c.min-depth.ensures (read c.in-Some.listed.rest.now c.in-Some.listed.elements c.in-Some.ensures.listed c.read_outcome.ensures)

pub returns-in-None : goal.returns-in-None
returns-in-None c =
    let At : ℕ → Type 0 = λ d. Lists c.args.rules d c.args.input.now c.args.elements.now c.list_element.new.slots c.fault_outcome.result in
    let fault = c.first_fault-fault in
    subst At c.min-depth.ensures (refused fault.result c.in-None.ensures.exactly.only fault.ensures c.fault_outcome.ensures)

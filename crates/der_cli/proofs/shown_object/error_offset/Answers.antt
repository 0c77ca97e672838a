use Rattle.std.proofs.Common.{[], inl, inr, refl}
use Rattle.der_base.specs.declared.rules.Rules.TheVariants.{Ber}
use Rattle.der_cli.specs.Shown.{plain}
use Rattle.der_cli.proofs.shown_object.error_offset.Goals as goal

pub returns-in-Some : goal.returns-in-Some
returns-in-Some c =
    let ended = c.find_fault.ensures plain Ber c.args.octets.now [] c.new-walk.ensures in
    let refused = rw c.in-Some.is at ended.1 in
    inl (c.in-Some.refusal, (ended.0, c.find_fault.new.self, refused), refl)

pub returns-in-None : goal.returns-in-None
returns-in-None c =
    let ended = c.find_fault.ensures plain Ber c.args.octets.now [] c.new-walk.ensures in
    let visits = rw c.in-None.is at ended.1 in
    inr ((ended.0, visits), c.reader_offset.ensures)

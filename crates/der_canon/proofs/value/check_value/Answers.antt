use Rattle.std.proofs.Common.{◌≡◌, rules}
use Rattle.der_base.specs.declared.header.Class.TheVariants.{Universal}
use Rattle.der_canon.proofs.Forms.{of_universal}
use Rattle.der_canon.proofs.Steps.{octets_of}
use Rattle.der_canon.proofs.value.check_value.Goals as goal

pub returns-in-Some : goal.returns-in-Some
returns-in-Some c = λ i g p.
    let e = c.args.element.now in
    let universal : e.class ≡ Universal = search rules in
    of_universal e.class e.number c.in-Some.content.now _ c.check_form.result universal (octets_of i e c.in-Some.content g c.in-Some.is) c.check_form.ensures

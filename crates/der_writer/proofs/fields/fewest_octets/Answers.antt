use Rattle.std.proofs.Common.{ap, ◌∙◌, arith}
use Rattle.std.proofs.lemmas.List.{take_rest}
use Rattle.der_base.specs.Octets.{octets}
use Rattle.der_writer.proofs.Magnitudes.{fewest, zero_goes, more_octets}
use Rattle.der_writer.proofs.fields.fewest_octets.Goals as goal

pub returns-then-first-ne0 : goal.returns-then-first-ne0
returns-then-first-ne0 c =
    let h = c.loop-left.invariant in
    fewest c.loop-left.left.now h.are_octets (omega arith) c.if-first-ne0.true ∙ ap octets h.value

pub loop-left-preserved : goal.loop-left-preserved
loop-left-preserved c =
    let h = c.loop-left.invariant in
    rw (take_rest c.loop-left.left.now 1)
    (record { value = zero_goes c.loop-left.left.now (omega arith) c.if-first-ne0.false ∙ h.value; are_octets = more_octets c.loop-left.left.now h.are_octets })

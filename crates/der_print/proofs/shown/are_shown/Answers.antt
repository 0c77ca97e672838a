use Rattle.std.proofs.Common.{◌∙◌, ap}
use Rattle.std.proofs.lemmas.List.{take_all}
use Rattle.std.specs.List.{list_all}
use Rattle.der_print.specs.Shown.{is_shown}
use Rattle.der_print.proofs.AllLaws.{one_more}
use Rattle.der_print.proofs.shown.are_shown.Goals as goal

pub loop-octet-preserved : goal.loop-octet-preserved
loop-octet-preserved c =
    one_more is_shown c.args.octets.now c.loop-octet.octet-index c.loop-octet-test.true c.loop-octet.invariant c.is_shown-shown.ensures

pub returns : goal.returns
returns c = c.loop-octet.invariant ∙ ap (list_all is_shown) (take_all c.loop-octet.octet-index c.args.octets.now c.loop-octet-test.false)

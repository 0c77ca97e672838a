use Rattle.der_input.proofs.Lines.{labelled}
use Rattle.der_input.proofs.pem.first_label.Goals as goal

pub returns : goal.returns
returns c = labelled c.args.text.now c.in_ok-block.block.now c.split_round.result c.in_ok-block.ensures c.split_round.ensures

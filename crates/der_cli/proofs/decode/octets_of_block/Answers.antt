use Rattle.std.proofs.Common.{Global, Vec, ℕ}
use Rattle.der_input.specs.Blocks.{SpellsLines, lines_of}
use Rattle.der_cli.specs.Inputs.{AreUndecoded}
use Rattle.der_cli.proofs.Opening.{lines_fail, on_decoded}
use Rattle.der_cli.proofs.decode.octets_of_block.Goals as goal

pub returns : goal.returns
returns g c =
    let lines = lines_of c.args.block.now in
    on_decoded c.decode.result c.octets_or_report.result (AreUndecoded lines) (λ (v : Vec ℕ Global). SpellsLines lines v.items) (lines_fail c.decode.result lines c.decode.ensures.err)
    c.decode.ensures.ok c.octets_or_report.ensures

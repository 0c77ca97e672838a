use Rattle.std.proofs.Common.{ap, ◌∙◌}
use Rattle.std.specs.Fmt.{styled_decimal}
use Rattle.std.proofs.Output.{has_written_of_eq}
use Rattle.der_base.proofs.Times.TimesShown.{styled_at_least}
use Rattle.text_json.proofs.moment.DigitsDisplay.fmt.Goals as goal

pub returns-clause-writes : goal.returns-clause-writes
returns-clause-writes g c =
    let number = c.args.self.now.number in
    λ plain ok. has_written_of_eq _ _ _ _ _ (ap (λ s. styled_decimal s number) c.laid_out.ensures ∙ styled_at_least c.args.self.now.least number) (c.write.ensures.writes plain ok)

use Rattle.extension_text.proofs.NamesLaws.WriteLaws.{one, restated}
use Rattle.extension_text.proofs.names.lines.write_displayed.Goals as goal

pub returns : goal.returns
returns g c = restated (λ t x. (_, c.in_ok-text.ensures, x)) (one c.write.ensures.writes)

use Rattle.extension_text.proofs.NamesLaws.BackLaws.{first_alone, one_at_least}
use Rattle.extension_text.proofs.NamesLaws.WriteLaws.{restated}
use Rattle.extension_text.proofs.names.name.write_first.Goals as goal

pub returns-in-Some : goal.returns-in-Some
returns-in-Some g c = restated (λ t x. first_alone _ _ _ c.in-Some.ensures.steps x) c.write_relative_name.ensures

pub returns-in-None : goal.returns-in-None
returns-in-None g c = absurd (one_at_least _ c.requires c.in-None.ensures.steps.0)

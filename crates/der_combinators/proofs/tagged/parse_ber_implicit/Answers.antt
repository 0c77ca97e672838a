use Rattle.der_values.proofs.LawsLaws.Containers.OpenedLaws.{opened_run}
use Rattle.der_combinators.proofs.tagged.parse_ber_implicit.Goals as goal

pub returns : goal.returns
returns g c = (_, opened_run _ _ _ c.open_number.result c.parse_object_content.ensures.run c.open_number.ensures.ok c.open_number.ensures.err)

use Rattle.std.proofs.Common.{ap}
use Rattle.der_extensions.specs.GeneralNames.{edi_party_name}
use Rattle.der_extensions.proofs.NameLaws.{chosen_read, chosen_stops, kept_at}
use Rattle.der_extensions.proofs.general_name.read_edi_party_name.Goals as goal

pub returns-in_err-content : goal.returns-in_err-content
returns-in_err-content c = chosen_stops edi_party_name (kept_at c.in_err-content.ensures) c.from_residual.ensures.1

pub returns : goal.returns
returns c = chosen_read edi_party_name (ap edi_party_name c.remaining.ensures) (kept_at c.in_ok-content.ensures)

use Rattle.der_values.proofs.LawsLaws.PrettyLaws.{lengths_show_in_headers}
use Rattle.der_values.proofs.laws.lengths_show_in_headers.Goals as goal

pub returns : goal.returns
returns c = lengths_show_in_headers

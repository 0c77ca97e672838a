use Rattle.der_values.proofs.LawsLaws.Headers.StableHeaders.{ber_header_lengthens, der_header_lengthens}
use Rattle.der_values.proofs.laws.appended_lengthen_headers.Goals as goal

pub returns-clause-ber : goal.returns-clause-ber
returns-clause-ber c = ber_header_lengthens

pub returns-clause-der : goal.returns-clause-der
returns-clause-der c = der_header_lengthens

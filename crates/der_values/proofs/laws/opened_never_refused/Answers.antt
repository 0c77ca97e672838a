use Rattle.der_values.proofs.LawsLaws.Containers.ContainerLaws.{opened_passes, opened_number_passes, opened_explicit_passes}
use Rattle.der_values.proofs.laws.opened_never_refused.Goals as goal

pub returns-clause-any : goal.returns-clause-any
returns-clause-any g c rules i h w after o r = opened_passes h w after o

pub returns-clause-number : goal.returns-clause-number
returns-clause-number g c rules n i h w after o r = opened_number_passes n h w after o

pub returns-clause-explicit : goal.returns-clause-explicit
returns-clause-explicit g c rules n i h w after o r = opened_explicit_passes n h w after o

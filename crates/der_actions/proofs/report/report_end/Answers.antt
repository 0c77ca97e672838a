use Rattle.std.proofs.KnownBytes.{Keeps-refl}
use Rattle.der_actions.proofs.report.report_end.Goals as goal

pub returns-then-is_as_asked-clause-keeps : goal.returns-then-is_as_asked-clause-keeps
returns-then-is_as_asked-clause-keeps g c = Keeps-refl _

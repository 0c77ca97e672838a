use Rattle.std.proofs.Common.{length}
use Rattle.x509.specs.Certificates.{extension as extension_format}
use Rattle.x509.specs.Formats.{spells}
use Rattle.c_formats.specs.Found.{IsOfKind}
use Rattle.c_formats.proofs.Finding.{IsAhead}
use Rattle.c_formats.proofs.found.first_of_kind.Given as goal

-- what is found in the rest of the list is found in all of it
abbrev pub invariant-loop-found : goal.invariant-loop-found
invariant-loop-found l = IsAhead (spells extension_format) (IsOfKind l.kind) l.fn.extensions.octets.now l.extensions.octets.now

abbrev pub decreases-loop-found : goal.decreases-loop-found
decreases-loop-found l = length l.extensions.octets.now

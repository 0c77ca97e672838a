use Rattle.std.proofs.Common.{length}
use Rattle.der_base.specs.declared.rules.Rules.TheVariants.{Der}
use Rattle.der_extensions.specs.GeneralNames.{GeneralName}
use Rattle.c_formats.specs.Found.{IsDns}
use Rattle.c_formats.proofs.Finding.{IsAhead}
use Rattle.c_formats.proofs.found.first_dns_name.Given as goal

-- what is found in the rest of the list is found in all of it
abbrev pub invariant-loop-name : goal.invariant-loop-name
invariant-loop-name l = IsAhead (GeneralName Der) IsDns l.fn.names.octets.now l.names.octets.now

abbrev pub decreases-loop-name : goal.decreases-loop-name
decreases-loop-name l = length l.names.octets.now

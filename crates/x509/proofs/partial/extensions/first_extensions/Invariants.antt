use Rattle.std.proofs.Common.{length}
use Rattle.x509.specs.Certificates.{extension}
use Rattle.x509.specs.Formats.{Items, each, spells}
use Rattle.x509.proofs.partial.extensions.first_extensions.Given as goal

-- extensions so far
abbrev pub invariant-loop-behind : goal.invariant-loop-behind
invariant-loop-behind l = Items (λ s. spells (each extension s)) tt l.list tt l.rest

abbrev pub decreases-loop-behind : goal.decreases-loop-behind
decreases-loop-behind l = length l.rest

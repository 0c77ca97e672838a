use Rattle.std.proofs.Common.{◌-◌, ◌++◌, length}
use Rattle.x509.specs.Certificates.{certificate_of}
use Rattle.x509_rules.specs.Rules.{Breaks}
use Rattle.c_formats.proofs.BrokenNumbers.{BrokenSoFar}
use Rattle.c_formats.proofs.rules.put_broken.Given as goal

-- the numbers of the broken ones of the rules before the index were put
abbrev pub invariant-loop-rule : goal.invariant-loop-rule
invariant-loop-rule l =
    BrokenSoFar (λ r. Breaks r (certificate_of l.fn.certificate)) 1 (l.fn.rules ++ l.fn.others) l.index l.fn.numbers l.numbers l.count

abbrev pub decreases-loop-rule : goal.decreases-loop-rule
decreases-loop-rule l = length (l.fn.rules ++ l.fn.others) - l.index

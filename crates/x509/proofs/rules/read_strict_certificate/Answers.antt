use Rattle.std.proofs.Common.{Ok, Err}
use Rattle.x509.specs.declared.rules.StrictError.TheVariants.{NotRead, Broken}
use Rattle.x509.specs.Certificates.{certificate_of}
use Rattle.x509.proofs.RuleLaws.{reads_strictly}
use Rattle.x509.proofs.rules.read_strict_certificate.Goals as goal

pub returns-in-Err : goal.returns-in-Err
returns-in-Err c = reads_strictly c.args.octets.now (Err (NotRead c.in-Err.e)) c.in-Err.ensures.found

pub returns-in-Some : goal.returns-in-Some
returns-in-Some c = reads_strictly c.args.octets.now (Err (Broken c.in-Some.rule)) (certificate_of c.in-Ok.certificate, c.in-Ok.ensures.found, c.in-Some.ensures)

pub returns-in-None : goal.returns-in-None
returns-in-None c = reads_strictly c.args.octets.now (Ok c.in-Ok.certificate) (c.in-Ok.ensures.found, c.in-None.ensures)

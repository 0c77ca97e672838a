use Rattle.std.proofs.Common.{sym, ◌∙◌}
use Rattle.std.proofs.lemmas.Bool.{false≢true}
use Rattle.x509_rules.specs.Examined.{signed_of}
use Rattle.x509_rules.proofs.IssuerLaws.{shows_more}
use Rattle.x509_rules.proofs.whole.has_point_of_issuer.Goals as goal

pub returns-else-has : goal.returns-else-has
returns-else-has c = (λ h. absurd (false≢true (sym c.if-has.false ∙ h)), λ s. c.has.ensures.1 (shows_more c.args.known (signed_of c.args.certificate.now) s))

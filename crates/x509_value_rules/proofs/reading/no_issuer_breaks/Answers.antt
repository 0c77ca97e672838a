use Rattle.std.proofs.lemmas.Bool.{false≢true}
use Rattle.x509_value_rules.proofs.reading.no_issuer_breaks.Goals as goal

pub returns-then-lacks_issuer : goal.returns-then-lacks_issuer
returns-then-lacks_issuer c = λ w n. (λ h. absurd (false≢true h), λ s. absurd (n c.if-lacks_issuer.true c.args.rule s))

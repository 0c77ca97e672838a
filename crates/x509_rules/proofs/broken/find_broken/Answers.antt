use Rattle.std.proofs.Common.{subst}
use Rattle.x509_rules.specs.Broken.{FindsBroken}
use Rattle.x509_rules.proofs.broken.find_broken.Goals as goal

pub returns : goal.returns
returns c = subst (λ s. FindsBroken s c.args.rules.now c.first_broken.result) c.examine_for-examined.ensures.certificate c.first_broken.ensures

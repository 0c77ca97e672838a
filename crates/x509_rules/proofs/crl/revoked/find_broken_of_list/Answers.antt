use Rattle.std.proofs.Common.{subst}
use Rattle.x509_rules.specs.Crl.ListRules.{FindsBrokenOfList}
use Rattle.x509_rules.proofs.crl.revoked.find_broken_of_list.Goals as goal

pub returns : goal.returns
returns c = subst (λ s. FindsBrokenOfList s c.args.rules.now c.first_broken_of_list.result) c.examine_list_for-examined.ensures.list c.first_broken_of_list.ensures

use Rattle.der_contents.proofs.GrammarLaws.{never_told}
use Rattle.der_contents.proofs.RuleLaws.{not_fewest}
use Rattle.der_contents.proofs.real_forms.is_fewest.Goals as goal

pub returns-in-Err : goal.returns-in-Err
returns-in-Err c = never_told _ (λ m. not_fewest c.args.octets.now _ c.in-Err.ensures m)

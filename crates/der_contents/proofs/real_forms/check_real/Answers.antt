use Rattle.std.proofs.Common.{subst, sym}
use Rattle.der_contents.specs.ContentRules.{Checks, real_rules}
use Rattle.der_contents.proofs.GrammarLaws.{first_and_rest}
use Rattle.der_contents.proofs.real_forms.check_real.Goals as goal

pub returns-in-len1-up : goal.returns-in-len1-up
returns-in-len1-up c =
    subst (λ v. Checks (real_rules c.args.rules v) c.check_form.result)
    (sym (first_and_rest c.args.octets.now c.in-len1-up.len_at_least)) c.check_form.ensures

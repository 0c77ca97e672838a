use Rattle.std.proofs.Common.{subst}
use Rattle.der_contents.specs.ContentRules.{Checks, binary_rules}
use Rattle.der_contents.specs.RealForms.{mantissa_of}
use Rattle.der_contents.proofs.real_forms.check_binary.Goals as goal

pub returns : goal.returns
returns c =
    subst
    (λ e. Checks (binary_rules c.args.rules c.args.first e (mantissa_of c.args.first c.args.rest.now))
    c.check_parts.result)
    c.split_exponent.ensures.exponent
    (subst
    (λ m. Checks (binary_rules c.args.rules c.args.first c.split_exponent.result.0.now m) c.check_parts.result)
    c.split_exponent.ensures.mantissa c.check_parts.ensures)

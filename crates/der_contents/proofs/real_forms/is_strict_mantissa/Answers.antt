use Rattle.der_contents.specs.Grammar.{IsZero}
use Rattle.der_contents.proofs.GrammarLaws.{both_told, never_told, none_begins, one_is}
use Rattle.der_contents.proofs.real_forms.is_strict_mantissa.Goals as goal

pub returns-in-Some : goal.returns-in-Some
returns-in-Some c = never_told _ (λ h. one_is IsZero _ c.args.octets.now c.in-Some.ensures h.0)

pub returns-in-None : goal.returns-in-None
returns-in-None c = both_told _ _ _ (none_begins IsZero c.args.octets.now c.in-None.ensures) c.is_to_nonzero.ensures

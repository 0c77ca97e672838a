use Rattle.std.proofs.Common.{◌≡◌}
use Rattle.der_contents.proofs.GrammarLaws.{both_told, never_told, none_begins, one_is}
use Rattle.der_contents.proofs.real_forms.is_odd.Goals as goal

pub returns-in-Some : goal.returns-in-Some
returns-in-Some c = never_told _ (λ h. one_is (λ b. b ≡ 0) _ c.args.mantissa.now c.in-Some.ensures h.0)

pub returns-in-None : goal.returns-in-None
returns-in-None c = both_told _ _ _ (none_begins (λ b. b ≡ 0) c.args.mantissa.now c.in-None.ensures) c.ends_odd.ensures

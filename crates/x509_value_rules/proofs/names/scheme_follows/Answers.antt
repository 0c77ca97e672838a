use Rattle.std.proofs.Common.{refl}
use Rattle.std.proofs.lemmas.List.{nil_from_length}
use Rattle.x509_value_rules.proofs.SchemeLaws.{at_end, at_other, follows_start, past_character}
use Rattle.x509_value_rules.proofs.names.scheme_follows.Goals as goal

pub loop-first-init : goal.loop-first-init
loop-first-init c = follows_start refl

pub returns-then-not-is_scheme_character : goal.returns-then-not-is_scheme_character
returns-then-not-is_scheme_character c = at_other c.loop-first.invariant c.in-Some.ensures.cases.0 c.if-not-is_scheme_character.ensures c.ends_scheme.ensures

pub loop-first-preserved : goal.loop-first-preserved
loop-first-preserved c = past_character c.loop-first.invariant c.in-Some.ensures.cases.0 c.if-not-is_scheme_character.ensures

pub returns : goal.returns
returns c = at_end c.loop-first.invariant (nil_from_length c.loop-first.left.now c.in_default.ensures.cases)

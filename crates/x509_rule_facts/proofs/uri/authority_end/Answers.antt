use Rattle.std.proofs.Common.{◌∙◌, rules, tests}
use Rattle.std.proofs.lemmas.Iterator.{YieldsList-from_slice}
use Rattle.std.proofs.lemmas.Iterator.Search.{position_from_yields_List}
use Rattle.x509_rule_facts.proofs.PositionLaws.{first_or_length, within_length}
use Rattle.x509_rule_facts.proofs.uri.authority_end.Goals as goal

pub returns-clause-first : goal.returns-clause-first
returns-clause-first c =
    c.unwrap_or.ensures ∙ first_or_length _ c.args.text.now c.position.result (position_from_yields_List _ _ _ _ c.position.ensures.ran (YieldsList-from_slice c.args.text.now cc) (λ x b q k. search (rules, tests)))

pub returns-clause-within : goal.returns-clause-within
returns-clause-within c = within_length _ c.args.text.now _ (returns-clause-first c)

use Rattle.std.proofs.Common.{refl}
use Rattle.der_cursor.proofs.Sequences.{after, at_start, finish, left_over, start, stops}
use Rattle.x509_value_rules.specs.Parties.{EDIPartyName}
use Rattle.x509_value_rules.proofs.party_name.read_party.Goals as goal

pub returns-in_err-name_assigner : goal.returns-in_err-name_assigner
returns-in_err-name_assigner c = at_start EDIPartyName c.new-fields.result c.new-fields.ensures (λ fresh. stops _ (start _ fresh) c.in_err-name_assigner.ensures c.from_residual.ensures.1)

pub returns-in_err-party_name : goal.returns-in_err-party_name
returns-in_err-party_name c = at_start EDIPartyName c.new-fields.result c.new-fields.ensures (λ fresh. stops _ (after (start _ fresh) c.in_ok-name_assigner.ensures) c.in_err-party_name.ensures c.from_residual-in_err-party_name.ensures.1)

pub returns-in_err-end : goal.returns-in_err-end
returns-in_err-end c = at_start EDIPartyName c.new-fields.result c.new-fields.ensures (λ fresh. left_over _ (after (after (start _ fresh) c.in_ok-name_assigner.ensures) c.in_ok-party_name.ensures) c.in_err-end.ensures.0 c.from_residual-in_err-end.ensures.1)

pub returns : goal.returns
returns c = at_start EDIPartyName c.new-fields.result c.new-fields.ensures (λ fresh. finish (after (after (start _ fresh) c.in_ok-name_assigner.ensures) c.in_ok-party_name.ensures) c.in_ok-end.ensures refl)

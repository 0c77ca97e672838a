use Rattle.std.proofs.Common.{refl, sym}
use Rattle.der_cursor.proofs.FormatLaws.{inside, optional_read, value_read}
use Rattle.der_cursor.proofs.FieldLaws.{viewed}
use Rattle.std.proofs.lemmas.Iterator.Adapters.{option_map_id}
use Rattle.der_cursor.proofs.Sequences.{after, finish_with, refused_open, start, stops_never, stops_with}
use Rattle.messages.proofs.ldap.controls.read_control.Goals as goal

pub returns-in_err-fields : goal.returns-in_err-fields
returns-in_err-fields c = refused_open _ _ c.in_err-fields.ensures c.from_residual.ensures.1

pub returns-in_err-kind : goal.returns-in_err-kind
returns-in_err-kind c = inside _ _ c.in_ok-fields.ensures (λ fresh. stops_never _ (start c.in_ok-fields.fields fresh)
    (value_read _ c.in_err-kind.ensures) c.from_residual-in_err-kind.ensures.1)

pub returns-in_err-criticality : goal.returns-in_err-criticality
returns-in_err-criticality c = inside _ _ c.in_ok-fields.ensures (λ fresh. stops_never _ (after (start c.in_ok-fields.fields fresh) (value_read _ c.in_ok-kind.ensures))
    (viewed _ (λ x. sym (option_map_id x)) (optional_read _ 1 c.in_err-criticality.ensures)) c.from_residual-in_err-criticality.ensures.1)

pub returns-in_err-value : goal.returns-in_err-value
returns-in_err-value c = inside _ _ c.in_ok-fields.ensures (λ fresh. stops_never _ (after (after (start c.in_ok-fields.fields fresh) (value_read _ c.in_ok-kind.ensures)) (viewed _ (λ x. sym (option_map_id x)) (optional_read _ 1 c.in_ok-criticality.ensures)))
    (optional_read _ 4 c.in_err-value.ensures) c.from_residual-in_err-value.ensures.1)

pub returns-in_err-pass_over : goal.returns-in_err-pass_over
returns-in_err-pass_over c = inside _ _ c.in_ok-fields.ensures (λ fresh. stops_with _ (after (after (after (start c.in_ok-fields.fields fresh) (value_read _ c.in_ok-kind.ensures)) (viewed _ (λ x. sym (option_map_id x)) (optional_read _ 1 c.in_ok-criticality.ensures))) (optional_read _ 4 c.in_ok-value.ensures))
    c.in_err-pass_over.ensures c.from_residual-in_err-pass_over.ensures.1)

pub returns : goal.returns
returns c = inside _ _ c.in_ok-fields.ensures (λ fresh. finish_with (after (after (after (start c.in_ok-fields.fields fresh) (value_read _ c.in_ok-kind.ensures)) (viewed _ (λ x. sym (option_map_id x)) (optional_read _ 1 c.in_ok-criticality.ensures))) (optional_read _ 4 c.in_ok-value.ensures))
    c.in_ok-pass_over.ensures refl)

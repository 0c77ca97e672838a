use Rattle.std.proofs.Common.{refl}
use Rattle.der_cursor.proofs.FormatLaws.{value_read}
use Rattle.der_cursor.proofs.Sequences.{after, finish_with, start_as, stops, stops_never, stops_with}
use Rattle.messages.specs.Ldap.Filters.{item_content}
use Rattle.messages.specs.declared.ldap.filter.ItemKind.TheVariants.{Comparison, Extensible, Substrings}
use Rattle.messages.proofs.LdapLaws.FilterLaws.{item_opened, item_unopened}
use Rattle.messages.proofs.ldap.filter_items.read_substrings.Goals as goal

pub returns-in_err-fields : goal.returns-in_err-fields
returns-in_err-fields c = item_unopened Substrings refl c.in_err-fields.ensures c.from_residual.ensures.1

pub returns-in_err-attribute : goal.returns-in_err-attribute
returns-in_err-attribute c = item_opened Substrings refl c.in_ok-fields.ensures (λ fresh. stops_never _ (start_as _ _ fresh)
    (value_read _ c.in_err-attribute.ensures) c.from_residual-in_err-attribute.ensures.1)

pub returns-in_err-pieces : goal.returns-in_err-pieces
returns-in_err-pieces c = item_opened Substrings refl c.in_ok-fields.ensures (λ fresh. stops _ (after (start_as _ _ fresh) (value_read _ c.in_ok-attribute.ensures))
    (c.in_err-pieces.ensures) c.from_residual-in_err-pieces.ensures.1)

pub returns-in_err-pass_over : goal.returns-in_err-pass_over
returns-in_err-pass_over c = item_opened Substrings refl c.in_ok-fields.ensures (λ fresh. stops_with _ (after (after (start_as _ _ fresh) (value_read _ c.in_ok-attribute.ensures)) (c.in_ok-pieces.ensures))
    c.in_err-pass_over.ensures c.from_residual-in_err-pass_over.ensures.1)

pub returns : goal.returns
returns c = item_opened Substrings refl c.in_ok-fields.ensures (λ fresh. finish_with (after (after (start_as _ _ fresh) (value_read _ c.in_ok-attribute.ensures)) (c.in_ok-pieces.ensures))
    c.in_ok-pass_over.ensures refl)

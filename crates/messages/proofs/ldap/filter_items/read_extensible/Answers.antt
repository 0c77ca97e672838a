use Rattle.std.proofs.Common.{refl}
use Rattle.der_cursor.proofs.Sequences.{after, finish_with, start_as, stops_never, stops_with}
use Rattle.messages.specs.Ldap.Filters.{item_content}
use Rattle.messages.specs.declared.ldap.filter.ItemKind.TheVariants.{Comparison, Extensible, Substrings}
use Rattle.messages.proofs.LdapLaws.FilterLaws.{item_opened, item_unopened}
use Rattle.messages.proofs.ldap.filter_items.read_extensible.Goals as goal

pub returns-in_err-fields : goal.returns-in_err-fields
returns-in_err-fields c = item_unopened Extensible refl c.in_err-fields.ensures c.from_residual.ensures.1

pub returns-in_err-rule : goal.returns-in_err-rule
returns-in_err-rule c = item_opened Extensible refl c.in_ok-fields.ensures (λ fresh. stops_never _ (start_as _ _ fresh)
    (c.in_err-rule.ensures) c.from_residual-in_err-rule.ensures.1)

pub returns-in_err-attribute : goal.returns-in_err-attribute
returns-in_err-attribute c = item_opened Extensible refl c.in_ok-fields.ensures (λ fresh. stops_never _ (after (start_as _ _ fresh) (c.in_ok-rule.ensures))
    (c.in_err-attribute.ensures) c.from_residual-in_err-attribute.ensures.1)

pub returns-in_err-value : goal.returns-in_err-value
returns-in_err-value c = item_opened Extensible refl c.in_ok-fields.ensures (λ fresh. stops_never _ (after (after (start_as _ _ fresh) (c.in_ok-rule.ensures)) (c.in_ok-attribute.ensures))
    (c.in_err-value.ensures) c.from_residual-in_err-value.ensures.1)

pub returns-in_err-name_attributes : goal.returns-in_err-name_attributes
returns-in_err-name_attributes c = item_opened Extensible refl c.in_ok-fields.ensures (λ fresh. stops_never _ (after (after (after (start_as _ _ fresh) (c.in_ok-rule.ensures)) (c.in_ok-attribute.ensures)) (c.in_ok-value.ensures))
    (c.in_err-name_attributes.ensures) c.from_residual-in_err-name_attributes.ensures.1)

pub returns-in_err-pass_over : goal.returns-in_err-pass_over
returns-in_err-pass_over c = item_opened Extensible refl c.in_ok-fields.ensures (λ fresh. stops_with _ (after (after (after (after (start_as _ _ fresh) (c.in_ok-rule.ensures)) (c.in_ok-attribute.ensures)) (c.in_ok-value.ensures)) (c.in_ok-name_attributes.ensures))
    c.in_err-pass_over.ensures c.from_residual-in_err-pass_over.ensures.1)

pub returns : goal.returns
returns c = item_opened Extensible refl c.in_ok-fields.ensures (λ fresh. finish_with (after (after (after (after (start_as _ _ fresh) (c.in_ok-rule.ensures)) (c.in_ok-attribute.ensures)) (c.in_ok-value.ensures)) (c.in_ok-name_attributes.ensures))
    c.in_ok-pass_over.ensures refl)

use Rattle.std.proofs.Common.{refl, rules}
use Rattle.der_base.specs.declared.header.Class.TheVariants.{Application}
use Rattle.der_cursor.specs.Formats.{NoMemoryIn, Null, OctetString, Tagged}
use Rattle.der_cursor.proofs.FormatLaws.{returned, tagged_read}
use Rattle.der_cursor.proofs.Sequences.{content_named, mapped_read, may_need, named, not_mapped}
use Rattle.messages.specs.Ldap.Messages.{Natural, list_content, name, nothing}
use Rattle.messages.proofs.LdapLaws.OperationLaws.{is_constructed, list_opened, list_unopened}
use Rattle.messages.proofs.ldap.reader.read_content.Goals as goal

pub returns-in_err-named-in-UnbindRequest : goal.returns-in_err-named-in-UnbindRequest
returns-in_err-named-in-UnbindRequest c = rw c.in-UnbindRequest.is
    (not_mapped (λ v. nothing) (Tagged Application 2 Null) _ c.from_residual.ensures.1 (may_need NoMemoryIn _ (named _ (tagged_read _ c.implicit_of-field.ensures.tagged c.null.ensures) c.in_err-named-in-UnbindRequest.ensures)))

pub returns-in_ok-named-in-UnbindRequest : goal.returns-in_ok-named-in-UnbindRequest
returns-in_ok-named-in-UnbindRequest c = rw c.in-UnbindRequest.is
    (returned (mapped_read (λ v. nothing) (Tagged Application 2 Null) refl (named _ (tagged_read _ c.implicit_of-field.ensures.tagged c.null.ensures) c.in_ok-named-in-UnbindRequest.ensures)) (search rules))

pub returns-in_err-named-in-AbandonRequest : goal.returns-in_err-named-in-AbandonRequest
returns-in_err-named-in-AbandonRequest c = rw c.in-AbandonRequest.is
    (not_mapped (λ v. nothing) (Tagged Application 16 Natural) _ c.from_residual-in_err-named-in-AbandonRequest.ensures.1 (may_need NoMemoryIn _ (named _ (tagged_read _ c.implicit_of-field-in-AbandonRequest.ensures.tagged c.u32.ensures) c.in_err-named-in-AbandonRequest.ensures)))

pub returns-in_ok-named-in-AbandonRequest : goal.returns-in_ok-named-in-AbandonRequest
returns-in_ok-named-in-AbandonRequest c = rw c.in-AbandonRequest.is
    (returned (mapped_read (λ v. nothing) (Tagged Application 16 Natural) refl
    (named _ (tagged_read _ c.implicit_of-field-in-AbandonRequest.ensures.tagged c.u32.ensures) c.in_ok-named-in-AbandonRequest.ensures)) (search rules))

pub returns-in_err-named-in-DelRequest : goal.returns-in_err-named-in-DelRequest
returns-in_err-named-in-DelRequest c = rw c.in-DelRequest.is
    (not_mapped (λ v. name v) (Tagged Application 10 OctetString) _ c.from_residual-in_err-named-in-DelRequest.ensures.1 (may_need NoMemoryIn _ (named _ (tagged_read _ c.implicit_of-field-in-DelRequest.ensures.tagged c.octets.ensures) c.in_err-named-in-DelRequest.ensures)))

pub returns-in_ok-named-in-DelRequest : goal.returns-in_ok-named-in-DelRequest
returns-in_ok-named-in-DelRequest c = rw c.in-DelRequest.is
    (returned (mapped_read (λ v. name v) (Tagged Application 10 OctetString) refl
    (named _ (tagged_read _ c.implicit_of-field-in-DelRequest.ensures.tagged c.octets.ensures) c.in_ok-named-in-DelRequest.ensures)) (search rules))

pub returns-in_err-list-in_default : goal.returns-in_err-list-in_default
returns-in_err-list-in_default c =
    list_unopened c.args.operation (is_constructed c.args.operation c.in_default.not-UnbindRequest c.in_default.not-AbandonRequest c.in_default.not-DelRequest)
    c.tag.ensures _ _ c.open-list.ensures c.in_err-list-in_default.ensures
    c.from_residual-in_err-list-in_default.ensures.1

pub returns-in_ok-list-in_default : goal.returns-in_ok-list-in_default
returns-in_ok-list-in_default c =
    list_opened c.args.operation (is_constructed c.args.operation c.in_default.not-UnbindRequest c.in_default.not-AbandonRequest c.in_default.not-DelRequest)
    c.tag.ensures _ c.in_ok-list-in_default.list c.open-list.ensures c.in_ok-list-in_default.ensures
    (content_named _ (list_content c.args.operation) c.in_ok-list-in_default.list c.read_list.ensures c.named-in_default-2.ensures)

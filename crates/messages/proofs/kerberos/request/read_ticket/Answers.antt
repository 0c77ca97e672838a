use Rattle.std.proofs.Common.{refl}
use Rattle.der_cursor.proofs.Sequences.{named, named_in}
use Rattle.der_cursor.proofs.FieldLaws.{gives, got, got_then, passed, refused, refused_first, refused_never, refused_then, returned_refusal}
use Rattle.messages.proofs.kerberos.request.read_ticket.Goals as goal

pub returns-in_err-named : goal.returns-in_err-named
returns-in_err-named c = returned_refusal _ (refused_first _ (refused_never (passed (named _ c.read_options.ensures c.in_err-named.ensures)))) c.from_residual.ensures.1

pub returns-in_err-client : goal.returns-in_err-client
returns-in_err-client c = returned_refusal _ (refused_then (got (passed (named _ c.read_options.ensures c.in_ok-named.ensures))) (refused_first _ (refused
    (named_in _ c.read_principal.ensures c.in_err-client.ensures)))) c.from_residual-in_err-client.ensures.1

pub returns-in_err-realm : goal.returns-in_err-realm
returns-in_err-realm c = returned_refusal _ (refused_then (got (passed (named _ c.read_options.ensures c.in_ok-named.ensures))) (refused_then (got
    (named_in _ c.read_principal.ensures c.in_ok-client.ensures)) (refused_first _ (refused_never (named _ c.read_realm.ensures c.in_err-realm.ensures))))) c.from_residual-in_err-realm.ensures.1

pub returns-in_err-server : goal.returns-in_err-server
returns-in_err-server c = returned_refusal _ (refused_then (got (passed (named _ c.read_options.ensures c.in_ok-named.ensures))) (refused_then (got
    (named_in _ c.read_principal.ensures c.in_ok-client.ensures)) (refused_then (got (named _ c.read_realm.ensures c.in_ok-realm.ensures)) (refused_first _ (refused
    (named_in _ c.read_principal-2.ensures c.in_err-server.ensures)))))) c.from_residual-in_err-server.ensures.1

pub returns-in_err-from : goal.returns-in_err-from
returns-in_err-from c = returned_refusal _ (refused_then (got (passed (named _ c.read_options.ensures c.in_ok-named.ensures))) (refused_then (got
    (named_in _ c.read_principal.ensures c.in_ok-client.ensures)) (refused_then (got (named _ c.read_realm.ensures c.in_ok-realm.ensures)) (refused_then (got
    (named_in _ c.read_principal-2.ensures c.in_ok-server.ensures)) (refused_first _ (refused_never c.in_err-from.ensures)))))) c.from_residual-in_err-from.ensures.1

pub returns-in_err-named-2 : goal.returns-in_err-named-2
returns-in_err-named-2 c = returned_refusal _ (refused_then (got (passed (named _ c.read_options.ensures c.in_ok-named.ensures))) (refused_then (got
    (named_in _ c.read_principal.ensures c.in_ok-client.ensures)) (refused_then (got (named _ c.read_realm.ensures c.in_ok-realm.ensures)) (refused_then (got
    (named_in _ c.read_principal-2.ensures c.in_ok-server.ensures)) (refused_then (got c.in_ok-from.ensures) (refused_first _ (refused_never (passed
    (named _ c.read_nonce.ensures c.in_err-named-2.ensures))))))))) c.from_residual-in_err-named-2.ensures.1

pub returns-in_err-encryption_kinds : goal.returns-in_err-encryption_kinds
returns-in_err-encryption_kinds c = returned_refusal _ (refused_then (got (passed (named _ c.read_options.ensures c.in_ok-named.ensures))) (refused_then (got
    (named_in _ c.read_principal.ensures c.in_ok-client.ensures)) (refused_then (got (named _ c.read_realm.ensures c.in_ok-realm.ensures)) (refused_then (got
    (named_in _ c.read_principal-2.ensures c.in_ok-server.ensures)) (refused_then (got c.in_ok-from.ensures) (refused_then (got (passed (named _ c.read_nonce.ensures c.in_ok-named-2.ensures)))
    (refused (named_in _ c.read_kinds.ensures c.in_err-encryption_kinds.ensures)))))))) c.from_residual-in_err-encryption_kinds.ensures.1

pub returns : goal.returns
returns c = gives refl (got_then (got (passed (named _ c.read_options.ensures c.in_ok-named.ensures))) (got_then (got (named_in _ c.read_principal.ensures c.in_ok-client.ensures)) (got_then (got
    (named _ c.read_realm.ensures c.in_ok-realm.ensures)) (got_then (got (named_in _ c.read_principal-2.ensures c.in_ok-server.ensures)) (got_then (got c.in_ok-from.ensures) (got_then (got
    (passed (named _ c.read_nonce.ensures c.in_ok-named-2.ensures))) (got (named_in _ c.read_kinds.ensures c.in_ok-encryption_kinds.ensures))))))))

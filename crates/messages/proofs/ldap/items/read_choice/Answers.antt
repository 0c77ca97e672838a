use Rattle.std.proofs.lemmas.Result.{err_from_is_err_and}
use Rattle.der_cursor.proofs.FormatLaws.{any_read}
use Rattle.messages.proofs.LdapLaws.ContentLaws.{choice_turned, no_choice}
use Rattle.messages.proofs.ldap.items.read_choice.Goals as goal

pub returns-in_err-element : goal.returns-in_err-element
returns-in_err-element c =
    let q = err_from_is_err_and c.from_residual.result c.from_residual.ensures.1 in
    rw (q.1, q.2) (no_choice (any_read c.in_err-element.ensures))

pub returns : goal.returns
returns c = choice_turned _ _ c.in_ok-element.element c.assert_class-class.result c.map_err.result (any_read c.in_ok-element.ensures) c.assert_class-class.ensures c.map_err.ensures.cases

use Rattle.std.proofs.Common.{refl}
use Rattle.der_cursor.specs.Formats.{AnyElement, Passed}
use Rattle.std.proofs.lemmas.Result.{err_from_is_err_and}
use Rattle.der_cursor.proofs.FormatLaws.{any_read}
use Rattle.der_cursor.proofs.FieldLaws.{gives, got, passed, refused, refuses}
use Rattle.messages.proofs.ldap.items.pass_element.Goals as goal

pub returns-in_err-any : goal.returns-in_err-any
returns-in_err-any c =
    let q = err_from_is_err_and c.from_residual.result c.from_residual.ensures.1 in
    rw (q.1, q.2) (refuses (refused (passed (any_read c.in_err-any.ensures))))

pub returns : goal.returns
returns c = gives {F = Passed AnyElement} {view = λ (u : Unit {0}). u} {v = tt} refl (got (passed (any_read c.in_ok-any.ensures)))

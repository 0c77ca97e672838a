use Rattle.std.proofs.Common.{refl, sym}
use Rattle.std.proofs.lemmas.Iterator.Adapters.{option_map_id}
use Rattle.std.proofs.lemmas.Result.{err_from_is_err_and}
use Rattle.der_cursor.proofs.FormatLaws.{tagged_absent, tagged_inside, tagged_stops, tagged_unopened}
use Rattle.der_cursor.proofs.FieldLaws.{gives, got, viewed}
use Rattle.messages.proofs.kerberos.fields.read_time.Goals as goal

pub returns-in_err-field : goal.returns-in_err-field
returns-in_err-field c =
    let q = err_from_is_err_and c.from_residual.result c.from_residual.ensures.1 in
    rw q.1 (tagged_unopened _ _ c.in_err-field.ensures)

pub returns-in_err-read_last_time-in-Some : goal.returns-in_err-read_last_time-in-Some
returns-in_err-read_last_time-in-Some c =
    let q = err_from_is_err_and c.from_residual-in_err-read_last_time-in-Some.result c.from_residual-in_err-read_last_time-in-Some.ensures.1 in
    rw (q.1, q.2) (tagged_stops _ _ (rw c.in-Some.is at c.in_ok-field.ensures) c.in_err-read_last_time-in-Some.ensures)

pub returns-in_ok-read_last_time-in-Some : goal.returns-in_ok-read_last_time-in-Some
returns-in_ok-read_last_time-in-Some c = gives refl (got (tagged_inside _ _ (rw c.in-Some.is at c.in_ok-field.ensures) c.in_ok-read_last_time-in-Some.ensures))

pub returns-in-None : goal.returns-in-None
returns-in-None c = viewed _ (λ x. sym (option_map_id x)) (tagged_absent _ _ (rw c.in-None.is at c.in_ok-field.ensures))

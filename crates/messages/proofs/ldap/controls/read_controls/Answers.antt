use Rattle.std.proofs.Common.{rules}
use Rattle.std.specs.Global.{Vec}
use Rattle.std.proofs.lemmas.Result.{err_from_is_err_and}
use Rattle.der_cursor.specs.Formats.{Each, Required}
use Rattle.der_cursor.proofs.FormatLaws.{required_takes, tagged_absent, tagged_inside, tagged_stops, tagged_unopened}
use Rattle.der_cursor.proofs.Lists.{all_read}
use Rattle.messages.specs.declared.ldap.message.Control.{Control as ControlStruct}
use Rattle.messages.specs.Ldap.Messages.{Control, control_of, controls_of}
use Rattle.messages.proofs.ldap.controls.read_controls.Goals as goal

pub returns-in_err-inside : goal.returns-in_err-inside
returns-in_err-inside c =
    let q = err_from_is_err_and c.from_residual.result c.from_residual.ensures.1 in
    rw q.1 (tagged_unopened _ _ c.in_err-inside.ensures)

pub returns-in-None : goal.returns-in-None
returns-in-None c =
    let absent = rw c.in-None.is at c.in_ok-inside.ensures in
    tagged_absent 0 (Each (Required Control)) {view = λ (x : Vec ControlStruct). controls_of x.items} absent

pub returns-in_err-read_all-in-Some : goal.returns-in_err-read_all-in-Some
returns-in_err-read_all-in-Some c =
    let q = err_from_is_err_and c.from_residual-in_err-read_all-in-Some.result c.from_residual-in_err-read_all-in-Some.ensures.1 in
    let opened = rw c.in-Some.is at c.in_ok-inside.ensures in
    rw (q.1, q.2) (tagged_stops 0 (Each (Required Control)) {T = Vec ControlStruct} {view = λ x. controls_of x.items} opened
    (all_read (Required Control) control_of (required_takes Control) (λ f g a b r s. search rules) _ _ _ _ c.in_err-read_all-in-Some.ensures))

pub returns-in_ok-read_all-in-Some : goal.returns-in_ok-read_all-in-Some
returns-in_ok-read_all-in-Some c =
    let opened = rw c.in-Some.is at c.in_ok-inside.ensures in
    tagged_inside 0 (Each (Required Control)) opened
    (all_read (Required Control) control_of (required_takes Control) (λ f g a b r s. search rules) (λ i k e. Unit {0}) _ _ _ c.in_ok-read_all-in-Some.ensures)

use Rattle.std.proofs.Common.{List, ℕ, Bor, rules}
use Rattle.std.specs.Global.{Vec}
use Rattle.std.proofs.lemmas.Result.{err_from_is_err_and}
use Rattle.der_cursor.specs.Formats.{Never, NoMemory, OctetString, ReadsField, Required}
use Rattle.der_cursor.proofs.FormatLaws.{required_takes, tagged_absent, tagged_inside, tagged_stops, tagged_unopened}
use Rattle.der_cursor.proofs.Lists.{all_read}
use Rattle.der_cursor.proofs.Sequences.{may_need}
use Rattle.messages.specs.Ldap.Messages.{Texts, texts_of}
use Rattle.messages.proofs.ldap.controls.read_referral.Goals as goal

pub returns-in_err-inside : goal.returns-in_err-inside
returns-in_err-inside c =
    let q = err_from_is_err_and c.from_residual.result c.from_residual.ensures.1 in
    rw q.1 (tagged_unopened _ _ c.in_err-inside.ensures)

pub returns-in-None : goal.returns-in-None
returns-in-None c =
    let absent = rw c.in-None.is at c.in_ok-inside.ensures in
    tagged_absent 3 Texts {view = λ (x : Vec (Bor (List ℕ))). texts_of x.items} absent

pub returns-in_err-read_all-in-Some : goal.returns-in_err-read_all-in-Some
returns-in_err-read_all-in-Some c =
    let q = err_from_is_err_and c.from_residual-in_err-read_all-in-Some.result c.from_residual-in_err-read_all-in-Some.ensures.1 in
    let opened = rw c.in-Some.is at c.in_ok-inside.ensures in
    rw (q.1, q.2) (tagged_stops 3 Texts {T = Vec (Bor (List ℕ))} {view = λ x. texts_of x.items} opened
    (all_read (Required OctetString) (λ x. x.now) (required_takes OctetString)
    (λ f g a b r s. let h : ReadsField (Required OctetString) (λ x. x.now) Never a.now r b.now = search rules in may_need NoMemory r h) _ _ _ _ c.in_err-read_all-in-Some.ensures))

pub returns-in_ok-read_all-in-Some : goal.returns-in_ok-read_all-in-Some
returns-in_ok-read_all-in-Some c =
    let opened = rw c.in-Some.is at c.in_ok-inside.ensures in
    tagged_inside 3 Texts opened
    (all_read (Required OctetString) (λ x. x.now) (required_takes OctetString)
    (λ f g a b r s. let h : ReadsField (Required OctetString) (λ x. x.now) Never a.now r b.now = search rules in may_need NoMemory r h) (λ i k e. Unit {0}) _ _ _ c.in_ok-read_all-in-Some.ensures)

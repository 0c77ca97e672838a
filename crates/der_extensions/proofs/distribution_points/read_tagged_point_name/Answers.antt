use Rattle.std.proofs.lemmas.Result.{err_from_is_err_and}
use Rattle.der_cursor.specs.Formats.{Only}
use Rattle.der_cursor.proofs.FormatLaws.{tagged_absent, tagged_inside, tagged_stops, tagged_unopened}
use Rattle.der_cursor.proofs.Sequences.{only_left, only_read, only_stops}
use Rattle.der_extensions.specs.Extensions.{DistributionPointName, PointNameValue, point_name_of}
use Rattle.der_extensions.proofs.distribution_points.read_tagged_point_name.Goals as goal

pub returns-in_err-inside : goal.returns-in_err-inside
returns-in_err-inside c =
    let q = err_from_is_err_and c.from_residual.result c.from_residual.ensures.1 in
    rw q.1 (tagged_unopened _ _ c.in_err-inside.ensures)

pub returns-in_default : goal.returns-in_default
returns-in_default c =
    let absent = rw c.in_default.is at c.in_ok-inside.ensures in
    tagged_absent 0 (Only DistributionPointName) {view = point_name_of} absent

pub returns-in_err-name : goal.returns-in_err-name
returns-in_err-name c =
    let q = err_from_is_err_and c.from_residual-in_err-name.result c.from_residual-in_err-name.ensures.1 in
    let opened = rw c.in-Some.is at c.in_ok-inside.ensures in
    rw (q.1, q.2) (tagged_stops 0 (Only DistributionPointName) {T = PointNameValue} {view = λ v. v} opened (only_stops c.in_err-name.ensures))

pub returns-in_err-end : goal.returns-in_err-end
returns-in_err-end c =
    let q = err_from_is_err_and c.from_residual-in_err-end.result c.from_residual-in_err-end.ensures.1 in
    let opened = rw c.in-Some.is at c.in_ok-inside.ensures in
    rw q.1 (tagged_stops 0 (Only DistributionPointName) {T = PointNameValue} {view = λ v. v} opened (only_left c.in_ok-name.ensures c.in_err-end.ensures.0))

pub returns : goal.returns
returns c =
    let opened = rw c.in-Some.is at c.in_ok-inside.ensures in
    tagged_inside 0 (Only DistributionPointName) opened (only_read c.in_ok-name.ensures c.in_ok-end.ensures)

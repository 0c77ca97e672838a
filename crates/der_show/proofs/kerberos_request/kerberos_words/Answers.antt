use Rattle.std.proofs.Common.{codes}
use Rattle.der_base.specs.declared.rules.Rules.TheVariants.{Der}
use Rattle.messages.specs.Kerberos.Requests.{AsReq, RequestValue, request_of}
use Rattle.der_show.specs.Messages.{Is, IsKerberos}
use Rattle.der_show.proofs.ByTypeLaws.{shows_on}
use Rattle.der_show.proofs.Found.{after_error}
use Rattle.der_show.proofs.kerberos_request.kerberos_words.Goals as goal

pub returns-in-Ok : goal.returns-in-Ok
returns-in-Ok c =
    shows_on (λ i. (v : RequestValue) × Is Der AsReq i v) c.args.types.now (codes "AS-REQ") c.args.octets.now
    c.words_by_name.result (request_of c.in-Ok._request, c.in-Ok.ensures.value.found) c.words_by_name.ensures

pub returns-in-Err : goal.returns-in-Err
returns-in-Err c =
    after_error (λ found. IsKerberos c.args.types.now c.args.octets.now found) _ c.none_after.ensures
    (λ no w v words. no (c.in-Err.ensures.value.only v.0 v.1))

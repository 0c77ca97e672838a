use Rattle.std.proofs.Common.{true}
use Rattle.std.proofs.lemmas.Result.{err_from_is_err_and}
use Rattle.der_base.specs.declared.header.Class.TheVariants.{ContextSpecific}
use Rattle.x509.proofs.ReaderLaws.{element_read, finished, opened_tag, step, stop, within_whole}
use Rattle.x509_keys.proofs.request.attribute.read_attributes.Goals as goal

pub returns-in_err-list : goal.returns-in_err-list
returns-in_err-list c =
    let q = err_from_is_err_and c.from_residual.result c.from_residual.ensures.1 in
    rw (q.1, q.2) (stop (element_read ContextSpecific true 0 c.in_err-list.ensures))

pub returns-in_err-check_attributes : goal.returns-in_err-check_attributes
returns-in_err-check_attributes c =
    let q = err_from_is_err_and c.from_residual-in_err-check_attributes.result c.from_residual-in_err-check_attributes.ensures.1 in
    rw (q.1, q.2) (opened_tag 0 c.in_ok-list.ensures (λ i. stop (within_whole i c.in_err-check_attributes.ensures)))

pub returns : goal.returns
returns c = opened_tag 0 c.in_ok-list.ensures (λ i. step (within_whole i c.in_ok-check_attributes.ensures) (finished c.remaining.ensures))

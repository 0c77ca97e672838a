use Rattle.std.proofs.Common.{ap, ◌∙◌}
use Rattle.std.proofs.lemmas.Result.{err_from_is_err_and}
use Rattle.der_text.specs.Encoded.{all_before, state_of}
use Rattle.der_text.proofs.Sequences.{all_fault, last_before}
use Rattle.der_text.proofs.encoder.encode.Goals as goal

pub returns-in_err-put : goal.returns-in_err-put
returns-in_err-put c =
    let p = err_from_is_err_and c.from_residual.result c.from_residual.ensures.1 in
    let s = state_of c.loop-item.encoder in
    rw (p.1, p.2) (all_fault c.args.items.now c.in-Some.others.now c.in-Some.item.now s c.in_err-put.field-0.0
    (c.loop-item.invariant ∙ ap (λ r. all_before r s) c.in-Some.ensures.cases.0) c.in_err-put.ensures)

pub loop-item-preserved : goal.loop-item-preserved
loop-item-preserved c =
    let s = state_of c.loop-item.encoder in
    c.loop-item.invariant ∙ ap (λ r. all_before r s) c.in-Some.ensures.cases.0
    ∙ last_before c.in-Some.others.now c.in-Some.item.now s (state_of c.put.new.self) c.in_ok-put.ensures

use Rattle.std.proofs.Common.{Ok, Err, refl, subst}
use Rattle.der_contents.specs.ContentRules.{Checks, content_rules}
use Rattle.der_canon.proofs.Forms.{in_form}
use Rattle.der_canon.proofs.value.check_form.Goals as goal

pub returns-in-Ok : goal.returns-in-Ok
returns-in-Ok c =
    let t = c.args.number in
    let w = c.args.content.now in
    in_form t w (Ok tt) (subst (λ r. Checks (content_rules r t w) (Ok tt)) c.rules_of.ensures c.in-Ok.ensures)

pub returns-in-Err : goal.returns-in-Err
returns-in-Err c =
    let t = c.args.number in
    let w = c.args.content.now in
    let e = c.in-Err.e in
    (e, in_form t w (Err e) (subst (λ r. Checks (content_rules r t w) (Err e)) c.rules_of.ensures c.in-Err.ensures), refl)

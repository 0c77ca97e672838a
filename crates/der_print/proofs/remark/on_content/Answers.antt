use Rattle.std.proofs.Common.{ap, inl, subst}
use Rattle.der_base.specs.declared.rules.Rules.TheVariants.{Ber}
use Rattle.der_contents.specs.ContentRules.{IsContent, IsFirstBroken, content_rules}
use Rattle.der_print.specs.Remarks.{rule_of_content}
use Rattle.der_print.proofs.remark.on_content.Goals as goal

pub returns-in-Ok : goal.returns-in-Ok
returns-in-Ok c = inl (c.requires, subst (IsContent Ber c.args.element.now.number) c.octets_or_none-octets.ensures c.in-Ok.ensures)

pub returns-in-Err : goal.returns-in-Err
returns-in-Err c =
    let t = c.args.element.now.number in
    let e = c.in-Err.error in
    let same = c.octets_or_none-octets.ensures in
    inl (c.requires, e, subst (λ w. IsFirstBroken (content_rules Ber t w) e) same c.in-Err.ensures, ap (rule_of_content e t) same)

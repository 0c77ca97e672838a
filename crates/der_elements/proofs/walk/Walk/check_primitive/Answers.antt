use Rattle.std.proofs.Common.{◌≡◌, ◌∙◌, ap, inl, inr, refl, rules, subst, sym}
use Rattle.der_base.specs.declared.header.Class.TheVariants.{Universal}
use Rattle.der_contents.specs.ContentRules.{IsContent, IsFirstBroken, content_rules}
use Rattle.der_elements.specs.Reading.{octets_or_none}
use Rattle.der_elements.proofs.ElementReads.{not_all_hold, or_none}
use Rattle.der_elements.proofs.walk.Walk.check_primitive.Goals as goal

pub returns-in_default-clause-checked : goal.returns-in_default-clause-checked
returns-in_default-clause-checked c =
    let e = c.args.element.now in
    let same : c.unwrap_or-content.result.now ≡ octets_or_none e.content = ap (λ w. w.now) c.unwrap_or-content.ensures ∙ or_none e.content _ refl in
    inr (inl (c.requires, (λ q. (c.if-element-eq0.false, subst (λ l. IsContent c.args.self.now.content.rules e.number l) same c.in_default.ensures)), refl))

pub returns-then-keeps-clause-checked : goal.returns-then-keeps-clause-checked
returns-then-keeps-clause-checked c =
    let e = c.args.element.now in
    let same : c.unwrap_or-content.result.now ≡ octets_or_none e.content = ap (λ w. w.now) c.unwrap_or-content.ensures ∙ or_none e.content _ refl in
    let k = c.if-keeps.ensures.0 refl in
    let uni : e.class ≡ Universal = search rules in
    inr (inr (c.requires, refl, k.0, k.1, uni, c.if-element-eq0.false, λ has. not_all_hold _ c.in-Err.e c.in-Err.ensures (subst (λ l. IsContent c.args.self.now.content.rules e.number l) (sym same) has)))

pub returns-clause-refused : goal.returns-clause-refused
returns-clause-refused c =
    let e = c.args.element.now in
    let same : c.unwrap_or-content.result.now ≡ octets_or_none e.content = ap (λ w. w.now) c.unwrap_or-content.ensures ∙ or_none e.content _ refl in
    let uni : e.class ≡ Universal = search rules in
    let first = subst (λ l. IsFirstBroken (content_rules c.args.self.now.content.rules e.number l) c.in-Err.e) same c.in-Err.ensures in
    record {
      fails = inr (c.requires, uni, inr (c.if-element-eq0.false, (λ k. absurd (let t = c.keeps.ensures.1 k in let f = c.if-keeps.false in cc)), c.in-Err.e, first, c.of-2.ensures.cause));
      offset = c.of-2.ensures.offset;
      step = c.of-2.ensures.step;
    }

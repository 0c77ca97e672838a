use Rattle.std.proofs.Common.{◌≡◌, Ok, pos, refl, subst, inr, rules}
use Rattle.der_base.specs.declared.rules.Rules.TheVariants.{Der}
use Rattle.der_base.specs.Numbers.{unsigned}
use Rattle.der_values.specs.Kinds.{numbers}
use Rattle.der_cursor.specs.Cursors.{IsNextType, ReadsValue}
use Rattle.der_cursor.proofs.cursor.Cursor.u32_or.Goals as goal

pub returns-then-eq : goal.returns-then-eq
returns-then-eq c =
    let old = c.args.self.now in
    let after = c.u32.new.self in
    let kind = numbers old.rules (unsigned 32) in
    let next : IsNextType 2 old = search rules in
    let read : ReadsValue pos kind 2 old (Ok c.in-Ok.number) after = c.in-Ok.ensures in
    let same : c.in-Ok.number ≡ c.args.default = search rules in
    let der : old.rules ≡ Der = search rules in
    (next, inr (der, after, subst (λ v. ReadsValue pos kind 2 old (Ok v) after) same read, c.refused.ensures, refl))

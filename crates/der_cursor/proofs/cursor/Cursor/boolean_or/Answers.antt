use Rattle.std.proofs.Common.{◌≡◌, Ok, refl, subst, inr, rules}
use Rattle.der_base.specs.declared.rules.Rules.TheVariants.{Der}
use Rattle.der_values.specs.Kinds.{booleans}
use Rattle.der_cursor.specs.Cursors.{IsNextType, ReadsValue}
use Rattle.der_cursor.proofs.cursor.Cursor.boolean_or.Goals as goal

pub returns-then-eq : goal.returns-then-eq
returns-then-eq c =
    let old = c.args.self.now in
    let after = c.boolean.new.self in
    let next : IsNextType 1 old = search rules in
    let read : ReadsValue (λ x. x) (booleans old.rules) 1 old (Ok c.in-Ok.value) after = c.in-Ok.ensures in
    let same : c.in-Ok.value ≡ c.args.default = search rules in
    let der : old.rules ≡ Der = search rules in
    (next, inr (der, after, subst (λ v. ReadsValue (λ x. x) (booleans old.rules) 1 old (Ok v) after) same read, c.refused.ensures, refl))

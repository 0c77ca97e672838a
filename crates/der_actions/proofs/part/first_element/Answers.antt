use Rattle.std.proofs.Common.{◌∙◌, ◌++◌, ap, subst, sym}
use Rattle.der_base.specs.declared.rules.Rules.TheVariants.{Ber}
use Rattle.der_elements.specs.Check.Elements.{IsElement}
use Rattle.der_actions.proofs.Octets.{before_rest}
use Rattle.der_actions.proofs.part.first_element.Goals as goal

pub returns : goal.returns
returns c =
    let found = c.in-Some.ensures.exactly.found in
    let rest = c.in-Some.rest.now in
    let same = c.split_at.ensures.front ∙ before_rest c.args.here.now found.0 rest found.1 in
    (rest, found.1 ∙ ap (λ w. w ++ rest) (sym same), subst (IsElement Ber 101) (sym same) found.2)

pub returns-in_default : goal.returns-in_default
returns-in_default c = λ w rest e element. c.in_default.ensures.exactly.only rest (w, e, element)

use Rattle.std.proofs.Common.{◌∙◌, None, Some, subst, sym}
use Rattle.der_show.specs.Known.{IsKnown}
use Rattle.der_show.proofs.manner.Manner.of.Goals as goal

pub returns-in-Some : goal.returns-in-Some
returns-in-Some c =
    let own = c.octets_of-own.ensures in (
      sym c.is_inside.ensures ∙ c.if-is_inside.false,
      c.if-is_secret.false,
      own,
      subst (λ w. IsKnown w (Some c.in-Some.known)) own c.in-Some.ensures,
    )

pub returns-in-None : goal.returns-in-None
returns-in-None c =
    let own = c.octets_of-own.ensures in (
      sym c.is_inside.ensures ∙ c.if-is_inside.false,
      c.if-is_secret.false,
      subst (λ w. IsKnown w None) own c.in-None.ensures,
    )

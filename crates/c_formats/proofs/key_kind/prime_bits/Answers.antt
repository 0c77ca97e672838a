use Rattle.std.proofs.Common.{◌≡◌, Some, None, refl, subst}
use Rattle.c_formats.specs.KeyKinds.{FindsInteger}
use Rattle.c_formats.proofs.key_kind.prime_bits.Goals as goal

pub returns-in-Some : goal.returns-in-Some
returns-in-Some c =
    let found = Some c.in-Some.prime.now in
    (found, subst (λ i. FindsInteger i found) c.content_if.ensures c.in-Some.ensures, c.bits_of.ensures)

pub returns-in-None : goal.returns-in-None
returns-in-None c = (None, subst (λ i. FindsInteger i None) c.content_if.ensures c.in-None.ensures, refl)

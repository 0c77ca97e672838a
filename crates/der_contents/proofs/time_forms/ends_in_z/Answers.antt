use Rattle.std.proofs.Common.{codes}
use Rattle.std.proofs.lemmas.Bool.Decides.{Decides-eqb}
use Rattle.std.proofs.lemmas.Slice.Eq.{ends_is}
use Rattle.der_contents.proofs.time_forms.ends_in_z.Goals as goal

pub returns : goal.returns
returns c =
    let e = ends_is Decides-eqb c.args.octets.now (codes "Z") c.ends_with.result c.ends_with.ensures.value in
    ((λ h. (_, e.0 h)), (λ h. e.1 h.0 h.1))

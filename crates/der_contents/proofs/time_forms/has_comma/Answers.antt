use Rattle.std.proofs.Common.{codes}
use Rattle.std.proofs.lemmas.Bool.Decides.{Decides-eqb}
use Rattle.std.proofs.lemmas.Slice.Eq.{starts_is}
use Rattle.der_contents.proofs.time_forms.has_comma.Goals as goal

pub returns : goal.returns
returns c =
    let e = starts_is Decides-eqb c.args.behind.now (codes ",") c.starts_with.result c.starts_with.ensures.value in
    ((λ h. (_, e.0 h)), (λ h. e.1 h.0 h.1))

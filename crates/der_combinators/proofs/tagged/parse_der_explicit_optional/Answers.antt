use Rattle.std.proofs.Common.{refl}
use Rattle.der_values.proofs.LawsLaws.Containers.OpenedLaws.{opened_run}
use Rattle.der_combinators.proofs.tagged.parse_der_explicit_optional.Goals as goal

pub returns : goal.returns
returns g c =
    let run = opened_run _ _ _ c.open_explicit.result c.parse_tagged_content.ensures.run c.open_explicit.ensures.ok c.open_explicit.ensures.err in
    (_, (c.args.i, _, refl, run, c.may_be_absent.ensures))

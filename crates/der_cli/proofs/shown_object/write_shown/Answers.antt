use Rattle.std.proofs.Common.{string_bytes, subst, sym}
use Rattle.std.proofs.lemmas.Result.{IfOk-weaker}
use Rattle.der_show.specs.Json.{IsJson}
use Rattle.der_cli.proofs.shown_object.write_shown.Goals as goal

pub returns : goal.returns
returns g c =
    let w = c.args.words.now in
    let i = c.args.octets.now in
    let object = subst (λ s. IsJson s i w (string_bytes c.in_ok-object.object)) c.source_of.ensures c.in_ok-object.ensures in
    IfOk-weaker c.write_line.result _ _ (λ _ adds. (c.deref.result.now, subst (IsJson _ i w) (sym c.deref.ensures) object, adds)) c.write_line.ensures

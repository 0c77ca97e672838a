use Rattle.std.proofs.Common.{subst, sym}
use Rattle.std.proofs.lemmas.Result.{on_ok_weaker}
use Rattle.text_json.specs.Json.{IsSecretOf}
use Rattle.der_elements.specs.Walked.{visited_of}
use Rattle.text_json.proofs.object.write_secret.Goals as goal

pub returns : goal.returns
returns g c =
    let P = IsSecretOf c.args.source (visited_of c.args.element.now) in
    let o = c.in_ok-object.ensures in
    on_ok_weaker c.write_object.result
    (λ a. record {
      object = a.object;
      is = subst P (sym a.is) (o.source, o.element);
      text = a.text;
      is_json = a.is_json;
      adds = a.adds;
    }) c.write_object.ensures

use Rattle.std.proofs.Common.{◌∙◌}
use Rattle.std.proofs.lemmas.Result.{on_ok_weaker}
use Rattle.der_actions.proofs.print.write_object.Goals as goal

pub returns-in-Full : goal.returns-in-Full
returns-in-Full g c =
    rw c.in-Full.is (on_ok_weaker c.write_json.result
    (λ a. record {
      object = a.object;
      is = (a.is.0.field ∙ c.source_of-source.ensures.field, a.is.2);
      text = a.text;
      is_json = a.is_json;
      adds = a.adds;
    }) c.write_json.ensures)

pub returns-in-Outline : goal.returns-in-Outline
returns-in-Outline g c =
    rw c.in-Outline.is (on_ok_weaker c.write_secret.result
    (λ a. record {
      object = a.object;
      is = (a.is.0.field ∙ c.source_of-source.ensures.field, a.is.1);
      text = a.text;
      is_json = a.is_json;
      adds = a.adds;
    }) c.write_secret.ensures)

use Rattle.std.proofs.Common.{codes, refl, subst, sym}
use Rattle.std.proofs.KnownBytes.{Appends-trans}
use Rattle.std.proofs.lemmas.Result.{on_ok_weaker}
use Rattle.text_json.specs.Json.{IsJsonOf}
use Rattle.text_json.proofs.object.write_object.Goals as goal

pub returns : goal.returns
returns g c =
    on_ok_weaker c.write_all-2.result
    (λ end. record {
      object = c.args.object.now;
      is = refl;
      text = c.as_bytes.result.now;
      is_json = subst (IsJsonOf c.args.object.now) (sym c.as_bytes.ensures.value) c.in_ok-text.ensures;
      adds = Appends-trans _ _ _ _ _ c.in_ok-write_all.ensures.bytes end;
    }) c.write_all-2.ensures.bytes

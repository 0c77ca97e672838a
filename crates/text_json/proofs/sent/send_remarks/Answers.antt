use Rattle.std.proofs.lemmas.Result.{on_ok_weaker}
use Rattle.text_json.proofs.sent.send_remarks.Goals as goal

pub returns : goal.returns
returns g c =
    on_ok_weaker c.send_some-3.result
    (λ last. (
      g.S.Serializer.written c.send_some.new.out,
      c.in_ok-send_some.ensures,
      (g.S.Serializer.written c.send_some-2.new.out, c.in_ok-send_some-2.ensures, last),
    )) c.send_some-3.ensures

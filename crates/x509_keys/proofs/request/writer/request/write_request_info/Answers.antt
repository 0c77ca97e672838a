use Rattle.std.proofs.Common.{rules, sym, ◌∙◌}
use Rattle.der_writer.proofs.Composing.{wrote, wrote_back}
use Rattle.x509_keys.proofs.request.writer.request.write_request_info.Goals as goal

pub returns : goal.returns
returns c =
    let put = c.put_request_info.ensures in
    let same = sym (put.keeps.same ∙ c.new-fields.ensures.over) in
    wrote_back _ _ _ _ _ (search (rules, same)) (wrote c.finish.ensures c.new-fields.ensures put)

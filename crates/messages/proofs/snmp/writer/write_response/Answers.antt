use Rattle.std.proofs.Common.{rules, sym, ◌∙◌}
use Rattle.std.proofs.lemmas.Int.{to_z-of_z}
use Rattle.der_writer.proofs.Composing.{wrote, wrote_back}
use Rattle.messages.proofs.snmp.writer.write_response.Goals as goal

pub returns : goal.returns
returns c =
    let fits = c.ranges.request_id in
    let put = simp to_z-of_z at c.put_response.ensures in
    let same = sym (put.keeps.same ∙ c.new-fields.ensures.over) in
    wrote_back _ _ _ _ _ (search (rules, same)) (wrote c.finish.ensures c.new-fields.ensures put)

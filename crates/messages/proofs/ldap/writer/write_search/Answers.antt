use Rattle.std.proofs.Common.{rules, sym, ◌∙◌}
use Rattle.der_writer.proofs.Composing.{wrote, wrote_back}
use Rattle.messages.proofs.ldap.writer.write_search.Goals as goal

pub returns : goal.returns
returns c =
    let put = c.put_search.ensures in
    let same = sym (put.keeps.same ∙ c.new-fields.ensures.over) in
    wrote_back _ _ _ _ _ (search (rules, same)) (wrote c.finish.ensures c.new-fields.ensures put)

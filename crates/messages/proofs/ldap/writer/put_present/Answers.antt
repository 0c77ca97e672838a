use Rattle.std.proofs.Common.{rules}
use Rattle.der_writer.proofs.Composing.{puts_tagged, puts_back}
use Rattle.messages.proofs.ldap.writer.put_present.Goals as goal

pub returns : goal.returns
returns c =
    let same = c.implicit.ensures.same in
    puts_back _ _ _ _ (search (rules, same)) (puts_tagged 4 _ c.put_octets.ensures c.implicit.ensures.tagged)

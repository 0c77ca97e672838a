use Rattle.der_writer.proofs.Composing.{first_put, then_put, put_element}
use Rattle.messages.proofs.ldap.writer.put_equality.Goals as goal

pub returns : goal.returns
returns c =
    let attribute = first_put _ _ c.open_tagged-equality.ensures c.put_octets.ensures in
    put_element c.open_tagged-equality.ensures (then_put _ _ attribute c.put_octets-2.ensures) c.close.ensures

use Rattle.der_base.proofs.Oids.ArcsBack.{arcs_come_back}
use Rattle.der_base.proofs.oid.arcs_come_back.Goals as goal

pub returns : goal.returns
returns c = arcs_come_back

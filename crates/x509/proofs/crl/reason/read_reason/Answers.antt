use Rattle.der_cursor.proofs.FrontLaws.{framed, never_kept, refused_alone, value_alone}
use Rattle.x509.specs.Crl.Reasons.{CRLReason}
use Rattle.x509.proofs.crl.reason.read_reason.Goals as goal

pub returns-in-Ok : goal.returns-in-Ok
returns-in-Ok c = value_alone (framed CRLReason) c.in-Ok.ensures

pub returns-in-Err : goal.returns-in-Err
returns-in-Err c = refused_alone (framed CRLReason) c.new.ensures never_kept c.in-Err.ensures c.of_element.ensures

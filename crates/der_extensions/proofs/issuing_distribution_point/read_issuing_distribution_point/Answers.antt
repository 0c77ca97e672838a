use Rattle.der_cursor.proofs.FrontLaws.{framed, never_kept, refused_alone, value_alone}
use Rattle.der_extensions.specs.Revocation.{IssuingDistributionPoint as Format}
use Rattle.der_extensions.proofs.issuing_distribution_point.read_issuing_distribution_point.Goals as goal

pub returns-in-Ok : goal.returns-in-Ok
returns-in-Ok c = value_alone (framed Format) c.in-Ok.ensures

pub returns-in-Err : goal.returns-in-Err
returns-in-Err c = refused_alone (framed Format) c.new.ensures never_kept c.in-Err.ensures c.of_element.ensures

use Rattle.der_cursor.proofs.FrontLaws.{framed, memory_kept_in, named_alone, refused_named}
use Rattle.messages.specs.Kerberos.Requests.{AsReq}
use Rattle.messages.proofs.kerberos.request.read_request.Goals as goal

pub returns-in-Ok : goal.returns-in-Ok
returns-in-Ok c = named_alone (framed AsReq) c.in-Ok.ensures

pub returns-in-Err : goal.returns-in-Err
returns-in-Err c = refused_named (framed AsReq) c.new-input.ensures memory_kept_in c.in-Err.ensures c.of_element.ensures

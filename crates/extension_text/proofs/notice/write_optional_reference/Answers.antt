use Rattle.extension_text.proofs.notice.write_optional_reference.Goals as goal

pub returns-in-Some : goal.returns-in-Some
returns-in-Some g c = rw c.in-Some.is c.write_reference.ensures

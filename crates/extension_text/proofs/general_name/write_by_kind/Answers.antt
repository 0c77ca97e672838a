use Rattle.extension_text.proofs.general_name.write_by_kind.Goals as goal

pub returns-in-OtherName : goal.returns-in-OtherName
returns-in-OtherName g c = rw c.in-OtherName.is c.write_other_name.ensures

pub returns-in-DirectoryName : goal.returns-in-DirectoryName
returns-in-DirectoryName g c = rw c.in-DirectoryName.is c.write_name_line.ensures

pub returns-in-RegisteredId : goal.returns-in-RegisteredId
returns-in-RegisteredId g c = rw c.in-RegisteredId.is c.write_identifier_line.ensures

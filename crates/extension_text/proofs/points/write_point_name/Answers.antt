use Rattle.extension_text.proofs.points.write_point_name.Goals as goal

pub returns-in-FullName : goal.returns-in-FullName
returns-in-FullName g c = rw c.in-FullName.is c.write_general_names.ensures

pub returns-in-NameRelativeToCrlIssuer : goal.returns-in-NameRelativeToCrlIssuer
returns-in-NameRelativeToCrlIssuer g c = rw c.in-NameRelativeToCrlIssuer.is c.write_relative_line.ensures

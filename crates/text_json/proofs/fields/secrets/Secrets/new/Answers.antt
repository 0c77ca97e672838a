use Rattle.text_json.specs.Fields.Secrets.{IsSecret}
use Rattle.text_json.proofs.FieldsLaws.OpenLaws.{open_none}
use Rattle.text_json.proofs.fields.secrets.Secrets.new.Goals as goal

pub returns : goal.returns
returns c = λ sc i. open_none (IsSecret sc i)

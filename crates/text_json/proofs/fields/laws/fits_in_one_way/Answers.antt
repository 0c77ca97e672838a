use Rattle.text_json.proofs.FieldsLaws.OneFit.{fits_in_one_way}
use Rattle.text_json.proofs.fields.laws.fits_in_one_way.Goals as goal

pub returns : goal.returns
returns c = fits_in_one_way

use Rattle.der_base.proofs.Answers.Exactness.{exactly}
use Rattle.der_cursor.specs.Elements.{content_and_rest}
use Rattle.der_cursor.proofs.ElementLaws.{element_shows_one}
use Rattle.der_cursor.proofs.cursor.parse_element.Goals as goal

pub returns : goal.returns
returns c = record {
  exactly = exactly c.read_element.result (element_shows_one c.args.rules c.args.class c.args.constructed c.args.tag.0 c.args.i.now content_and_rest) (λ n l m. m) c.read_element.ensures.found;
  marker = c.read_element.ensures.marker;
}

use Rattle.der_base.proofs.Answers.Exactness.{exactly}
use Rattle.der_readers.proofs.BerLaws.WantedTagNumbers.{number_shows_one, cut_number_needs}
use Rattle.der_readers.proofs.ber.parser.parse_ber_any_with_tag_r.Goals as goal

pub returns-clause-exactly : goal.returns-clause-exactly
returns-clause-exactly c =
    exactly c.read_element_with_tag.result (number_shows_one c.args.tag.0 c.args.max_depth c.args.i.now)
    (cut_number_needs c.args.tag.0 c.args.max_depth c.args.i.now) c.read_element_with_tag.ensures.found

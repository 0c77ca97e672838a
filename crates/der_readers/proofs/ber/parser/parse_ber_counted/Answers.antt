use Rattle.der_base.proofs.Answers.Exactness.{exactly}
use Rattle.der_values.proofs.LawsLaws.Spellings.StableAnswers.{ber_answer_stays}
use Rattle.der_readers.proofs.BerLaws.ReadingLaws.{ber_shows_one, cut_needs}
use Rattle.der_readers.proofs.ber.parser.parse_ber_counted.Goals as goal

pub returns-clause-exactly : goal.returns-clause-exactly
returns-clause-exactly c = exactly c.read_element.result (ber_shows_one c.args.max_depth c.args.i.now) (cut_needs c.args.max_depth c.args.i.now) c.read_element.ensures.found

pub returns-clause-stable : goal.returns-clause-stable
returns-clause-stable c = ber_answer_stays c.args.max_depth c.args.i.now c.read_element.result (ber_shows_one c.args.max_depth c.args.i.now).spelled (returns-clause-exactly c)

use Rattle.der_base.proofs.Answers.Answering.{ok_with}
use Rattle.der_base.proofs.Answers.Exactness.{exactly}
use Rattle.der_values.proofs.LawsLaws.Spellings.StableAnswers.{der_answer_stays}
use Rattle.der_readers.proofs.DerLaws.Counts.{bounded_read}
use Rattle.der_readers.proofs.DerLaws.ReadingLaws.{der_shows_one, cut_needs_none}
use Rattle.der_readers.proofs.der.parser.parse_der_counted.Goals as goal

pub returns-clause-exactly : goal.returns-clause-exactly
returns-clause-exactly c =
    let d = c.args.max_depth in
    let i = c.args.i.now in
    exactly c.read_element.result (der_shows_one d i) (cut_needs_none d i) c.read_element.ensures.found

pub returns-clause-stable : goal.returns-clause-stable
returns-clause-stable c =
    let d = c.args.max_depth in
    let i = c.args.i.now in
    let r = c.read_element.result in
    let answers = exactly r (der_shows_one d i) (cut_needs_none d i) c.read_element.ensures.found in
    der_answer_stays d i r (λ x k. (k.spelling, k.octets, k.spells)) answers

pub returns-clause-bounded : goal.returns-clause-bounded
returns-clause-bounded c =
    let e = c.read_element.ensures in
    (e.bounded, ok_with _ _ _ c.read_element.result _ _ e.found e.counted (λ x r q. bounded_read c.args.max_depth c.args.i.now x.0.now x.1 c.args.count.now _ r q))

use Rattle.std.proofs.Common.{◌^◌, ◌<◌, arith}
use Rattle.der_base.specs.declared.rules.Rules.TheVariants.{Der}
use Rattle.der_base.specs.Header.{class_of, is_constructed, number_of, length_of}
use Rattle.der_base.proofs.Answers.Exactness.{exactly}
use Rattle.der_readers.proofs.TypesLaws.ContentLaws.{content_of_shows_one, cut_content_needs}
use Rattle.der_readers.proofs.types.content.der_read_element_content.Goals as goal

pub returns : goal.returns
returns c =
    let h = c.args.hdr in
    let i = c.args.i.now in
    let fits : number_of h < 2 ^ 32 = omega arith in
    exactly c.read_content_of.result (content_of_shows_one Der h 50 i fits)
    (cut_content_needs Der (class_of h) (number_of h) (length_of h) (is_constructed h) 50 i) c.read_content_of.ensures

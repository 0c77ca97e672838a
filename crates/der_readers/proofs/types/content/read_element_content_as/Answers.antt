use Rattle.std.proofs.Common.{◌^◌, ◌<◌, arith}
use Rattle.der_base.specs.declared.header.Class.TheVariants.{Universal}
use Rattle.der_base.proofs.Answers.Exactness.{exactly}
use Rattle.der_readers.proofs.TypesLaws.ContentLaws.{content_shows_one, cut_content_needs}
use Rattle.der_readers.proofs.types.content.read_element_content_as.Goals as goal

pub returns : goal.returns
returns c =
    let a = c.args in
    let fits : a.tag.0 < 2 ^ 32 = omega arith in
    exactly c.read_content_as.result (content_shows_one a.rules a.tag.0 a.length a.constructed a.max_depth a.i.now fits)
    (cut_content_needs a.rules Universal a.tag.0 a.length a.constructed a.max_depth a.i.now) c.read_content_as.ensures

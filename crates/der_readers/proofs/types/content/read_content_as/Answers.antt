use Rattle.std.proofs.lemmas.Result.{err_from_is_err_and}
use Rattle.der_base.specs.declared.header.Class.TheVariants.{Universal}
use Rattle.der_base.proofs.Answers.Answering.{passed_on}
use Rattle.der_readers.specs.Types.TypedReading.{FrameLacks, ReadingRefuses, ReadingNeedsMemory}
use Rattle.der_readers.proofs.TypesLaws.ContentsRead.{as_read, of_parts}
use Rattle.der_readers.proofs.types.content.read_content_as.Goals as goal

pub returns-in_err-rest : goal.returns-in_err-rest
returns-in_err-rest c =
    let a = c.args in
    let i = a.i.now in
    let d = a.max_depth in
    let h = c.new-header.result in
    let g = c.new-header.ensures in
    let q = err_from_is_err_and c.from_residual.result c.from_residual.ensures.1 in
    rw (q.1, q.2) (passed_on _ _ c.in_err-rest.field-0.0 c.in_err-rest.ensures
    (λ e r. of_parts (λ c t l p. ReadingRefuses a.rules c t l p d i e) h Universal a.tag.0 a.length a.constructed g r)
    (λ n r. of_parts (λ c t l p. FrameLacks a.rules c l p d i n) h Universal a.tag.0 a.length a.constructed g r)
    (λ r. of_parts (λ c t l p. ReadingNeedsMemory a.rules c t l p d i) h Universal a.tag.0 a.length a.constructed g r))

pub returns : goal.returns
returns c =
    let a = c.args in
    as_read a.rules a.tag.0 a.length a.constructed a.max_depth a.i.now c.new-header.result c.in_ok-rest.object c.in_ok-rest.rest.now c.new-header.ensures c.in_ok-rest.ensures

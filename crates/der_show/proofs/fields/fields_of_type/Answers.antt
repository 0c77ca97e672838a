use Rattle.std.proofs.Common.{rules}
use Rattle.std.proofs.lemmas.Result.{IfOk-weaker}
use Rattle.der_show.proofs.LeafLaws.{words_by_type}
use Rattle.der_show.proofs.fields.fields_of_type.Goals as goal

pub returns : goal.returns
returns c = λ t. IfOk-weaker _ _ _
    (λ w from. words_by_type _ _ w (search rules) (search rules) (search rules) (c.in_ok-written.ensures t) from)
    c.words_from.ensures

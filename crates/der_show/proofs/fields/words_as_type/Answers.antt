use Rattle.std.proofs.Common.{MatchBool, subst}
use Rattle.std.proofs.lemmas.Result.{IfOk-weaker}
use Rattle.der_show.specs.ByTypes.{AreLinesAlone}
use Rattle.der_show.specs.Fields.{AreWordsByFields}
use Rattle.der_show.proofs.fields.words_as_type.Goals as goal

pub returns-then-has_title : goal.returns-then-has_title
returns-then-has_title c = λ t.
    let sc = c.args.schema in
    let i = c.args.octets.now in
    IfOk-weaker _ _ _
    (λ w lines. subst (λ b. MatchBool b (AreLinesAlone sc i w) (AreWordsByFields c.args.now sc i w)) c.if-has_title.ensures lines)
    (c.lines_alone.ensures t)

pub returns-else-has_title : goal.returns-else-has_title
returns-else-has_title c = λ t.
    let sc = c.args.schema in
    let i = c.args.octets.now in
    IfOk-weaker _ _ _
    (λ w fields. subst (λ b. MatchBool b (AreLinesAlone sc i w) (AreWordsByFields c.args.now sc i w)) c.if-has_title.ensures fields)
    (c.fields_of_type.ensures t)

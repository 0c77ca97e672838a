use Rattle.std.proofs.Common.{◌∙◌}
use Rattle.der_text.proofs.Looks.{opened_by_word}
use Rattle.der_text.proofs.write.write_open.Goals as goal

pub returns-clause-puts : goal.returns-clause-puts
returns-clause-puts c =
    opened_by_word c.args.form c.in_ok-word.ensures.count (c.as_bytes.ensures.value ∙ c.in_ok-word.ensures.word)
    c.in_ok-extend_from_slice.ensures.items c.in_ok-push.ensures.items

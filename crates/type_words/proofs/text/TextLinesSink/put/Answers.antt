use Rattle.std.proofs.Common.{ap}
use Rattle.std.specs.Result.{is_ok}
use Rattle.std.proofs.lemmas.Fmt.{contents_after_writes}
use Rattle.type_words.specs.TextLines.{octets_in}
use Rattle.type_words.proofs.text.TextLinesSink.put.Goals as goal

pub returns-in-Ok : goal.returns-in-Ok
returns-in-Ok c plain =
    let done = c.write_line.ensures plain (ap is_ok c.in-Ok.is) in
    (done.0, done.1, done.2.plain, contents_after_writes _ octets_in (λ _ _ _ t. t) _ done.0 _ done.2.wrote)

use Rattle.type_words.proofs.LineLaws.{all_lines}
use Rattle.type_words.proofs.walk.words_text.Goals as goal

pub returns : goal.returns
returns c =
    let e = c.in_ok-end.ensures in
    let so = all_lines e.2 c.new-lines.ensures.plain c.new-lines.ensures.text in
    (e.0, e.1, rw c.into_bytes.ensures so.lines)

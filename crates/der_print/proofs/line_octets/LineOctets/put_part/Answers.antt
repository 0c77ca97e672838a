use Rattle.std.proofs.Common.{drop, take}
use Rattle.der_print.specs.Parts.{AddsPart}
use Rattle.der_print.specs.Texts.{octets_in}
use Rattle.der_print.proofs.PartLaws.{ok_then, part_ended}
use Rattle.der_print.proofs.line_octets.LineOctets.put_part.Goals as goal

pub returns : goal.returns
returns c =
    let w = octets_in c.args.self.now in
    let text = c.args.text.now in
    let limit = c.args.left.now in
    let left = c.end_part.new.left in
    let start = c.len-start.result in
    let all = octets_in c.put.new.self in
    let new = octets_in c.end_part.new.self in
    ok_then c.end_part.result (λ _. AddsPart limit (drop start all) (take start all) new left)
    (λ _. AddsPart limit text w new left)
    (λ _ ends. part_ended limit left w text all new start c.len-start.ensures c.in_ok-put.ensures ends) c.end_part.ensures

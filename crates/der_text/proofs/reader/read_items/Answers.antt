use Rattle.std.proofs.Common.{◌≡◌, ◌++◌, drop, sym, ap, ◌∙◌, rules}
use Rattle.der_text.specs.Lexemes.{items_after}
use Rattle.der_text.proofs.Sequences.{joined, joined_append}
use Rattle.der_text.proofs.Skips.{one_lexeme}
use Rattle.der_text.proofs.reader.read_items.Goals as goal

pub loop-first-preserved : goal.loop-first-preserved
loop-first-preserved c =
    let after = c.in-Some.after.now in
    let items = c.loop-first.items.items in
    let more = c.in-Ok.lexeme.0.items in
    let used = c.in-Ok.lexeme.1 in
    let all = c.extend_from_slice.new.self.items in
    let e : all ≡ items ++ more = search rules in
    let r : c.without_first-rest.result.now ≡ drop used after = search rules in
    c.loop-first.invariant ∙ ap (λ t. joined items (items_after t 0)) c.in-Some.ensures.cases.0
    ∙ ap (joined items) (one_lexeme c.in-Some.first.now after more used c.in-Ok.ensures)
    ∙ joined_append items more (items_after (drop used after) 0)
    ∙ ap (λ x. joined x (items_after (drop used after) 0)) (sym e) ∙ ap (λ t. joined all (items_after t 0)) (sym r)

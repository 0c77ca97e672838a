use Rattle.std.proofs.Common.{ap, sym, ◌∙◌}
use Rattle.text_json.proofs.ShownLaws.WordLaws.{after, after_more, inside, inside_more, moved}
use Rattle.text_json.proofs.shown.words.take_deeper.Goals as goal

pub words-preserved : goal.words-preserved
words-preserved c =
    let n = c.args.indent in
    let w = c.in-Some.word in
    let ws = c.pop_deeper.new.words.items in
    let old = ap (inside n) c.in-Some.ensures.1 ∙ inside_more n w ws c.in-Some.ensures.0 in
    record {
      taken = moved c.words.taken.items c.push.new.self.items w.value _ (inside n ws) _ c.in_ok-push.ensures.items old c.words.invariant.taken;
      rest = sym (after_more n w ws c.in-Some.ensures.0) ∙ sym (ap (after n) c.in-Some.ensures.1) ∙ c.words.invariant.rest;
    }

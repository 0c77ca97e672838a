use Rattle.std.proofs.Common.{◌≡◌, ◌∷◌, length, rules, ◌∙◌, ap}
use Rattle.std.proofs.lemmas.List.{nil_from_length}
use Rattle.std.specs.Vec.Iter.{into_iter_items}
use Rattle.derdump.proofs.arguments.second_of_two.Goals as goal

pub returns-in-None-clause-some : goal.returns-in-None-clause-some
returns-in-None-clause-some c =
    let name = c.in_ok-_program._program in
    let word = c.in_ok-word.word in
    let end : length (into_iter_items c.next-2.new.self) ≡ 0 = search rules in
    (name, c.in_ok-_program.ensures.cases.0 ∙ ap (λ l. name ∷ l) (c.in_ok-word.ensures.cases.0 ∙ ap (λ l. word ∷ l) (nil_from_length _ end)))

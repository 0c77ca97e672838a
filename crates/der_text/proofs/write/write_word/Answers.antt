use Rattle.std.proofs.Common.{◌≡◌, ◌<◌, ◌∙◌, length, rules, sym, true}
use Rattle.std.specs.List.{list_all}
use Rattle.der_text.specs.Lexemes.{is_word}
use Rattle.der_text.proofs.Printed.{pushed_word}
use Rattle.der_text.proofs.write.write_word.Goals as goal

pub returns-clause-puts : goal.returns-clause-puts
returns-clause-puts c =
    let h : (0 < length c.args.word.now) × (list_all is_word c.args.word.now ≡ true) = c.are_word.ensures.0 (search rules) in
    pushed_word c.args.word.now c.args.octets.now c.in_ok-extend_from_slice.ensures.items c.in_ok-push.ensures.items h
    (sym c.in_ok-found.ensures ∙ c.has_octets.ensures.0 (search rules))

use Rattle.std.proofs.Common.{is_some, not, ap, sym, ◌∙◌}
use Rattle.der_base.specs.Pretty.{characters_text}
use Rattle.der_object.specs.Characters.{chars_of}
use Rattle.der_object.proofs.TextViews.{one_more_character, no_character}
use Rattle.der_object.proofs.wide_strings.are_characters.Goals as goal

pub returns-then-is_none : goal.returns-then-is_none
returns-then-is_none c =
    let others = chars_of c.args.coding c.in-Some.behind.now in
    sym (c.loop-character.invariant ∙ ap (λ cs. is_some (characters_text cs)) c.in-Some.ensures.0
    ∙ no_character c.in-Some.character others (c.is_none.ensures ∙ ap not c.if-is_none.true))

pub loop-character-preserved : goal.loop-character-preserved
loop-character-preserved c =
    let others = chars_of c.args.coding c.in-Some.behind.now in
    c.loop-character.invariant ∙ ap (λ cs. is_some (characters_text cs)) c.in-Some.ensures.0
    ∙ one_more_character c.in-Some.character others (c.is_none.ensures ∙ ap not c.if-is_none.false)

pub returns : goal.returns
returns c = sym (c.loop-character.invariant ∙ ap (λ cs. is_some (characters_text cs)) c.in_default.ensures)

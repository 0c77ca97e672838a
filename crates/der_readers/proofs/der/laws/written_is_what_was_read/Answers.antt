use Rattle.std.proofs.Common.{◌++◌, [], sym, subst, ap, ◌∙◌}
use Rattle.std.proofs.lemmas.List.{append-nil}
use Rattle.der_values.proofs.LawsLaws.Spellings.BerFaults.{spelling_same}
use Rattle.der_values.proofs.LawsLaws.Spellings.DerWithinBer.{der_within_ber}
use Rattle.der_base.specs.Encoding.{encoding}
use Rattle.der_base.specs.Spelling.{DerSpells}
use Rattle.der_object.specs.View.{tree}
use Rattle.der_readers.specs.Der.Laws.{WrittenIsFront, WrittenSpells, WrittenIsReadBack}
use Rattle.der_readers.proofs.der.laws.written_is_what_was_read.Goals as goal

front : WrittenIsFront
front d i rest o r = r.octets ∙ ap (λ b. b ++ rest) r.spells.encoded

spells : WrittenSpells
spells d i rest o r =
    let s : DerSpells (encoding (tree o)) (tree o) d = subst (λ b. DerSpells b (tree o) d) r.spells.encoded r.spells in
    (s, der_within_ber (encoding (tree o)) (tree o) d s)

back : WrittenIsReadBack
back d d' i rest rest' o o' r r' =
    let s = (spells d i rest o r).1 in
    let (e, same, left) = spelling_same r'.spelling (encoding (tree o)) rest' [] (tree o') (tree o) d' d (der_within_ber r'.spelling (tree o') d' r'.spells) s
    (sym r'.octets ∙ sym (append-nil (encoding (tree o)))) in
    (same, left)

pub returns-clause-front : goal.returns-clause-front
returns-clause-front c = front

pub returns-clause-spells : goal.returns-clause-spells
returns-clause-spells c = spells

pub returns-clause-back : goal.returns-clause-back
returns-clause-back c = back

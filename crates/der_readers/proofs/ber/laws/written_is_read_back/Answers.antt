use Rattle.std.proofs.Common.{[], sym, ◌∙◌}
use Rattle.std.proofs.lemmas.List.{append-nil}
use Rattle.der_values.proofs.LawsLaws.Spellings.BerFaults.{spelling_same}
use Rattle.der_values.proofs.LawsLaws.Spellings.NormalForm.{encoding_normal_form}
use Rattle.der_base.specs.Encoding.{encoding}
use Rattle.der_base.specs.Spelling.{framing_budget}
use Rattle.der_object.specs.HeaderFacts.{form_of}
use Rattle.der_object.specs.View.{tree}
use Rattle.der_readers.specs.Ber.Laws.{WrittenSpells, WrittenIsReadBack}
use Rattle.der_readers.proofs.ber.laws.written_is_read_back.Goals as goal

spells : WrittenSpells
spells d i rest o r small = encoding_normal_form r.spelling (tree o) d framing_budget (form_of o, r.spells) small

back : WrittenIsReadBack
back d d' i rest rest' o o' r small r' =
    let (e, same, left) =
    spelling_same r'.spelling (encoding (tree o)) rest' [] (tree o') (tree o) d' d (form_of o', r'.spells) (spells d i rest o r small) (sym r'.octets ∙ sym (append-nil (encoding (tree o)))) in
    (same, left)

pub returns-clause-spells : goal.returns-clause-spells
returns-clause-spells c = spells

pub returns-clause-back : goal.returns-clause-back
returns-clause-back c = back

use Rattle.std.proofs.Common.{ap, subst, sym}
use Rattle.std.specs.Option.{option_map}
use Rattle.type_words.specs.Lines.{AreLines}
use Rattle.der_show.proofs.TypeLaws.{all_visited}
use Rattle.der_show.proofs.fields.lines_alone.Goals as goal

pub returns : goal.returns
returns c = λ t.
    let found = c.in_ok-text.ensures in
    let made = c.words_alone.ensures in record {
      elements = found.0;
      visits = all_visited found.0 _ t found.1;
      lines = subst (AreLines _) (sym made.text) found.2;
      start = made.start;
      rules = made.rules;
      by_type = ap (option_map (λ n. n.now)) made.by_type;
    }

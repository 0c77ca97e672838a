-- The lines of all items.
use Rattle.std.proofs.Common.{◌≡◌, List, [], subst, sym, ◌∙◌, ap}
use Rattle.std.specs.Fmt.{IsPlainFormatter}
use Rattle.type_words.specs.declared.text.TextLines.{TextLines}
use Rattle.type_words.specs.Items.{Said}
use Rattle.type_words.specs.Lines.{AreLines, no_lines, one_more}
use Rattle.type_words.specs.Puts.{PutsAll, puts_more, puts_none}
use Rattle.type_words.specs.TextLines.{AddsLine, text_in}

-- the lines so far, of which more may follow
pub record HasLines (xs : List Said) (t : TextLines) : Type 0 where
  pub plain : IsPlainFormatter t.f
  pub lines : AreLines xs (text_in t)

pub all_lines : {s t : TextLines} {xs : List Said} → PutsAll AddsLine s xs t → IsPlainFormatter s.f → text_in s ≡ []
    → HasLines xs t
all_lines (puts_none none same) plain start = record {
  plain = subst (λ u. IsPlainFormatter u.f) same plain;
  lines = no_lines none (sym (ap text_in same) ∙ start);
}
all_lines (puts_more before x u more front put) plain start =
    let so = all_lines front plain start in
    let line = put so.plain in
    record { plain = line.2; lines = one_more before x (text_in u) line.0 more line.3 so.lines line.1 }

use Rattle.std.proofs.Common.{subst, sym, ap, map}
use Rattle.text_json.specs.Shown.Items.{AreItemLines}
use Rattle.text_json.specs.Shown.Words.{line_view}
use Rattle.text_json.proofs.ShownLaws.ItemLaws.{all_lines}
use Rattle.text_json.proofs.shown.items.item_lines.Goals as goal

pub returns : goal.returns
returns c =
    let found = c.in_ok-_end.ensures in record {
      elements = found.0;
      end = c.in_ok-_end._end;
      visited = found.1;
      lines = subst (AreItemLines _) (ap (map line_view) (sym c.lines_in.ensures)) (all_lines found.2 c.no_lines-items.ensures);
    }

use Rattle.std.proofs.Common.{Ok, Some, refl, rules}
use Rattle.std.proofs.Output.{WritesText-from_DisplaysOnOk, WritesText-from_lent}
use Rattle.dumarewhi_page.proofs.content.shown.write_at.Goals as goal

pub returns : goal.returns
returns g c =
    λ ok.
    let plain = c.new-f.ensures.plain in
    let k = c.write_known-result.ensures.text plain ok in
    let text = Some k.0 in (
      k.0,
      k.1,
      WritesText-from_lent g.W.Write.write_str_gives _ c.into_inner.result _ text (λ same. search rules)
          (WritesText-from_DisplaysOnOk _ _ _ _ _ (Ok tt) text c.new-f.ensures.writer c.into_inner.ensures plain refl (λ _ _. k.2)),
    )

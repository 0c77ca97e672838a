use Rattle.std.proofs.Common.{arith, sym, ◌∙◌}
use Rattle.std.proofs.lemmas.List.{drop_all, take_all}
use Rattle.der_contents.proofs.real_forms.split_octets.Goals as goal

pub returns : goal.returns
returns c = let w = c.args.octets.now in record {
  front = c.split_at-2.ensures.front ∙ take_all _ w (omega arith) ∙ sym (take_all c.args.count w (omega arith));
  back = c.split_at-2.ensures.back ∙ drop_all _ w (omega arith) ∙ sym (drop_all c.args.count w (omega arith));
}

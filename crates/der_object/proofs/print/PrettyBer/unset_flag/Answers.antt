use Rattle.std.proofs.Common.{rules, refl}
use Rattle.std.proofs.lemmas.Fn.{filter_same}
use Rattle.der_object.proofs.print.PrettyBer.unset_flag.Goals as goal

pub returns : goal.returns
returns c = record {
  object = refl;
  flags = filter_same _ _ _ (λ x b f k. search rules) _ _ c.retain.ensures.filtered;
  indent = refl;
  increment = refl;
}

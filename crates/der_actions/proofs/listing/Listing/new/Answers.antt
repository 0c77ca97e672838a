use Rattle.std.proofs.Common.{◌≡◌, ◌∙◌, [], false, refl, sym, true}
use Rattle.der_actions.specs.Choices.{start}
use Rattle.der_actions.proofs.Trails.{follows, path_none}
use Rattle.der_actions.proofs.listing.Listing.new.Goals as goal

no_truth : {P : Type 0} → false ≡ true → P
no_truth e = cc

pub returns : goal.returns
returns c = λ s i. record { place = refl; depth = refl; lists = start; trail = follows c.args.options.now.place c.new.result [] (c.new.ensures ∙ sym path_none); some = λ e. no_truth e; none = λ e. refl }

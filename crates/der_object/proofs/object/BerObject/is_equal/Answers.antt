use Rattle.std.proofs.Common.{sym, ◌∙◌}
use Rattle.der_base.proofs.TreeEqualityLaws.{same_node-Decides}
use Rattle.der_object.specs.View.{tree}
use Rattle.der_object.proofs.object.BerObject.is_equal.Goals as goal

pub returns : goal.returns
returns c =
    let d = same_node-Decides (tree c.args.self.now) (tree c.args.other.now) in
    (λ h. d.0 (sym c.same_object.ensures ∙ h), λ e. c.same_object.ensures ∙ d.1 e)

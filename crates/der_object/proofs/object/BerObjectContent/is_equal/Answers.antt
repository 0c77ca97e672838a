use Rattle.std.proofs.Common.{sym, ◌∙◌}
use Rattle.der_base.proofs.TreeEqualityLaws.{same_content-Decides}
use Rattle.der_object.specs.View.{content_tree}
use Rattle.der_object.proofs.object.BerObjectContent.is_equal.Goals as goal

pub returns : goal.returns
returns c =
    let d = same_content-Decides (content_tree c.args.self.now) (content_tree c.args.other.now) in
    (λ h. d.0 (sym c.same_content.ensures ∙ h), λ e. c.same_content.ensures ∙ d.1 e)

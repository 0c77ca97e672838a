use Rattle.std.proofs.Common.{subst, sym}
use Rattle.x509_value_rules.specs.Notices.{IsDisplayString}
use Rattle.x509_value_rules.proofs.user_notice.is_display_text.Goals as goal

pub returns-then-is_primitive_type : goal.returns-then-is_primitive_type
returns-then-is_primitive_type c = (
  λ h. (
    c.is_primitive_type.ensures.0 c.if-is_primitive_type.true,
    subst (λ t. IsDisplayString t c.args.element.now.bytes.now) c.tag.ensures (c.is_display_string.ensures.0 h),
  ),
  λ e. c.is_display_string.ensures.1 (subst (λ t. IsDisplayString t c.args.element.now.bytes.now) (sym c.tag.ensures) e.1),
)

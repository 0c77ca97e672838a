use Rattle.x509_value_rules.proofs.user_notice.has_display_texts.Goals as goal

pub returns-then-is_displayed_reference : goal.returns-then-is_displayed_reference
returns-then-is_displayed_reference c = (
  λ h. (c.is_displayed_reference.ensures.0 c.if-is_displayed_reference.true, c.is_displayed_text.ensures.0 h),
  λ e. c.is_displayed_text.ensures.1 e.1,
)

use Rattle.x509_value_rules.proofs.notices.breaks_displayed.Goals as goal

pub returns-then-has_display_texts : goal.returns-then-has_display_texts
returns-then-has_display_texts c = (
  λ h. (c.has_display_texts.ensures.0 c.if-has_display_texts.true, c.breaks_notice.ensures.0 h),
  λ e. c.breaks_notice.ensures.1 e.1,
)

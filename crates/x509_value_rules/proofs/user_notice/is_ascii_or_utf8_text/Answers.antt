use Rattle.x509_value_rules.proofs.user_notice.is_ascii_or_utf8_text.Goals as goal

pub returns-then-is_kept_text : goal.returns-then-is_kept_text
returns-then-is_kept_text c = (λ h. (c.is_kept_text.ensures.0 c.if-is_kept_text.true, c.is_text_of.ensures.0 h), λ e. c.is_text_of.ensures.1 e.1)

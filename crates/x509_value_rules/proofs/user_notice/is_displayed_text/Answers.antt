use Rattle.x509_value_rules.proofs.user_notice.is_displayed_text.Goals as goal

pub returns-in-Some : goal.returns-in-Some
returns-in-Some c = rw c.in-Some.is c.is_display_text.ensures

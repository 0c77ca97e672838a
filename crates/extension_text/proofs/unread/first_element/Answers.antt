use Rattle.extension_text.proofs.UnreadLaws.{begins_with}
use Rattle.extension_text.proofs.unread.first_element.Goals as goal

pub returns-in-Ok : goal.returns-in-Ok
returns-in-Ok c = begins_with c.new-rest.ensures c.in-Ok.ensures

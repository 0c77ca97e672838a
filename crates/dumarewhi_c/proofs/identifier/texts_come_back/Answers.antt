use Rattle.dumarewhi_c.proofs.ArcsBack.{texts_come_back}
use Rattle.dumarewhi_c.proofs.identifier.texts_come_back.Goals as goal

pub returns : goal.returns
returns c = texts_come_back

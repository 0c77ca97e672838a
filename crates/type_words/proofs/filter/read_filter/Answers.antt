use Rattle.type_words.proofs.FilterLaws.{filter_read}
use Rattle.type_words.proofs.filter.read_filter.Goals as goal

pub returns-in-Ok : goal.returns-in-Ok
returns-in-Ok c = filter_read c.by-ahead.ensures c.in-Ok.ensures

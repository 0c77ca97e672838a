use Rattle.c_formats.proofs.AfterSequence.{after_opened, never_refused}
use Rattle.c_formats.proofs.sequences.after_sequence.Goals as goal

pub returns-in-Ok : goal.returns-in-Ok
returns-in-Ok c = λ w rest s. rw c.remaining.ensures (after_opened c.new-list.ensures c.in-Ok.ensures w rest s)

pub returns-in-Err : goal.returns-in-Err
returns-in-Err c = λ w rest s. absurd (never_refused c.new-list.ensures c.in-Err.ensures w rest s)

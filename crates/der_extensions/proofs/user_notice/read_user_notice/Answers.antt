use Rattle.std.proofs.Common.{rules}
use Rattle.der_cursor.specs.Elements.{element_of}
use Rattle.der_cursor.proofs.Sequences.{at_start}
use Rattle.der_extensions.specs.Notices.{UserNotice}
use Rattle.der_extensions.proofs.NoticeLaws.{of_sequence}
use Rattle.der_extensions.proofs.user_notice.read_user_notice.Goals as goal

pub returns-then-not-is_sequence : goal.returns-then-not-is_sequence
returns-then-not-is_sequence c = record { found = tt; only = λ n k. let h = c.is_sequence.ensures.1 k.0 in cc }

pub returns : goal.returns
returns c = of_sequence (element_of c.args.element.now) (c.is_sequence.ensures.0 (search rules)) (at_start UserNotice c.new-content.result c.new-content.ensures c.read_content.ensures)

-- A notice in an element.
use Rattle.std.proofs.Common.{Ok, Err, Result}
use Rattle.der_base.specs.declared.rules.Rules.TheVariants.{Der}
use Rattle.der_cursor.specs.Formats.{Element, ReadsWhole}
use Rattle.der_extensions.specs.Notices.{IsSequence, IsUserNotice, NoticeValue, UserNotice}

pub of_sequence : (e : Element) {T E : Type 0} {view : T → NoticeValue} {May : E → Type 0} {result : Result T E} → IsSequence e → ReadsWhole (UserNotice Der e.3) view May result → ReadsWhole (IsUserNotice e) view May result
of_sequence e {result = Ok x} s h = record { found = (s, h.found); only = λ n k. h.only n k.1 }
of_sequence e {result = Err x} s h = record { found = tt; only = λ n k. h.only n k.1 }

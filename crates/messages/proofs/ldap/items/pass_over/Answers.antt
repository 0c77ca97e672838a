use Rattle.std.proofs.Common.{rules}
use Rattle.der_cursor.specs.Formats.{AnyElement, Never, NoMemory, ReadsField}
use Rattle.der_cursor.proofs.Lists.{all_read}
use Rattle.der_cursor.proofs.Sequences.{may_need}
use Rattle.der_cursor.specs.Formats.{Passed}
use Rattle.der_cursor.proofs.FieldLaws.{others_read, others_stop, passed_takes}
use Rattle.messages.proofs.ldap.items.pass_over.Goals as goal

pub returns-in_err-read_all : goal.returns-in_err-read_all
returns-in_err-read_all c = others_stop c.args.list _ c.from_residual.ensures.1
    (all_read (Passed AnyElement) (λ x. x) passed_takes
    (λ f g a b r s. let h : ReadsField (Passed AnyElement) (λ x. x) Never a.now r b.now = search rules in may_need NoMemory r h) _ _ _ _ c.in_err-read_all.ensures)

pub returns : goal.returns
returns c = others_read c.args.list {x = c.in_ok-read_all.field-0}
    (all_read (Passed AnyElement) (λ x. x) passed_takes
    (λ f g a b r s. let h : ReadsField (Passed AnyElement) (λ x. x) Never a.now r b.now = search rules in may_need NoMemory r h) (λ i k e. Unit {0}) _ _ _ c.in_ok-read_all.ensures)

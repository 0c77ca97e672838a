use Rattle.std.proofs.Common.{rules}
use Rattle.der_cursor.specs.Formats.{Choice, Never, NoMemory, ReadsField}
use Rattle.der_cursor.proofs.FormatLaws.{inside}
use Rattle.der_cursor.proofs.Lists.{all_read}
use Rattle.der_cursor.proofs.Sequences.{may_need, refused_open}
use Rattle.messages.specs.Ldap.Filters.{PieceType, piece_of}
use Rattle.messages.proofs.LdapLaws.FilterLaws.{piece_takes}
use Rattle.messages.proofs.ldap.filter_items.read_any_pieces.Goals as goal

pub returns-in_err-open_sequence : goal.returns-in_err-open_sequence
returns-in_err-open_sequence c = refused_open _ _ c.in_err-open_sequence.ensures c.from_residual.ensures.1

pub returns : goal.returns
returns c = inside _ _ c.in_ok-open_sequence.ensures (all_read (Choice PieceType) piece_of piece_takes
    (λ f g a b r s. let h : ReadsField (Choice PieceType) piece_of Never a.now r b.now = search rules in may_need NoMemory r h) _ _ _ _ c.read_all.ensures)

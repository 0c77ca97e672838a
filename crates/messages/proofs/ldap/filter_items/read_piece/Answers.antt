use Rattle.std.proofs.Common.{refl, subst}
use Rattle.std.proofs.lemmas.Result.{err_from_is_err_and}
use Rattle.der_cursor.specs.Formats.{Implicit, Never, OctetString, ReadsField, Required}
use Rattle.der_cursor.proofs.ChoiceLaws.{choice_read, choice_stops}
use Rattle.messages.specs.Ldap.Filters.{PieceType}
use Rattle.messages.proofs.LdapLaws.FilterLaws.{no_piece, piece_numbered}
use Rattle.messages.proofs.ldap.filter_items.read_piece.Goals as goal

pub returns-in_err-place : goal.returns-in_err-place
returns-in_err-place c = no_piece c.in_err-place.ensures c.from_residual.ensures.1

pub returns-in_err-value : goal.returns-in_err-value
returns-in_err-value c = choice_stops PieceType c.in_ok-place.ensures _ c.from_residual-in_err-value.ensures.1 (piece_numbered c.in_ok-place.place c.number.ensures c.in_err-value.ensures)

pub returns : goal.returns
returns c = choice_read PieceType c.in_ok-place.ensures refl (piece_numbered c.in_ok-place.place c.number.ensures c.in_ok-value.ensures)

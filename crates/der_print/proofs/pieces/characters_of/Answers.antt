use Rattle.std.proofs.Common.{◌∙◌, ap, arith}
use Rattle.std.specs.Prelude.{map}
use Rattle.std.specs.Str.{chars}
use Rattle.der_print.specs.declared.pieces.Piece.TheVariants.{Character}
use Rattle.der_print.proofs.PieceLaws.{other_pieces_are, utf8_pieces}
use Rattle.der_print.proofs.pieces.characters_of.Goals as goal

pub returns-in-Ok : goal.returns-in-Ok
returns-in-Ok c =
    let k = c.in-Ok.ensures.cases in
    ap (λ w. map (λ x. Character x) (chars w)) k.0 ∙ utf8_pieces c.args.number c.args.octets.now (λ e. absurd (omega arith)) (λ e. absurd (omega arith)) k.1

pub returns-in-Err : goal.returns-in-Err
returns-in-Err c = c.other_characters.ensures ∙ other_pieces_are c.args.number c.args.octets.now (λ e. absurd (omega arith)) (λ e. absurd (omega arith)) c.in-Err.ensures.cases.0

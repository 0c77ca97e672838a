use Rattle.std.proofs.Common.{◌∙◌, ap, arith, sym}
use Rattle.std.specs.Prelude.{map}
use Rattle.der_print.specs.declared.pieces.Piece.TheVariants.{Character}
use Rattle.der_print.proofs.PieceLaws.{last_goes, lone_goes, pair_goes}
use Rattle.der_print.proofs.pieces.next_of_unit.Goals as goal

pub returns-in_default : goal.returns-in_default
returns-in_default c =
    rw (c.character_of.ensures, c.from.ensures) (ap (map (λ x. Character x)) (last_goes c.args.unit c.args.rest.now (omega arith) (omega arith)))

pub returns-in-Some : goal.returns-in-Some
returns-in-Some c =
    ap (map (λ x. Character x)) (pair_goes c.args.unit c.unit_of.result c.in-Some.character c.args.rest.now (omega arith) c.unit_of.ensures (sym c.in-Some.is ∙ c.pair_of.ensures))

pub returns-in-None : goal.returns-in-None
returns-in-None c =
    rw (c.character_of.ensures, c.from.ensures)
    (ap (map (λ x. Character x)) (lone_goes c.args.unit c.unit_of.result c.args.rest.now (omega arith) (omega arith) c.unit_of.ensures (sym c.in-None.is ∙ c.pair_of.ensures)))

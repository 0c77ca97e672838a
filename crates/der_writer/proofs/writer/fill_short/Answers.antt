use Rattle.std.proofs.Common.{◌+◌, [], ◌∷◌, length, arith}
use Rattle.der_writer.proofs.Counts.{fills_both}
use Rattle.der_writer.proofs.writer.fill_short.Goals as goal

pub returns-then-end-out : goal.returns-then-end-out
returns-then-end-out c =
    let all = c.requires.within (omega arith) in
    fills_both c.args.out.now c.copy.new.out _ c.args.begin (c.args.begin + 2) c.args.end (c.args.identifier ∷ length c.args.octets.now ∷ []) c.args.octets.now
    (omega (arith, all)) (omega arith) c.copy.ensures c.copy-then-end-out.ensures

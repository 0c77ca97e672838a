use Rattle.std.proofs.Common.{◌≡◌, ◌+◌, ◌-◌, length, take, sym, ap, ◌∙◌, arith}
use Rattle.std.proofs.lemmas.Grind.{common_steps}
use Rattle.std.proofs.lemmas.List.{take-take}
use Rattle.der_base.specs.Octets.{shortest_length}
use Rattle.der_writer.proofs.Headers.{length_some}
use Rattle.der_writer.proofs.Moves.{wrapped, behind_wrapped}
use Rattle.der_canon.proofs.octets.wrap.Goals as goal

pub move_up-requires-clause-up : goal.move_up-requires-clause-up
move_up-requires-clause-up c =
    let two = length_some c.args.content_size in
    let all = c.requires (omega arith) in
    omega (arith, two, all)

pub returns-then-end-out : goal.returns-then-end-out
returns-then-end-out c =
    let size = shortest_length c.args.content_size in
    let content = c.args.end - c.args.content_size in
    let all : c.args.begin + length size + c.args.content_size ≡ c.args.end = c.requires (omega arith) in
    let place : c.args.begin + length size ≡ content = omega (arith, all) in
    let front : take c.args.begin c.move_up.new.out ≡ take c.args.begin c.args.out.now =
    sym (take-take c.args.begin (c.args.begin + 1) c.move_up.new.out (omega arith)) ∙ ap (take c.args.begin) c.move_up.ensures.front
    ∙ take-take c.args.begin (c.args.begin + 1) c.args.out.now (omega arith) in
    let end : c.args.end ≡ content + c.args.content_size = omega (arith, all) in
    record {
      small = omega arith;
      size = grind (arith, common_steps);
      filled = λ room.
          rw (c.fill_length.ensures)
          (wrapped c.args.begin content c.args.content_size c.args.end c.args.out.now c.move_up.new.out size _ place end (omega (arith, c.move_up.ensures.size))
          front c.move_up.ensures.moved);
      behind =
          rw (c.fill_length.ensures)
          (behind_wrapped c.args.begin content c.args.content_size c.args.end c.args.out.now c.move_up.new.out size place end (omega (arith, c.move_up.ensures.size))
          c.move_up.ensures.behind);
    }

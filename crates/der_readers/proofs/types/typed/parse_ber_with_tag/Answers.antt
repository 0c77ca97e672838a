use Rattle.std.proofs.Common.{◌^◌, ◌<◌, arith}
use Rattle.der_base.specs.declared.rules.Rules.TheVariants.{Ber}
use Rattle.der_base.proofs.Answers.Exactness.{exactly}
use Rattle.der_readers.proofs.TypesLaws.TypedLaws.{typed_shows_one, cut_typed_needs}
use Rattle.der_readers.proofs.types.typed.parse_ber_with_tag.Goals as goal

pub returns : goal.returns
returns c =
    let fits : c.args.tag.0 < 2 ^ 32 = omega arith in
    exactly c.read_typed.result (typed_shows_one Ber c.args.tag.0 c.args.i.now fits) (cut_typed_needs Ber c.args.tag.0 c.args.i.now) c.read_typed.ensures

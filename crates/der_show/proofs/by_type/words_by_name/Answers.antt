use Rattle.std.proofs.Common.{◌≡◌}
use Rattle.der_schema.specs.declared.known.KnownType.{KnownType}
use Rattle.der_schema.specs.Meaning.{all_types}
use Rattle.der_show.proofs.ByTypeLaws.{not_found}
use Rattle.der_show.proofs.by_type.words_by_name.Goals as goal

pub returns-in_default : goal.returns-in_default
returns-in_default c = λ w words.
    not_found (λ (k : KnownType). k.name.now ≡ c.args.name.now) c.args.types.now.known.now
    (all_types c.args.types.now.types) words.0 (rw c.in_default.is at c.type_named.ensures) words.1

use Rattle.std.proofs.Common.{◌≡◌, ◌++◌, []}
use Rattle.der_base.specs.Pretty.{spaces}
use Rattle.der_text.specs.Printed.{Puts}
use Rattle.der_text.proofs.write.write_spaces.Given as goal

abbrev pub invariant-spaces : goal.invariant-spaces
invariant-spaces l = Puts l.initial.out.items l.out.items [] × (l.out.items ≡ l.initial.out.items ++ spaces l.counter)

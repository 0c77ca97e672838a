use Rattle.std.proofs.Common.{◌≡◌, true, map}
use Rattle.std.specs.List.{list_all}
use Rattle.std.specs.Str.Parse.{digits_value}
use Rattle.der_base.specs.OidArcs.{is_arc}
use Rattle.der_base.proofs.oid.parse_arcs.Given as goal

abbrev pub invariant-loop-component : goal.invariant-loop-component
invariant-loop-component l = record {
  numbers : l.arcs.items ≡ map (λ x. digits_value 10 x.now) l.yielded;
  all : list_all (λ x. is_arc x.now) l.yielded ≡ true;
}

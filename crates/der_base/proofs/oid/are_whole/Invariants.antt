use Rattle.std.proofs.Common.{◌≡◌, ◌≤◌, drop}
use Rattle.std.specs.List.{list_all}
use Rattle.der_base.specs.Arcs.{subidentifiers, is_whole}
use Rattle.der_base.proofs.Oids.Arcs.{whole_after}
use Rattle.der_base.proofs.oid.are_whole.Given as goal

abbrev pub invariant-loop-octet : goal.invariant-loop-octet
invariant-loop-octet l = record {
  few : l.open ≤ 8;
  rest : whole_after l.open (subidentifiers (drop l.octet-index l.octets)) ≡ list_all is_whole (subidentifiers l.octets);
}

use Rattle.std.proofs.Common.{◌≡◌, ◌<◌, ◌^◌, false, length, map}
use Rattle.std.specs.List.{flat_map, list_any}
use Rattle.oid_names.specs.OwnNames.{entry_in, is_wrong, on_line}
use Rattle.oid_names.proofs.own.OwnNames.read.Given as goal

abbrev pub invariant-lines : goal.invariant-lines
invariant-lines l = record {
  entries : map entry_in l.entries.items ≡ flat_map (λ x. on_line x.now) l.yielded;
  none_wrong : list_any (λ x. is_wrong x.now) l.yielded ≡ false;
  counted : length l.yielded < 2 ^ 64 → l.before ≡ length l.yielded;
}

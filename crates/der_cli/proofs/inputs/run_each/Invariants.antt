use Rattle.std.proofs.Common.{◌≡◌, map, take}
use Rattle.std.specs.Prelude.{nat_lt, string_bytes}
use Rattle.der_cli.specs.Counts.{are_accepted}
use Rattle.der_cli.specs.Taken.{TakesFiles}
use Rattle.der_cli.proofs.inputs.run_each.Given as goal

-- the files so far are taken and counted
abbrev pub invariant-loop-name : goal.invariant-loop-name
invariant-loop-name g l = record {
  taken : TakesFiles l.options (map string_bytes (take l.name-index l.names)) (g.I.Read.remaining l.fn.input) (g.I.Read.remaining l.input)
      (g.W.Write.contents l.fn.out) (g.W.Write.contents l.out) (are_accepted l.summary);
  counted : nat_lt 0 l.summary.files ≡ nat_lt 0 l.name-index;
  whole : l.summary.is_whole ≡ l.is_whole;
}

use Rattle.std.proofs.Common.{◌≡◌, false, map, take, true}
use Rattle.std.specs.Prelude.{string_bytes}
use Rattle.der_cli.proofs.folders.list_files.Given as goal

-- without --recursive the list has the files so far
abbrev pub invariant-loop-file : goal.invariant-loop-file
invariant-loop-file g l = l.is_recursive ≡ false → (map string_bytes l.list.names.items ≡ map (λ f. f.now) (take l.file-index l.files)) × (l.list.is_whole ≡ true)

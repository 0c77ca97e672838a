use Rattle.std.proofs.Common.{◌≡◌, ◌∙◌, ◌++◌, [], IfSome, List, None, Option, Some, ap, ℕ}
use Rattle.der_cli.proofs.inputs.read_file.Goals as goal

-- what was read is all that the reader gives
all_read : (known : Option (List ℕ)) (old buf : List ℕ) → old ≡ [] → IfSome known (λ xs. buf ≡ old ++ xs) → IfSome known (λ all. buf ≡ all)
all_read (Some xs) old buf none e = e ∙ ap (λ w. w ++ xs) none
all_read None old buf none e = tt

pub returns-clause-read : goal.returns-clause-read
returns-clause-read g c = λ dash. all_read (g.I.Read.remaining c.args.input.now) _ _ c.new-octets.ensures.items c.in_ok-read_to_end.ensures.bytes

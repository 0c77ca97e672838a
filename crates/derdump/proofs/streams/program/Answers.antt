use Rattle.std.proofs.Common.{◌≡◌, ◌↔◌, rules, sym, subst}
use Rattle.std.specs.Process.{exit_status}
use Rattle.derdump.specs.declared.command.Command.{Command}
use Rattle.derdump.specs.Words.{Names, word_of}
use Rattle.derdump.proofs.streams.program.Goals as goal
use Rattle.derdump.proofs.streams.program.Goals.{in-Some, in-None}

pub returns-clause-usage : goal.returns-clause-usage
returns-clause-usage g c =
    let same : c.match-argument.word.now ≡ word_of c.args.argument = elim c.match-argument.branch [ in-Some w ↦ search rules | in-None w ↦ search rules ] in
    let status : exit_status c.from.result ≡ c.run.result = search rules in
    subst (λ word. (exit_status c.from.result ≡ 2) ↔ ((command : Command) → ¬ Names word command)) same
    (subst (λ s. (s ≡ 2) ↔ ((command : Command) → ¬ Names c.match-argument.word.now command)) (sym status) c.run.ensures.usage)

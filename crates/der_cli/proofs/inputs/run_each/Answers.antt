use Rattle.std.proofs.Common.{◌≡◌, ◌∙◌, ◌+◌, ◌++◌, ◌∷◌, [], Bool, List, ap, get_or, map, nat_lt, subst, sym, take, ℕ}
use Rattle.std.proofs.lemmas.List.{map_more}
use Rattle.std.specs.Prelude.{string_bytes}
use Rattle.der_cli.specs.declared.summary.Summary.{Summary}
use Rattle.der_cli.specs.Counts.{are_accepted}
use Rattle.der_cli.specs.Taken.{TakesFiles, none_yet, one_more}
use Rattle.der_cli.proofs.Taking.{both_some}
use Rattle.der_cli.proofs.inputs.run_each.Goals as goal

pub loop-name-init : goal.loop-name-init
loop-name-init g c =
    let fresh = sym c.new-summary.ensures in
    let input = g.I.Read.remaining c.args.input.now in
    let out = g.W.Write.contents c.args.out.now in
    record {
      taken = subst (λ (s : Summary). TakesFiles c.args.options.now [] input input out out (are_accepted s)) fresh none_yet;
      counted = ap (λ (s : Summary). nat_lt 0 s.files) c.new-summary.ensures;
      whole = ap (λ (s : Summary). s.is_whole) c.new-summary.ensures;
    }

pub loop-name-preserved : goal.loop-name-preserved
loop-name-preserved g c =
    let o = c.args.options.now in
    let names = c.args.names.now in
    let i = c.loop-name.name-index in
    let name = c.as_str.result.now in
    let before = map string_bytes (take i names) in
    let input = g.I.Read.remaining c.args.input.now in
    let left = g.I.Read.remaining c.run_file.new.input in
    let old = g.W.Write.contents c.args.out.now in
    let new = g.W.Write.contents c.run_file.new.out in
    let same : string_bytes (get_or names i c.name-item.result) ≡ name = ap string_bytes (sym c.name-item.is) ∙ sym c.as_str.ensures.value in
    let named : map string_bytes (take (i + 1) names) ≡ before ++ name ∷ [] =
    map_more string_bytes names i c.name-item.result c.loop-name-test.true ∙ ap (λ (s : List ℕ). before ++ s ∷ []) same in
    record {
      taken =
          subst (λ (ns : List (List ℕ)). TakesFiles o ns input left old new (are_accepted c.add.new.self)) (sym named)
          (subst (λ (b : Bool). TakesFiles o (before ++ name ∷ []) input left old new b) (sym c.add.ensures.accepted)
          (one_more name c.in_ok-outcome.outcome c.loop-name.invariant.taken c.in_ok-outcome.ensures));
      counted = both_some c.add.new.self.files i c.add.ensures.counted;
      whole = c.add.ensures.whole ∙ c.loop-name.invariant.whole;
    }

use Rattle.std.proofs.Common.{◌≡◌, ◌∙◌, ◌&&◌, Bool, ap, length, map, nat_lt, subst, sym, ℕ}
use Rattle.std.proofs.lemmas.List.{length-map}
use Rattle.std.specs.Prelude.{string_bytes}
use Rattle.der_actions.specs.declared.options.Options.{Options}
use Rattle.der_cli.specs.Counts.{are_accepted}
use Rattle.der_cli.specs.Taken.{TakesFiles, among, has_summary}
use Rattle.der_cli.proofs.inputs.run_files.Goals as goal

pub returns : goal.returns
returns g c =
    let list = c.in_ok-list.list in
    let summary = c.in_ok-summary.summary in
    let names = map string_bytes list.names.items in
    let count = length names in
    let input = g.I.Read.remaining c.args.input.now in
    let left = g.I.Read.remaining c.run_each.new.input in
    let old = g.W.Write.contents c.args.out.now in
    let between = g.W.Write.contents c.run_each.new.out in
    let given : length c.deref.result.now ≡ count = ap length c.deref.ensures.value ∙ sym (length-map list.names.items string_bytes) in
    let counted : c.len.result ≡ count = c.len.ensures ∙ sym c.deref.ensures.len ∙ given in
    let options : c.among-options.result ≡ among count c.args.is_recursive c.args.options.now =
    c.among-options.ensures ∙ ap (λ (n : ℕ). among n c.args.is_recursive c.args.options.now) counted in
    let same : map string_bytes c.deref.result.now ≡ names = ap (map string_bytes) c.deref.ensures.value in
    record {
      names = names;
      is_whole = list.is_whole;
      named = λ alone. (c.in_ok-list.ensures.names alone, c.in_ok-list.ensures.whole alone);
      left = left;
      between = between;
      are_accepted = are_accepted summary;
      takes =
          subst (λ (o : Options). TakesFiles o names input left old between (are_accepted summary)) options
          (subst (λ ns. TakesFiles c.among-options.result ns input left old between (are_accepted summary)) same c.in_ok-summary.ensures.taken);
      summed = λ no.
          ap g.W.Write.contents (c.write_summary.ensures (ap has_summary options ∙ no));
      good =
          c.is_good.ensures ∙ ap (λ (b : Bool). b && (are_accepted summary && summary.is_whole)) (c.in_ok-summary.ensures.counted ∙ ap (nat_lt 0) given)
          ∙ ap (λ (w : Bool). nat_lt 0 count && (are_accepted summary && w)) c.in_ok-summary.ensures.whole;
    }

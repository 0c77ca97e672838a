use Rattle.std.proofs.Common.{◌∙◌, ap, codes, false}
use Rattle.std.specs.Option.{option_map_or}
use Rattle.std.specs.Str.{bytes_eq}
use Rattle.clap.specs.Words.{found_of, one_text}
use Rattle.clap.proofs.WalkLemmas.{one_text-rows}
use Rattle.der_cli.proofs.Asking.{flag_is}
use Rattle.der_cli.proofs.arguments.has_flag.Goals as goal

pub returns : goal.returns
returns c =
    let found = found_of c.args.matches.now in
    let name = c.args.name.now in
    c.unwrap_or.ensures ∙ flag_is _ (one_text found name) c.get_one.result c.get_one.ensures.none c.get_one.ensures.value
    ∙ ap (λ w. option_map_or (λ t. bytes_eq t (codes "true")) w false) (one_text-rows found name)

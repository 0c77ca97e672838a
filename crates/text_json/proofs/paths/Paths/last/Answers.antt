use Rattle.std.proofs.Common.{◌∙◌, ap, refl, List, ℕ}
use Rattle.std.specs.Borrow.{Bor}
use Rattle.std.specs.Prelude.{string_bytes}
use Rattle.text_json.proofs.PathsShown.{last_shown}
use Rattle.text_json.proofs.paths.Paths.last.Goals as goal

pub returns : goal.returns
returns c =
    λ path h.
    ap (λ (t : Bor (List ℕ)). t.now) c.unwrap_or.ensures
    ∙ last_shown string_bytes c.as_slice.result.now c.args.self.now.texts.items path c.last_of.result _ refl c.as_slice.ensures.value h c.last_of.ensures

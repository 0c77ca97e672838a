use Rattle.std.proofs.Common.{Bool, ◌&&◌, true, [], ◌∷◌, ◌∙◌, ap}
use Rattle.std.specs.List.{list_all}
use Rattle.der_schema.specs.Encodings.{all_seen}
use Rattle.der_schema.specs.Ends.{level_ends, may_end, whole_by}
use Rattle.der_schema.specs.Levels.{levels_of}
use Rattle.der_schema.specs.Opened.{of_input}
use Rattle.der_schema.proofs.Passed.{all_end}
use Rattle.der_schema.proofs.namer.Namer.is_whole.Goals as goal

pub returns : goal.returns
returns c sc i vs has =
    let levels = levels_of c.args.self.now.levels in
    c.is_whole.ensures ∙ ap (λ (ok : Bool). ok && list_all level_ends levels) has.whole
    ∙ ap (λ (ok : Bool). whole_by true (of_input sc ∷ []) (all_seen i vs) && ok)
    (all_end sc.types levels ∙ ap (list_all may_end) has.opened)

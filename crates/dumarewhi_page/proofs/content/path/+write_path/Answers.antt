use Rattle.std.proofs.Common.{◌≡◌, ◌-◌, ◌⊎◌, ◌++◌, ◌∙◌, ap, codes, inl, inr, refl, rules, sym}
use Rattle.std.proofs.Output.{has_written_append, has_written_of_eq}
use Rattle.der_elements.specs.Paths.{step_text}
use Rattle.dumarewhi_page.specs.Content.Paths.{path_to}
use Rattle.dumarewhi_page.proofs.ContentLaws.PathLaws.{path_alone, path_step}
use Rattle.dumarewhi_page.proofs.content.path.+write_path.Goals as goal
use Rattle.dumarewhi_page.proofs.content.path.+write_path.Goals.{then-row-eq0-via-then-row-eq0, then-row-eq0-via-else-row-eq0+then-most-eq0}

pub returns-then-row-eq0 : goal.returns-then-row-eq0
returns-then-row-eq0 g t c =
    let row = c.in-Some.row.now in
    let last : (c.args.most ≡ 0) ⊎ (row.around ≡ 0) = elim c.then-row-eq0.branch [
      | then-row-eq0-via-then-row-eq0 w ↦ inr w.if-row-eq0.true
      | then-row-eq0-via-else-row-eq0+then-most-eq0 w ↦ inl w.if-most-eq0.true
    ] in
    let alone = path_alone c.args.most c.args.number c.args.rows.now row last (search rules) c.in-Some.ensures.lookup.1 in
    λ plain ok. has_written_of_eq _ _ _ _ _ (ap (λ s. step_text s) c.step-step.ensures ∙ sym alone) (c.write.ensures.writes plain ok)

pub returns : goal.returns
returns g t c =
    let rows = c.args.rows.now in
    let row = c.in-Some.row.now in
    let before = path_to (c.args.most - 1) rows (row.around - 1) in
    let step = path_step c.args.most c.args.number rows row c.if-most-eq0.false (search rules) c.in-Some.ensures.lookup.1 c.if-row-eq0.false in
    λ plain ok.
    let first = c.in_ok-write_path.ensures plain refl in
    has_written_of_eq _ _ _ _ _ (ap (λ s. before ++ (codes "." ++ step_text s)) c.step-step.ensures ∙ sym step)
    (has_written_append _ _ _ _ _ _ first (c.write-2.ensures.writes first.plain ok))

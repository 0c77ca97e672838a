use Rattle.std.proofs.Common.{◌≡◌, List, inl, inr, refl, rules, ℕ}
use Rattle.der_input.specs.declared.error.FormError.{FormError}
use Rattle.der_input.specs.declared.error.FormError.TheVariants.{OutOfMemory}
use Rattle.der_input.specs.Blocks.{RefusesLines, label_of, lines_of}
use Rattle.der_cli.specs.Inputs.{AreUndecoded, TakesBlock, TellsWhy, encrypted, no_base64, refused, undecoded}
use Rattle.der_cli.specs.Outputs.{IsRefusedBy, WritesInside}
use Rattle.der_cli.proofs.Refusing.{taken_not, taken_so, told_if}
use Rattle.der_cli.proofs.run.act_on_block.Goals as goal

-- lines that aren't decoded
of_lines : {lines : List ℕ} (e : FormError) → ¬ (e ≡ OutOfMemory) → RefusesLines lines e → AreUndecoded lines
of_lines e some (inl none) = absurd (some none)
of_lines e some (inr (inl locked)) = encrypted locked.1
of_lines e some (inr (inr why)) = no_base64 e why

pub returns-in-Ok : goal.returns-in-Ok
returns-in-Ok g c =
    let o = c.args.options.now in
    let block = c.args.block.now in
    let w = c.as_slice.result.now in
    let between = g.W.Write.contents c.write_label.new.out in
    let new = g.W.Write.contents c.act.new.out in
    taken_so c.act.result (WritesInside o.action o (label_of block) w between new) (IsRefusedBy o.action o w between new)
    (TakesBlock o c.args.name.now (label_of block) (lines_of block) (g.W.Write.contents c.args.out.now) new) (c.act.ensures.inside _ refl) c.act.ensures.refused
    (λ written. record {
      between = between;
      heading = c.in_ok-write_label.ensures;
      takes = (w, (c.in-Ok.ensures.ok.0, cc (c.in-Ok.ensures.ok.1, c.as_slice.ensures.value)), written);
    })
    (λ no. record {
      between = between;
      heading = c.in_ok-write_label.ensures;
      takes = refused w (c.in-Ok.ensures.ok.0, cc (c.in-Ok.ensures.ok.1, c.as_slice.ensures.value)) no;
    })

pub returns : goal.returns
returns g c =
    let o = c.args.options.now in
    let block = c.args.block.now in
    let between = g.W.Write.contents c.write_label.new.out in
    let new = g.W.Write.contents c.refuse_form.new.out in
    taken_not c.refuse_form.result (TellsWhy o between new)
    (TakesBlock o c.args.name.now (label_of block) (lines_of block) (g.W.Write.contents c.args.out.now) new) c.refuse_form.ensures.refused
    (told_if c.refuse_form.result _ _ c.refuse_form.ensures.quiet)
    (λ told. record {
      between = between;
      heading = c.in_ok-write_label.ensures;
      takes = undecoded (of_lines c.in-Err.e (search rules) c.in-Err.ensures.err) told;
    })

use Rattle.std.proofs.Common.{refl, ap, ◌∙◌}
use Rattle.std.specs.Prelude.{◌-◌}
use Rattle.der_base.proofs.Answers.Exactness.{exactly}
use Rattle.der_cursor.specs.Cursors.{octets_left, rules_of, contents}
use Rattle.der_cursor.proofs.CursorLaws.{not_opened, shows_one_at}
use Rattle.der_cursor.proofs.ElementLaws.{element_shows_one}
use Rattle.der_cursor.proofs.cursor.Cursor.open.Goals as goal

pub returns-in-Err : goal.returns-in-Err
returns-in-Err c = not_opened c.args.class c.args.constructed c.args.tag.0 c.args.self.now c.in-Err.e c.in-Err.ensures

pub returns : goal.returns
returns c =
    let old = c.args.self.now in
    let found = c.in-Ok.ensures.0 in
    let end = c.saturating_sub-end.ensures ∙ ap (λ n. n - c.in-Ok.found.marker) c.offset.ensures in
    rw c.advance.ensures (record {
      element = exactly _ (shows_one_at old (element_shows_one (rules_of old) c.args.class c.args.constructed c.args.tag.0 (octets_left old) contents)) (λ n l m. m) found.0;
      places = (refl, (_, found.1, (rw c.advance.ensures at end)), refl, refl, refl);
    })

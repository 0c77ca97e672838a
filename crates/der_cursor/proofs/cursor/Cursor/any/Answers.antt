use Rattle.std.proofs.Common.{refl}
use Rattle.der_base.proofs.Answers.Exactness.{exactly}
use Rattle.der_cursor.specs.Cursors.{octets_left, rules_of, element_left}
use Rattle.der_cursor.proofs.AnyLaws.{any_shows_one}
use Rattle.der_cursor.proofs.CursorLaws.{shows_one_at, refused_inside, refused_outside}
use Rattle.der_cursor.proofs.cursor.Cursor.any.Goals as goal

pub returns-in-Ok : goal.returns-in-Ok
returns-in-Ok c =
    let old = c.args.self.now in
    rw c.advance.ensures (record {
      any_read = exactly _ (shows_one_at old (any_shows_one (rules_of old) (octets_left old) element_left)) (λ n l m. m) c.in-Ok.ensures.found.0;
      header = c.in-Ok.ensures.found.1;
      place = refl;
    })

pub returns-in-Err : goal.returns-in-Err
returns-in-Err c =
    let old = c.args.self.now in
    rw c.refused.ensures (record {
      any_read = exactly _ (shows_one_at old (any_shows_one (rules_of old) (octets_left old) element_left)) (λ n l m. m)
          (refused_inside _ _ _ old c.in-Err.reason c.refuse_cut_item.result c.if-self.true c.in-Err.ensures.found c.refuse_cut_item.ensures);
      header = tt;
      place = (refl, refl);
    })

pub returns-in-Err-2 : goal.returns-in-Err-2
returns-in-Err-2 c =
    let old = c.args.self.now in
    rw c.refused-in-Err-2.ensures (record {
      any_read = exactly _ (shows_one_at old (any_shows_one (rules_of old) (octets_left old) element_left)) (λ n l m. m)
          (refused_outside _ _ _ old c.in-Err.reason c.if-self.false c.in-Err.ensures.found);
      header = tt;
      place = (refl, refl);
    })

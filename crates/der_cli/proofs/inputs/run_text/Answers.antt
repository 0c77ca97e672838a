use Rattle.std.proofs.Common.{◌≡◌, None, Some, refl, subst, sym}
use Rattle.der_cli.specs.Taken.{OpensFile}
use Rattle.der_cli.proofs.inputs.run_text.Goals as goal

pub returns-in_default : goal.returns-in_default
returns-in_default g c =
    let input = g.I.Read.remaining c.args.input.now in
    let left = g.I.Read.remaining c.side.new.input in
    let opened = rw c.in_default.is at c.in_ok-octets.ensures in
    record {
      form = c.form_of-form.result;
      asks = c.form_of-form.ensures;
      left = left;
      octets = None;
      opens = subst (λ n. OpensFile c.form_of-form.result n input left None) c.file_of.ensures opened;
      writes = refl;
      written = refl;
    }

pub returns : goal.returns
returns g c =
    let input = g.I.Read.remaining c.args.input.now in
    let left = g.I.Read.remaining c.side.new.input in
    let opened = rw c.in-Some.is at c.in_ok-octets.ensures in
    let given = c.deref.result.now in
    let text = c.in_ok-write_text.ensures in
    let same : given ≡ c.in-Some.octets.items = c.deref.ensures.value in
    record {
      form = c.form_of-form.result;
      asks = c.form_of-form.ensures;
      left = left;
      octets = Some given;
      opens =
          subst (λ n. OpensFile c.form_of-form.result n input left (Some given)) c.file_of.ensures
          (subst (λ w. OpensFile c.form_of-form.result c.file_of.result.now input left (Some w)) (sym same) opened);
      writes = text;
      written = refl;
    }

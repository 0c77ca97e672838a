use Rattle.clap.specs.Words.{found_of, rows_of}
use Rattle.der_cli.specs.Runs.{no_text}
use Rattle.der_cli.proofs.Opening.{gives_octets}
use Rattle.der_cli.proofs.inputs.run_octets.Goals as goal
use Rattle.std.proofs.Common.{refl}

pub returns-in_default : goal.returns-in_default
returns-in_default g c = no_text refl

pub returns : goal.returns
returns g c =
    let read = rw c.in-Some.is at c.in_ok-text.ensures.read in
    gives_octets g.W.Write.contents c.args.out.now c.write_octets.new.out c.write_octets.result (rows_of (found_of c.args.matches.now)) c.file_of-name.result.now
    c.in-Some.text.items c.deref.result.now (g.I.Read.remaining c.args.input.now) c.file_of-name.ensures c.deref.ensures.value read c.write_octets.ensures.written
    c.write_octets.ensures.refused c.write_octets.ensures.none

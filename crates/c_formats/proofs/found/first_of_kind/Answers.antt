use Rattle.std.proofs.Common.{None, Some, subst}
use Rattle.x509.specs.Certificates.{extension_of}
use Rattle.c_formats.specs.Found.{ended, found}
use Rattle.c_formats.specs.Items.{IsExtensionKind, left}
use Rattle.c_formats.proofs.Finding.{extension_less, one_kind, still_ahead}
use Rattle.c_formats.proofs.found.first_of_kind.Goals as goal

pub loop-found-init : goal.loop-found-init
loop-found-init c = λ r f. f

pub returns-then-found-kind : goal.returns-then-found-kind
returns-then-found-kind c =
    let x = extension_of c.in-Some.found in
    let rest = left c.next_extension.new.extensions in
    let is = subst (λ n. IsExtensionKind x.identifier n) c.if-found-kind.true c.extension-found.ensures.kind in
    (x, c.loop-found.invariant (Some (x, rest)) (found x c.in-Some.ensures is), c.extension-found.ensures)

pub loop-found-smaller : goal.loop-found-smaller
loop-found-smaller c = extension_less {v = extension_of c.in-Some.found} c.in-Some.ensures

pub loop-found-preserved : goal.loop-found-preserved
loop-found-preserved c =
    let x = extension_of c.in-Some.found in
    still_ahead x c.loop-found.invariant c.in-Some.ensures (λ is. c.if-found-kind.false (one_kind x.identifier c.extension-found.ensures.kind is))

pub returns : goal.returns
returns c = c.loop-found.invariant None (ended c.in_default.ensures.0)

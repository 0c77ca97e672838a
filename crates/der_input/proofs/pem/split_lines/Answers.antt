use Rattle.std.proofs.Common.{◌≡◌, ◌+◌, ◌-◌, ◌∙◌, ap, arith, drop, length, subst, sym, take}
use Rattle.std.proofs.Math.Seq.{take-length}
use Rattle.std.proofs.lemmas.List.{length-drop}
use Rattle.der_input.specs.Blocks.{EndsLines}
use Rattle.der_input.proofs.Ends.{ends_near, ends_nowhere, no_dashes}
use Rattle.der_input.proofs.pem.split_lines.Goals as goal

pub returns-in_err-dashes : goal.returns-in_err-dashes
returns-in_err-dashes c = rw c.from_residual.ensures (no_dashes c.args.opened.now c.in_err-dashes.ensures)

pub returns-in_err-lines : goal.returns-in_err-lines
returns-in_err-lines c =
    let found = c.in_ok-dashes.ensures in
    rw c.from_residual-in_err-lines.ensures (ends_nowhere c.args.opened.now c.in_ok-dashes.dashes _ c.min.ensures found.1 c.in_err-lines.ensures)

pub returns : goal.returns
returns c =
    let opened = c.args.opened.now in
    let found = c.in_ok-dashes.ensures in
    let p = c.in_ok-dashes.dashes in
    let lines = c.in_ok-lines.lines.now in
    let k = length lines + 9 in
    let all : take (length opened - k) (drop k opened) ≡ drop k opened = ap (λ n. take n (drop k opened)) (sym (length-drop k opened)) ∙ take-length (drop k opened) in
    subst (EndsLines opened lines) (sym all) (ends_near opened lines _ p _ found.0.before (omega (arith, c.min.ensures)) c.in_ok-lines.ensures)

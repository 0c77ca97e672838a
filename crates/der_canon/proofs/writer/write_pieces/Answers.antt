use Rattle.std.proofs.Common.{◌≡◌, true, [], ◌∷◌, ◌++◌, length, length-append, inl, refl, sym, subst, ◌∙◌, arith}
use Rattle.der_elements.specs.Walked.{visited_of}
use Rattle.der_canon.specs.Contents.{KeepsIn, no_contents}
use Rattle.der_canon.specs.Pieces.{has_header}
use Rattle.der_canon.specs.Strings.{none, last}
use Rattle.der_canon.proofs.Buffers.{none_yet}
use Rattle.der_canon.proofs.Completions.{writes_more}
use Rattle.der_canon.proofs.Costs.{few_read, found}
use Rattle.der_canon.proofs.JoinedStrings.{broken_string, kept_string}
use Rattle.der_canon.proofs.Writings.{all_written, broken_on, error_of, piece_on, string_on}
use Rattle.der_canon.proofs.writer.write_pieces.Goals as goal

pub pieces-init : goal.pieces-init
pieces-init c =
    ([], no_contents, c.new-pieces.ensures.read, refl, refl, sym c.new-pieces.ensures.parts, none_yet c.new-writer.result c.args.out.now c.new-writer.ensures.end c.new-writer.ensures.starts, refl, none refl refl)

pub write-requires : goal.write-requires
write-requires c =
    let i = c.args.octets.now in
    let so = c.pieces.invariant in
    let next = (rw c.in-Ok-Some.field-0-is at c.in-Ok-Some.ensures.next) i so.0 so.2.walk in
    found i c.in-Ok-Some.piece.element next.1 next.3

pub pieces-preserved : goal.pieces-preserved
pieces-preserved c =
    let i = c.args.octets.now in
    let so = c.pieces.invariant in
    let next = (rw c.in-Ok-Some.field-0-is at c.in-Ok-Some.ensures.next) i so.0 so.2.walk in
    let read = (rw c.in-Ok-Some.field-0-is at c.in-Ok-Some.ensures.errors) i so.0 so.2 in
    let x = c.in-Ok-Some.piece in
    let v = visited_of x.element in
    let P = KeepsIn (length c.args.out.now) in
    let kept = λ (headed : has_header x.form ≡ true). subst (λ n. KeepsIn n so.1) so.7
    (kept_string i so.0 so.1 c.pieces.string c.pieces.writer c.pieces.out so.8 so.6 (c.in-Ok.ensures.checked headed)) in
    let on = piece_on P i c.pieces.pieces.parts so.1 x c.next_piece.new.self c.write.new.self c.write.new.out so.5 next.1 next.2 next.4 kept (c.write.ensures.piece so.1.around so.1.here so.6) in
    (so.0 ++ v ∷ [], on.0, read, omega (arith, so.3, length-append so.0 (v ∷ [])), writes_more P i no_contents so.0 v so.1 on.0 so.4 on.1, on.2, on.3, c.write.ensures.size ∙ so.7, string_on P i so.0 c.pieces.pieces.parts so.1 x c.next_piece.new.self on.0 c.pieces.string c.in-Ok.next so.5 next.2 on.1 so.8 c.in-Ok.ensures.kept c.in-Ok.ensures.begun)

pub returns-in-Ok-check_string-clause-size : goal.returns-in-Ok-check_string-clause-size
returns-in-Ok-check_string-clause-size c = c.complete.ensures.size ∙ c.pieces.invariant.7

pub returns-in-Ok-check_string-clause-written : goal.returns-in-Ok-check_string-clause-written
returns-in-Ok-check_string-clause-written c =
    let i = c.args.octets.now in
    let so = c.pieces.invariant in
    let visits = (rw c.in-Ok-None.field-0-is at c.in-Ok-None.ensures.next) i so.0 so.2.walk in
    let kept = subst (λ n. KeepsIn n so.1) so.7 (kept_string i so.0 so.1 c.pieces.string c.pieces.writer c.pieces.out so.8 so.6 c.in-Ok-check_string.ensures.kept) in
    all_written (length c.args.out.now) i so.0 so.1 c.complete.new.self c.complete.new.out (c.complete.ensures.size ∙ so.7) visits so.4 kept (c.complete.ensures.complete so.1.around so.1.here so.6)

pub returns-in-Err-clause-size : goal.returns-in-Err-clause-size
returns-in-Err-clause-size c = c.pieces.invariant.7

pub returns-in-Err-clause-error : goal.returns-in-Err-clause-error
returns-in-Err-clause-error c =
    let so = c.pieces.invariant in
    inl (record { before = so.0; walk = c.next_piece.new.self.walk; refusal = c.in-Err.refusal; have = so.2.have; error = c.in-Err.ensures.errors c.args.octets.now so.0 so.2; told = c.refuse.ensures })

-- the loop doesn't end first
pub returns-clause-size : goal.returns-clause-size
returns-clause-size c = c.pieces.invariant.7

pub returns-clause-error : goal.returns-clause-error
returns-clause-error c =
    let so = c.pieces.invariant in
    absurd (omega (arith, few_read so.2.walk, so.3, c.pieces-test.false))

-- a string is broken
pub returns-in-Err-string_after-clause-size : goal.returns-in-Err-string_after-clause-size
returns-in-Err-string_after-clause-size c = c.pieces.invariant.7

pub returns-in-Err-string_after-clause-error : goal.returns-in-Err-string_after-clause-error
returns-in-Err-string_after-clause-error c =
    let i = c.args.octets.now in
    let so = c.pieces.invariant in
    let next = (rw c.in-Ok-Some.field-0-is at c.in-Ok-Some.ensures.next) i so.0 so.2.walk in
    let b = c.in-Err-string_after.broken in
    let e = c.in-Err-string_after.ensures.broken in
    error_of i b c.refuse_string.result
    (broken_on i so.0 c.pieces.pieces.parts so.1 c.in-Ok-Some.piece c.next_piece.new.self c.pieces.string c.pieces.writer c.pieces.out b c.next_piece.new.self.walk so.5 next.2 e.0 next.0 so.8 so.6 e.1)
    c.refuse_string.ensures.offset c.refuse_string.ensures.cause

pub returns-in-Err-check_string-clause-error : goal.returns-in-Err-check_string-clause-error
returns-in-Err-check_string-clause-error c =
    let i = c.args.octets.now in
    let so = c.pieces.invariant in
    let visits = (rw c.in-Ok-None.field-0-is at c.in-Ok-None.ensures.next) i so.0 so.2.walk in
    let b = c.in-Err-check_string.broken in
    error_of i b c.refuse_string-in-Err-check_string.result
    (broken_string i so.0 so.1 c.pieces.string c.pieces.writer c.pieces.out b so.8 so.6 c.in-Err-check_string.ensures.broken (λ k e. last visits))
    c.refuse_string-in-Err-check_string.ensures.offset c.refuse_string-in-Err-check_string.ensures.cause

pub returns-in-Err-check_string-clause-size : goal.returns-in-Err-check_string-clause-size
returns-in-Err-check_string-clause-size c = c.pieces.invariant.7

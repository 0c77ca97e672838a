use Rattle.std.proofs.Common.{◌≡◌, ◌⊎◌, ◌≤◌, ◌^◌, false, [], ◌∷◌, ◌++◌, length, length-append, refl, ap, ◌∙◌, inl, inr, arith}
use Rattle.der_canon.specs.Sizing.{most, sum}
use Rattle.der_elements.specs.Walked.{visited_of}
use Rattle.der_canon.specs.Errors.{large}
use Rattle.der_canon.specs.Pieces.{depth_of}
use Rattle.der_canon.specs.Sizes.{none}
use Rattle.der_canon.proofs.Costs.{costs_within, few_read}
use Rattle.der_canon.proofs.Sizings.{Counts, count_next, more_uncounted, too_many}
use Rattle.der_canon.proofs.size.size_of.Goals.{then-fits, else-fits, in_default-via-in-Some+else-fits-2, in_default-via-in_default}
use Rattle.der_canon.proofs.size.size_of.Goals as goal

pub pieces-init : goal.pieces-init
pieces-init c = ([], c.new-pieces.ensures.read, refl, (none refl c.new-pieces.ensures.parts c.new-sizes.ensures.around c.new-sizes.ensures.here, omega (arith, c.new-sizes.ensures.here, ap length c.new-sizes.ensures.around, ap sum c.new-sizes.ensures.around)))

pub pieces-preserved : goal.pieces-preserved
pieces-preserved c =
    let i = c.args.octets.now in
    let so = c.pieces.invariant in
    let next = (rw c.in-Ok-Some.field-0-is at c.in-Ok-Some.ensures.next) i so.0 so.1.walk in
    let read = (rw c.in-Ok-Some.field-0-is at c.in-Ok-Some.ensures.errors) i so.0 so.1 in
    let x = c.in-Ok-Some.piece in
    let p = c.next_piece.new.self in
    let s = c.pieces.pieces.parts in
    let v = visited_of x.element in
    let a = c.pieces.sizes in
    let counts : Counts i (so.0 ++ v ∷ []) (depth_of p.parts) c.if-fits.sizes c.if-fits.fits =
    elim c.if-fits.branch [
      | then-fits w ↦ count_next i so.0 s x p a w.add.new.self c.if-fits.sizes w.add.result c.pieces.fits c.if-fits.fits so.3 w.if-fits.true next.1 next.2
          w.add.ensures.adds w.add.ensures.most w.sizes-is (w.fits-is ∙ w.is_some-fits.ensures)
      | else-fits w ↦ more_uncounted i so.0 (depth_of s) (depth_of p.parts) v a c.if-fits.sizes c.pieces.fits c.if-fits.fits so.3 w.if-fits.false (w.fits-is ∙ w.if-fits.false)
    ] in
    (so.0 ++ v ∷ [], read, omega (arith, so.2, length-append so.0 (v ∷ [])), counts)

pub returns-in_default-clause-refused : goal.returns-in_default-clause-refused
returns-in_default-clause-refused c =
    let i = c.args.octets.now in
    let so = c.pieces.invariant in
    let visits = (rw c.in-Ok-None.field-0-is at c.in-Ok-None.ensures.next) i so.0 so.1.walk in
    let a = c.pieces.sizes in
    let why : (c.pieces.fits ≡ false) ⊎ (2 ^ 64 ≤ most a) =
    elim c.in_default.branch [
      | in_default-via-in-Some+else-fits-2 w ↦ inl w.if-fits-2.false
      | in_default-via-in_default w ↦ inr w.in_default.ensures
    ] in
    let many = too_many i so.0 (depth_of c.pieces.pieces.parts) a c.pieces.fits so.3 why in
    let all = c.too_large.ensures in
    large (record { have = (so.0, visits, so.1.have); many = omega (arith, many, costs_within visits); cause = all.1; offset = all.0 })

pub returns : goal.returns
returns c = let so = c.pieces.invariant in absurd (omega (arith, few_read so.1.walk, so.2, c.pieces-test.false))

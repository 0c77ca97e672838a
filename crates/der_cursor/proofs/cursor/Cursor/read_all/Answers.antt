use Rattle.std.proofs.Common.{◌≡◌, ◌≢◌, ℕ, ◌≤◌, List, [], ◌∷◌, ◌++◌, length, ap, arith, rules, of_calls, refl}
use Rattle.der_cursor.specs.Runs.{no_call, one_more, refused, stuck, no_room}
use Rattle.der_cursor.proofs.cursor.Cursor.read_all.Goals as goal

some_octets : (w : List ℕ) → 1 ≤ length w → w ≢ []
some_octets w h e = omega (arith, h, ap length e)

pub loop-cursor-init : goal.loop-cursor-init
loop-cursor-init g c = (search rules, rw c.new-values.ensures.items no_call)

pub returns-in-Err : goal.returns-in-Err
returns-in-Err g c = (
  c.loop-cursor.values.items,
  c.loop-cursor.read,
  c.loop-cursor.cursor,
  c.loop-cursor.invariant.1,
  some_octets c.loop-cursor.cursor.left.now (search rules),
  refused (_, _, c.in-Err.ensures, refl, refl),
)

pub returns-then-cursor-before : goal.returns-then-cursor-before
returns-then-cursor-before g c = rw c.refused.ensures (
  c.loop-cursor.values.items,
  c.loop-cursor.read,
  c.loop-cursor.cursor,
  c.loop-cursor.invariant.1,
  some_octets c.loop-cursor.cursor.left.now (search rules),
  stuck (_, _, c.in-Ok.ensures, refl, refl) c.if-cursor-before.true c.from_error_kind-e.ensures,
)

pub returns-then-is_err : goal.returns-then-is_err
returns-then-is_err g c = rw c.refused-then-is_err.ensures (
  c.loop-cursor.values.items,
  c.loop-cursor.read,
  c.loop-cursor.cursor,
  c.loop-cursor.invariant.1,
  some_octets c.loop-cursor.cursor.left.now (search rules),
  no_room (_, _, c.in-Ok.ensures, refl, refl),
)

pub loop-cursor-preserved : goal.loop-cursor-preserved
loop-cursor-preserved g c =
    let pushed : c.push.new.self.items ≡ c.loop-cursor.values.items ++ c.in-Ok.value ∷ [] = search rules in
    (search of_calls, rw pushed (one_more c.loop-cursor.invariant.1 (some_octets c.loop-cursor.cursor.left.now (search rules)) (_, _, c.in-Ok.ensures, refl, refl) c.if-cursor-before.false))

use Rattle.std.proofs.Common.{◌<◌, ◌≤◌, ◌/◌, arith, refl, subst, sym}
use Rattle.x509.specs.Lists.{names_left}
use Rattle.extension_text.specs.Names.Names.{AreBackwards, HasNames}
use Rattle.extension_text.proofs.NamesLaws.BackLaws.{both, no_names, split}
use Rattle.extension_text.proofs.NamesLaws.WriteLaws.{next, nothing, one, restated}
use Rattle.extension_text.proofs.names.name.+write_backwards.Goals as goal

pub returns-then-count-eq0 : goal.returns-then-count-eq0
returns-then-count-eq0 g n c = restated (λ t x. no_names _ c.if-count-eq0.true x) nothing

pub write_first-requires : goal.write_first-requires
write_first-requires g n c = subst (λ k. HasNames k (names_left c.args.names)) c.if-count-eq1.true c.requires

pub returns-then-count-eq1 : goal.returns-then-count-eq1
returns-then-count-eq1 g n c =
    restated (λ t x. subst (λ k. AreBackwards k (names_left c.args.names) t) (sym c.if-count-eq1.true) x) c.write_first.ensures

pub write_backwards-requires : goal.write_backwards-requires
write_backwards-requires g n c = λ k s.
    let less : c.args.count / 2 < c.args.count = omega (arith, c.if-count-eq0.false) in
    (omega (arith, c.decreases, c.if-count-eq0.false, c.if-count-eq1.false), (s, (split c.args.count (c.args.count / 2) _ _ _ less c.requires c.pass.ensures).0))

pub write_backwards-requires-2 : goal.write_backwards-requires-2
write_backwards-requires-2 g n c = λ k s.
    let less : c.args.count / 2 < c.args.count = omega (arith, c.if-count-eq0.false) in
    let front = (split c.args.count (c.args.count / 2) _ _ _ less c.requires c.pass.ensures).1 in
    (omega (arith, c.decreases, c.if-count-eq0.false), (s, (front.0, _, front.1, front.2)))

pub returns : goal.returns
returns g n c =
    let less : c.args.count / 2 < c.args.count = omega (arith, c.if-count-eq0.false) in
    let some : 1 ≤ c.args.count / 2 = omega (arith, c.if-count-eq0.false, c.if-count-eq1.false) in
    let parts = split c.args.count (c.args.count / 2) _ _ _ less c.requires c.pass.ensures in
    restated (λ t x. both c.args.count (c.args.count / 2) _ _ t less some parts x)
    (next c.in_ok-write_backwards.ensures refl (next (one c.in_ok-write.ensures.writes) refl c.write_backwards-2.ensures))

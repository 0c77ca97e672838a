use Rattle.std.proofs.Common.{◌≡◌, Bool, Err, IfOk, IsTrue, Ok, OnOk, Result, false, sym, true}
use Rattle.std.specs.Prelude.{not}
use Rattle.der_cli.specs.Shown.{AddsWords, RefusesShown, ShowsRead, ShowsWords, breaks_rule, is_broken, no_words}
use Rattle.der_cli.proofs.show.show.Goals as goal

no_truth : {P : Type 0} → false ≡ true → P
no_truth e = cc

-- words that are written break no rule that is asked for
keeping : {E : Type 0} (r : Result Bool E) (A R : Type 0) (b : Bool) → (A → b ≡ false → R) → OnOk r A → IfOk r (λ ok. b ≡ not ok) → IfOk r (λ ok. IsTrue ok → R)
keeping (Ok true) A R b f a e = λ t. f a e
keeping (Ok false) A R b f a e = λ t. no_truth t
keeping (Err y) A R b f a e = tt

-- or they break one
breaking : {E : Type 0} (r : Result Bool E) (A R : Type 0) (b : Bool) → (A → b ≡ true → R) → OnOk r A → IfOk r (λ ok. b ≡ not ok) → IfOk r (λ ok. ok ≡ false → R)
breaking (Ok true) A R b f a e = λ no. no_truth (sym no)
breaking (Ok false) A R b f a e = λ no. f a e
breaking (Err y) A R b f a e = tt

-- what has no words is refused
refusing : {E : Type 0} (r : Result Bool E) (K R : Type 0) → (K → R) → OnOk r K → IfOk r (λ ok. ok ≡ false → R)
refusing (Ok ok) K R f k = λ no. f k
refusing (Err e) K R f k = tt

pub returns-in-Some-clause-read : goal.returns-in-Some-clause-read
returns-in-Some-clause-read g c =
    let o = c.args.options.now in
    let i = c.args.octets.now in
    let old = g.W.Write.contents c.args.out.now in
    let new = g.W.Write.contents c.write_words.new.out in
    let w = c.in-Some.words in
    let described = rw c.in-Some.is at c.in_ok-found.ensures in
    keeping c.write_words.result (AddsWords o i w old new) (ShowsWords o i old new) (is_broken o w)
    (λ adds keeps. record { words = w; describes = described; breaks = keeps; adds = adds }) c.write_words.ensures.written c.write_words.ensures.broken

pub returns-in-Some-clause-refused : goal.returns-in-Some-clause-refused
returns-in-Some-clause-refused g c =
    let o = c.args.options.now in
    let i = c.args.octets.now in
    let old = g.W.Write.contents c.args.out.now in
    let new = g.W.Write.contents c.write_words.new.out in
    let w = c.in-Some.words in
    let described = rw c.in-Some.is at c.in_ok-found.ensures in
    breaking c.write_words.result (AddsWords o i w old new) (RefusesShown o i old new) (is_broken o w)
    (λ adds breaks. breaks_rule (record { words = w; describes = described; breaks = breaks; adds = adds })) c.write_words.ensures.written
    c.write_words.ensures.broken

pub returns-in-None-clause-refused : goal.returns-in-None-clause-refused
returns-in-None-clause-refused g c =
    let o = c.args.options.now in
    let i = c.args.octets.now in
    let old = g.W.Write.contents c.args.out.now in
    let new = g.W.Write.contents c.refuse.new.out in
    let described = rw c.in-None.is at c.in_ok-found.ensures in
    refusing c.refuse.result (ShowsRead o i old new) (RefusesShown o i old new) (no_words described) c.refuse.ensures.shows

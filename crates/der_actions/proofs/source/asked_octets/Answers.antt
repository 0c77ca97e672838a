use Rattle.std.proofs.Common.{◌≡◌, List, None, Option, Some, rules, true, ℕ}
use Rattle.std.specs.Borrow.{Bor}
use Rattle.std.specs.Prelude.{MatchOption, option_map}
use Rattle.der_elements.specs.Visits.{Visited}
use Rattle.der_elements.specs.Walked.{visited_of}
use Rattle.der_actions.specs.declared.options.Options.{Options}
use Rattle.der_actions.specs.Parts.{AreOctetsOf}
use Rattle.der_actions.specs.Sources.{AreAskedOctets}
use Rattle.der_actions.proofs.source.asked_octets.Goals as goal

are_asked : (o : Options) (i : List ℕ) (v : Visited) (r : Option (Bor (List ℕ))) → o.has_octets ≡ true
    → MatchOption r ((w : List ℕ) → AreOctetsOf i v w → ⊥) (λ w. AreOctetsOf i v w.now) → AreAskedOctets o i v (option_map (λ x. x.now) r)
are_asked o i v (Some w) t h = (t, h)
are_asked o i v None t h = λ e. h

pub returns : goal.returns
returns c = are_asked c.args.options.now c.args.octets.now (visited_of c.args.element.now) c.octets_of.result (search rules) c.octets_of.ensures

use Rattle.std.proofs.Common.{List, ℕ, length}
use Rattle.std.specs.Fmt.{HasWritten, IsPlainFormatter}
use Rattle.x509_rules.specs.Crl.Examined.{signed_list_of}
use Rattle.x509_rules.specs.Crl.ListRules.{BreaksList}
use Rattle.der_show.proofs.BrokenLines.{KeptSoFar, RulesGo}
use Rattle.der_show.proofs.rules.write_broken_of_list.Given as goal

-- what was sent goes before the lines of the rules that are left
abbrev pub invariant-loop-broken : goal.invariant-loop-broken
invariant-loop-broken g l = record {
  kept : KeptSoFar (λ r. BreaksList r (signed_list_of l.fn.list)) l.fn.rules l.left l.keeps_all;
  done : IsPlainFormatter l.fn.f → (sent : List ℕ) × RulesGo (λ r. BreaksList r (signed_list_of l.fn.list)) l.fn.label l.fn.rules sent l.left
      × HasWritten g.W.Write.write_str_gives l.fn.f sent l.f;
}

abbrev pub decreases-loop-broken : goal.decreases-loop-broken
decreases-loop-broken g l = length l.left

-- The rules of RFC 5280 for lists of revoked certificates, and what an iterator over those that one breaks gives.
use Rattle.std.specs.Prelude.{◌≡◌, List, Option, MatchOption}
use Rattle.std.specs.List.{All}
use Rattle.x509.specs.Crl.Lists.{Signed, certificate_list_of}
use Rattle.x509_value_rules.specs.declared.facts.Fact.TheVariants as fact
use Rattle.x509_rules.specs.declared.crl.revoked.BrokenListRules.{BrokenListRules}
use Rattle.x509_rules.specs.declared.crl.revoked.FirstBrokenOfList.{FirstBrokenOfList}
use Rattle.x509_rules.specs.declared.crl.revoked.ListRule.{ListRule}
use Rattle.x509_rules.specs.declared.crl.revoked.ListRule.TheVariants as rule
use Rattle.x509_rules.specs.Crl.Entries.{SomeEntry}
use Rattle.x509_rule_facts.specs.Firsts.{IsFirstOf}
use Rattle.x509_rules.specs.Crl.WholeLists.{BreaksWholeList, ListHas}

-- the list breaks the rule
abbrev pub BreaksList : ListRule → Signed → Type 0
BreaksList (rule.Critical k) l = ListHas k fact.NotCritical l
BreaksList (rule.NotCritical k) l = ListHas k fact.Critical l
BreaksList (rule.Value k r) l = ListHas k (fact.Breaks r) l
BreaksList (rule.Entry r) l = SomeEntry r l.tbs_cert_list.revoked
BreaksList (rule.Whole r) l = BreaksWholeList r l

-- the rules that aren't asked yet, and the list
abbrev pub list_rules_left : BrokenListRules → List ListRule
list_rules_left b = b.left.now

abbrev pub list_in : BrokenListRules → Signed
list_in b = certificate_list_of b.list.now

-- the first of the rules that the list breaks, and those after it; None where it breaks none
abbrev pub FindsBrokenOfList : Signed → List ListRule → Option FirstBrokenOfList → Type 0
FindsBrokenOfList l rules result = MatchOption result (All (λ r. ¬ BreaksList r l) rules)
    (λ x. IsFirstOf (λ r. BreaksList r l) rules x.rule x.rest.now)

-- A call of `next` gives the first of the rules left that the list breaks, and those after it are left. It gives None
-- where it breaks none of them, and they are left.
abbrev pub YieldsBrokenOfList : BrokenListRules → Option ListRule → BrokenListRules → Type 0
YieldsBrokenOfList s r t = (list_in t ≡ list_in s)
    × MatchOption r
    (All (λ q. ¬ BreaksList q (list_in s)) (list_rules_left s) × (list_rules_left t ≡ list_rules_left s))
    (λ x. IsFirstOf (λ q. BreaksList q (list_in s)) (list_rules_left s) x (list_rules_left t))

-- Values that break no rule of their type.
use Rattle.std.proofs.Common.{◌≡◌, ◌≢◌, ℕ, Option, Some, None, Ok, List, [], ◌∷◌, sym, ap, ◌∙◌, arith, subst, inl, inr}
use Rattle.std.specs.Option.{IsSomeAnd}
use Rattle.der_base.specs.declared.rules.Rules.TheVariants.{Der}
use Rattle.der_cursor.specs.Formats.{Never, Only, ReadsWhole, Required}
use Rattle.der_extensions.specs.Extensions.{AccessDescription, AuthorityInfoAccessSyntax, CRLDistributionPoints}
use Rattle.der_extensions.specs.Extensions.{CertificatePolicies, DistributionPoint, PointNameValue, PointValue}
use Rattle.der_extensions.specs.Extensions.{PolicyInformation, QualifierValue, full_name, name_relative_to_issuer}
use Rattle.der_extensions.specs.GeneralNames.{GeneralName, GeneralNames, NameValue}
use Rattle.x509.specs.Rules.{AreIndistinct}
use Rattle.x509_value_rules.specs.declared.names.NameRule.{NameRule}
use Rattle.x509_value_rules.specs.declared.names.NameRule.TheVariants as name
use Rattle.x509_value_rules.specs.declared.notices.QualifierRule.{QualifierRule}
use Rattle.x509_value_rules.specs.declared.notices.QualifierRule.TheVariants.{Notice, NoticeOfType, PointerOfType}
use Rattle.x509_value_rules.specs.declared.points.PointRule.{PointRule}
use Rattle.x509_value_rules.specs.declared.points.PointRule.TheVariants as point
use Rattle.x509_rule_facts.specs.declared.types.ValueType.{ValueType}
use Rattle.x509_rule_facts.specs.declared.types.ValueType.TheVariants as kind
use Rattle.x509_value_rules.specs.declared.value_rules.ValueRule.{ValueRule}
use Rattle.x509_value_rules.specs.declared.value_rules.ValueRule.TheVariants as rule
use Rattle.x509_rule_facts.specs.Lists.{Among}
use Rattle.x509_value_rules.specs.Names.{BreaksName, SomeNameBreaks, IsBadName}
use Rattle.x509_value_rules.specs.Notices.{BreaksQualifier, HasBrokenQualifier, IsBadlyQualified, HasRemark, IsRemark}
use Rattle.x509_value_rules.specs.Notices.{IsRemarked}
use Rattle.x509_value_rules.specs.Points.{BreaksPoint, HasOtherIssuer, IsForAllReasons, IsFullNameBroken, IsBadFullName}
use Rattle.x509_value_rules.specs.Points.{IsBadPoint}
use Rattle.der_extensions.specs.Notices.{user_notice}
use Rattle.x509_value_rules.specs.Policies.{HasOtherQualifier, IsAnyWithOther, IsOtherQualifier, cps}
use Rattle.x509_value_rules.specs.Sound.{IsBadLocation, type_of_rule}
use Rattle.x509_rule_facts.specs.Types.{IsOfType}
use Rattle.x509_value_rules.specs.ValueRules.{BreaksValue, IsLocationBroken}
use Rattle.x509_rule_facts.proofs.AmongLaws.{among_more}

unwrap : ValueType → Option ValueType → ValueType
unwrap d (Some t) = t
unwrap d None = d

same_type : {s t : ValueType} → Some s ≡ Some t → t ≡ s
unfolding unwrap
same_type {t = t} e = sym (ap (unwrap t) e)

OfNames : Option ValueType → Type 0
OfNames (Some kind.Names) = Unit {0}
OfNames _ = ⊥

OfPoints : Option ValueType → Type 0
OfPoints (Some kind.Points) = Unit {0}
OfPoints _ = ⊥

OfPolicies : Option ValueType → Type 0
OfPolicies (Some kind.Policies) = Unit {0}
OfPolicies _ = ⊥

-- names
bad_name : (q : NameRule) (n : NameValue) → BreaksName q n → IsBadName n
bad_name name.NotEmpty n b = inl b
bad_name name.AddressOctets n b = inr (inl b)
bad_name name.NotBlank n b = inr (inr (inl b))
bad_name name.Scheme n b = inr (inr (inr (inl b)))
bad_name name.Host n b = inr (inr (inr (inr (inl b))))
bad_name name.Mailbox n b = inr (inr (inr (inr (inr (inl b)))))
bad_name name.PreferredName n b = inr (inr (inr (inr (inr (inr (inl b))))))
bad_name name.InternationalMailbox n b = inr (inr (inr (inr (inr (inr (inr (inl b)))))))
bad_name name.OrderedAttributes n b = inr (inr (inr (inr (inr (inr (inr (inr (inl b))))))))
bad_name name.TypedAttributes n b = inr (inr (inr (inr (inr (inr (inr (inr (inr (inl b)))))))))
bad_name name.LdapEntry n b = inr (inr (inr (inr (inr (inr (inr (inr (inr (inr (inl b))))))))))
bad_name name.LdapAttribute n b = inr (inr (inr (inr (inr (inr (inr (inr (inr (inr (inr (inl b)))))))))))
bad_name name.PartyName n b = inr (inr (inr (inr (inr (inr (inr (inr (inr (inr (inr (inr b)))))))))))

module _ {T E : Type 0} {view : T → List ℕ} (w : List ℕ) {x : T} (r : ReadsWhole {E = E} (Only (Required GeneralNames) Der w) view Never (Ok x)) (n : ¬ Among GeneralName IsBadName (view x)) where
  pub sound_names : (q : ValueRule) → type_of_rule q ≡ Some kind.Names → BreaksValue q w → ⊥
  unfolding OfNames
  sound_names (rule.OfType s) e never = never (subst (λ z. IsOfType z w) (same_type e) (view x, r.found))
  sound_names (rule.Names q) e s = n (among_more (bad_name q) (subst (Among GeneralName (BreaksName q)) (sym (r.only s.0 s.1)) s.2))
  sound_names rule.IssuerAndSerial e s = absurd (subst OfNames (sym e) tt)
  sound_names rule.DistinctPolicies e s = absurd (subst OfNames (sym e) tt)
  sound_names rule.AnyPolicyQualifiers e s = absurd (subst OfNames (sym e) tt)
  sound_names (rule.Qualifiers q) e s = absurd (subst OfNames (sym e) tt)
  sound_names rule.UnmappedAnyPolicy e s = absurd (subst OfNames (sym e) tt)
  sound_names rule.NotEmpty e s = absurd (subst OfNames (sym e) tt)
  sound_names (rule.Subtrees q) e s = absurd (subst OfNames (sym e) tt)
  sound_names (rule.Points q) e s = absurd (subst OfNames (sym e) tt)
  sound_names rule.PointForAllReasons e s = absurd (subst OfNames (sym e) tt)
  sound_names (rule.IssuingPoint q) e s = absurd (subst OfNames (sym e) tt)
  sound_names rule.CaIssuers e s = absurd (subst OfNames (sym e) tt)
  sound_names rule.ShortNumber e s = absurd (subst OfNames (sym e) tt)
  sound_names rule.NaturalNumber e s = absurd (subst OfNames (sym e) tt)
  sound_names rule.WholeSeconds e s = absurd (subst OfNames (sym e) tt)
  sound_names (rule.Issuer q) e s = absurd (subst OfNames (sym e) tt)
  sound_names rule.DirectoryName e s = absurd (subst OfNames (sym e) tt)
  sound_names (rule.Locations q) e s = absurd (subst OfNames (sym e) tt)
  sound_names rule.SpecifiedReason e s = absurd (subst OfNames (sym e) tt)
  sound_names rule.DerValues e s = absurd (subst OfNames (sym e) tt)

-- points
IsThere : {X : Type 0} → Option X → Type 0
IsThere None = ⊥
IsThere (Some x) = Unit {0}

pub is_there : {X : Type 0} (x : X) → Some x ≢ None
unfolding IsThere
is_there x e = subst IsThere e tt

other_issuer : (o : Option (List ℕ)) → HasOtherIssuer o → o ≢ None
other_issuer None h = absurd h
other_issuer (Some w) h = is_there w

pub broken_issuer : (q : NameRule) (o : Option (List ℕ)) → SomeNameBreaks q o → o ≢ None
broken_issuer q None h = absurd h
broken_issuer q (Some w) h = is_there w

bad_full_names : (q : NameRule) (n : PointNameValue) → IsFullNameBroken q n → IsBadFullName n
bad_full_names q (full_name w) a = among_more (bad_name q) a
bad_full_names q (name_relative_to_issuer w) a = a

bad_full_name : (q : NameRule) (o : Option PointNameValue) → IsSomeAnd o (IsFullNameBroken q) → IsSomeAnd o IsBadFullName
bad_full_name q None a = a
bad_full_name q (Some n) a = bad_full_names q n a

bad_point : (q : PointRule) (p : PointValue) → BreaksPoint q p → IsBadPoint p
bad_point point.Named p b = inl b
bad_point point.FullName p b = inr (inl b)
bad_point point.NameAlone p b = inr (inr (inl b))
bad_point point.NamedIssuers p b = inr (inr (inl (inr (other_issuer p.1.1.0 b))))
bad_point (point.Issuers q) p b = inr (inr (inl (inr (broken_issuer q p.1.1.0 b))))
bad_point (point.FullNames q) p b = inr (inr (inr (bad_full_name q p.0 b)))
bad_point point.RelativeToOneIssuer p b = inr (inl b.0)

module _ {T E : Type 0} {view : T → List ℕ} (w : List ℕ) {x : T} (r : ReadsWhole {E = E} (Only (Required CRLDistributionPoints) Der w) view Never (Ok x)) (a : Among (Required DistributionPoint) IsForAllReasons (view x)) (n : ¬ Among (Required DistributionPoint) IsBadPoint (view x)) where
  pub sound_points : (q : ValueRule) → type_of_rule q ≡ Some kind.Points → BreaksValue q w → ⊥
  unfolding OfPoints
  sound_points (rule.OfType s) e never = never (subst (λ z. IsOfType z w) (same_type e) (view x, r.found))
  sound_points (rule.Points q) e s = n (among_more (bad_point q) (subst (Among (Required DistributionPoint) (BreaksPoint q)) (sym (r.only s.0 s.1)) s.2))
  sound_points rule.PointForAllReasons e s = s.2 (subst (Among (Required DistributionPoint) IsForAllReasons) (r.only s.0 s.1) a)
  sound_points rule.IssuerAndSerial e s = absurd (subst OfPoints (sym e) tt)
  sound_points rule.DistinctPolicies e s = absurd (subst OfPoints (sym e) tt)
  sound_points rule.AnyPolicyQualifiers e s = absurd (subst OfPoints (sym e) tt)
  sound_points (rule.Qualifiers q) e s = absurd (subst OfPoints (sym e) tt)
  sound_points rule.UnmappedAnyPolicy e s = absurd (subst OfPoints (sym e) tt)
  sound_points (rule.Names q) e s = absurd (subst OfPoints (sym e) tt)
  sound_points rule.NotEmpty e s = absurd (subst OfPoints (sym e) tt)
  sound_points (rule.Subtrees q) e s = absurd (subst OfPoints (sym e) tt)
  sound_points (rule.IssuingPoint q) e s = absurd (subst OfPoints (sym e) tt)
  sound_points rule.CaIssuers e s = absurd (subst OfPoints (sym e) tt)
  sound_points rule.ShortNumber e s = absurd (subst OfPoints (sym e) tt)
  sound_points rule.NaturalNumber e s = absurd (subst OfPoints (sym e) tt)
  sound_points rule.WholeSeconds e s = absurd (subst OfPoints (sym e) tt)
  sound_points (rule.Issuer q) e s = absurd (subst OfPoints (sym e) tt)
  sound_points rule.DirectoryName e s = absurd (subst OfPoints (sym e) tt)
  sound_points (rule.Locations q) e s = absurd (subst OfPoints (sym e) tt)
  sound_points rule.SpecifiedReason e s = absurd (subst OfPoints (sym e) tt)
  sound_points rule.DerValues e s = absurd (subst OfPoints (sym e) tt)

-- descriptions of accesses
OfDescriptions : Option ValueType → Type 0
OfDescriptions (Some kind.Descriptions) = Unit {0}
OfDescriptions _ = ⊥

module _ {T E : Type 0} {view : T → List ℕ} (w : List ℕ) {x : T} (r : ReadsWhole {E = E} (Only (Required AuthorityInfoAccessSyntax) Der w) view Never (Ok x)) (n : ¬ Among (Required AccessDescription) IsBadLocation (view x)) where
  pub sound_descriptions : (q : ValueRule) → type_of_rule q ≡ Some kind.Descriptions → BreaksValue q w → ⊥
  unfolding OfDescriptions
  sound_descriptions (rule.OfType s) e never = never (subst (λ z. IsOfType z w) (same_type e) (view x, r.found))
  sound_descriptions (rule.Locations q) e s = n (among_more (λ v b. bad_name q v.1.0 b) (subst (Among (Required AccessDescription) (IsLocationBroken q)) (sym (r.only s.0 s.1)) s.2))
  sound_descriptions rule.IssuerAndSerial e s = absurd (subst OfDescriptions (sym e) tt)
  sound_descriptions (rule.Issuer q) e s = absurd (subst OfDescriptions (sym e) tt)
  sound_descriptions rule.DistinctPolicies e s = absurd (subst OfDescriptions (sym e) tt)
  sound_descriptions rule.AnyPolicyQualifiers e s = absurd (subst OfDescriptions (sym e) tt)
  sound_descriptions (rule.Qualifiers q) e s = absurd (subst OfDescriptions (sym e) tt)
  sound_descriptions rule.UnmappedAnyPolicy e s = absurd (subst OfDescriptions (sym e) tt)
  sound_descriptions (rule.Names q) e s = absurd (subst OfDescriptions (sym e) tt)
  sound_descriptions rule.DirectoryName e s = absurd (subst OfDescriptions (sym e) tt)
  sound_descriptions rule.NotEmpty e s = absurd (subst OfDescriptions (sym e) tt)
  sound_descriptions (rule.Subtrees q) e s = absurd (subst OfDescriptions (sym e) tt)
  sound_descriptions (rule.Points q) e s = absurd (subst OfDescriptions (sym e) tt)
  sound_descriptions rule.PointForAllReasons e s = absurd (subst OfDescriptions (sym e) tt)
  sound_descriptions (rule.IssuingPoint q) e s = absurd (subst OfDescriptions (sym e) tt)
  sound_descriptions rule.CaIssuers e s = absurd (subst OfDescriptions (sym e) tt)
  sound_descriptions rule.ShortNumber e s = absurd (subst OfDescriptions (sym e) tt)
  sound_descriptions rule.NaturalNumber e s = absurd (subst OfDescriptions (sym e) tt)
  sound_descriptions rule.WholeSeconds e s = absurd (subst OfDescriptions (sym e) tt)
  sound_descriptions rule.SpecifiedReason e s = absurd (subst OfDescriptions (sym e) tt)
  sound_descriptions rule.DerValues e s = absurd (subst OfDescriptions (sym e) tt)

-- policies
other_is_remark : (q : QualifierValue) → IsOtherQualifier q → IsRemark q
other_is_remark q o = inl o.0

last_octet : List ℕ → ℕ
last_octet [] = 0
last_octet (x ∷ []) = x
last_octet (x ∷ y ∷ ys) = last_octet (y ∷ ys)

cps_is_no_notice : cps ≡ user_notice → ⊥
unfolding last_octet
cps_is_no_notice e = let h : 1 ≡ 2 = ap last_octet e in omega (arith, h)

broken_is_remark : (t : QualifierRule) (q : QualifierValue) → BreaksQualifier t q → IsRemark q
broken_is_remark PointerOfType q b = inr b.1
broken_is_remark NoticeOfType q b = inl (λ e. cps_is_no_notice (sym e ∙ b.0))
broken_is_remark (Notice t) q b = inl (λ e. cps_is_no_notice (sym e ∙ b.0))

all_others : (q : Option (List ℕ)) → HasOtherQualifier q → IsRemarked q
all_others (Some w) a = among_more other_is_remark a
all_others None a = a

all_broken : (t : QualifierRule) (q : Option (List ℕ)) → HasBrokenQualifier t q → IsRemarked q
all_broken t (Some w) a = among_more (broken_is_remark t) a
all_broken t None a = a

module _ {T E : Type 0} {view : T → List ℕ} (w : List ℕ) {x : T} (r : ReadsWhole {E = E} (Only (Required CertificatePolicies) Der w) view Never (Ok x)) (n : ¬ Among (Required PolicyInformation) HasRemark (view x)) (d : ¬ AreIndistinct (view x)) where
  pub sound_policies : (q : ValueRule) → type_of_rule q ≡ Some kind.Policies → BreaksValue q w → ⊥
  unfolding OfPolicies
  sound_policies (rule.OfType s) e never = never (subst (λ z. IsOfType z w) (same_type e) (view x, r.found))
  sound_policies rule.DistinctPolicies e s = d (subst AreIndistinct (sym (r.only s.0 s.1)) s.2)
  sound_policies rule.AnyPolicyQualifiers e s = n (among_more (λ v p. all_others v.1.0 p.1) (subst (Among (Required PolicyInformation) IsAnyWithOther) (sym (r.only s.0 s.1)) s.2))
  sound_policies (rule.Qualifiers q) e s = n (among_more (λ v p. all_broken q v.1.0 p) (subst (Among (Required PolicyInformation) (IsBadlyQualified q)) (sym (r.only s.0 s.1)) s.2))
  sound_policies rule.IssuerAndSerial e s = absurd (subst OfPolicies (sym e) tt)
  sound_policies rule.UnmappedAnyPolicy e s = absurd (subst OfPolicies (sym e) tt)
  sound_policies (rule.Names q) e s = absurd (subst OfPolicies (sym e) tt)
  sound_policies rule.NotEmpty e s = absurd (subst OfPolicies (sym e) tt)
  sound_policies (rule.Subtrees q) e s = absurd (subst OfPolicies (sym e) tt)
  sound_policies (rule.Points q) e s = absurd (subst OfPolicies (sym e) tt)
  sound_policies rule.PointForAllReasons e s = absurd (subst OfPolicies (sym e) tt)
  sound_policies (rule.IssuingPoint q) e s = absurd (subst OfPolicies (sym e) tt)
  sound_policies rule.CaIssuers e s = absurd (subst OfPolicies (sym e) tt)
  sound_policies rule.ShortNumber e s = absurd (subst OfPolicies (sym e) tt)
  sound_policies rule.NaturalNumber e s = absurd (subst OfPolicies (sym e) tt)
  sound_policies rule.WholeSeconds e s = absurd (subst OfPolicies (sym e) tt)
  sound_policies (rule.Issuer q) e s = absurd (subst OfPolicies (sym e) tt)
  sound_policies rule.DirectoryName e s = absurd (subst OfPolicies (sym e) tt)
  sound_policies (rule.Locations q) e s = absurd (subst OfPolicies (sym e) tt)
  sound_policies rule.SpecifiedReason e s = absurd (subst OfPolicies (sym e) tt)
  sound_policies rule.DerValues e s = absurd (subst OfPolicies (sym e) tt)

-- There is one first fault.
use Rattle.std.proofs.Common.{◌≡◌, ◌≢◌, ℕ, ◌+◌, ◌-◌, ◌<◌, ◌≤◌, ◌⊎◌, Bool, true, false, List, [], ◌∷◌, ◌++◌, length, take, Option, Some, None, Err, refl, sym, ap, subst, ◌∙◌, arith, append_assoc, length-append, inl, inr}
use Rattle.std.specs.Prelude.{IfSome}
use Rattle.std.specs.Option.{option_to_list}
use Rattle.der_base.specs.declared.error.Err.{Err as Refused}
use Rattle.der_base.specs.declared.error.Err.TheVariants.{Incomplete, Error, Failure, OutOfMemory}
use Rattle.der_base.specs.declared.error.Error.{Error as BerError}
use Rattle.der_base.specs.declared.error.Error.TheVariants as errors
use Rattle.der_base.specs.declared.error.Needed.TheVariants.{Unknown, Size}
use Rattle.der_base.specs.declared.header.Class.{Class}
use Rattle.der_base.specs.declared.header.Length.TheVariants.{Definite, Indefinite}
use Rattle.der_base.specs.declared.rules.Rules.{Rules}
use Rattle.der_base.specs.declared.rules.Rules.TheVariants.{Ber, Der}
use Rattle.der_base.specs.Answer.{MatchAnswer}
use Rattle.der_base.specs.Fault.{BerHeaderRefuses, DerHeaderRefuses}
use Rattle.der_base.specs.Headers.{LeadingHeader}
use Rattle.der_base.specs.Octets.{identifier}
use Rattle.der_base.specs.Refusal.{Refusal as Name, refusal, invalid_tag, invalid_length, construct_expected, der_constraint}
use Rattle.der_base.specs.Rules.{AnswersHeader, SpellsHeaderBy}
use Rattle.der_base.proofs.Answers.Exactness.{ShowsOne}
use Rattle.der_base.proofs.Headers.BerHeaders.{ber_header_shows_one}
use Rattle.der_base.proofs.Headers.DerHeaders.{der_header_shows_one}
use Rattle.der_elements.specs.Check.Elements.{MayBeConstructed}
use Rattle.der_elements.proofs.CheckLaws.HeadersBy.{header_refused, header_same, spells_open}
use Rattle.der_contents.specs.ContentRules.{Rule, IsFirstBroken, content_rules}
use Rattle.der_contents.specs.declared.content_error.ContentError.{ContentError}
use Rattle.der_elements.specs.declared.cause.Cause.{Cause}
use Rattle.der_elements.specs.declared.cause.Cause.TheVariants.{EndMarker, Value, Constructed, ConstructedString, TooDeep}
use Rattle.der_elements.specs.declared.path.Step.{Step}
use Rattle.der_elements.specs.declared.error.ElementError.{ElementError}
use Rattle.der_elements.specs.Ends.{IsWithin, overrun}
use Rattle.der_elements.specs.Faults.{Position, HasRoom, IsAtFault, IsLastStep, IsStep, ended, header, content, too_deep, string, constructed, marker, value, cause_of_content, cause_of_end, cause_of_header, content_at, end_at, octets_at, place_of}
use Rattle.der_elements.specs.FirstFault.{Faults, FaultsOne, behind, first, here, inner, inside, later}
use Rattle.der_elements.specs.Visits.{Visited, Extras, IsHeaderBy, VisitsOne, visited}
use Rattle.der_elements.proofs.Ends.{no_overrun}
use Rattle.der_elements.proofs.FaultsHere.{ber_may, same_length}
use Rattle.der_elements.proofs.Headers.{header_two, length_from, spells_parts}
use Rattle.der_elements.proofs.NoFaults.{no_fault_one}
use Rattle.der_elements.proofs.OneVisit.{one_same, same_start}

-- the errors of headers

abbrev plain : Name → Bool
plain invalid_tag = true
plain invalid_length = true
plain construct_expected = true
plain (der_constraint c) = true
plain _ = false

abbrev back : Name → BerError
back invalid_length = errors.InvalidLength
back construct_expected = errors.ConstructExpected
back (der_constraint c) = errors.DerConstraintFailed c
back _ = errors.InvalidTag

back_same : (b : BerError) → plain (refusal b) ≡ true → back (refusal b) ≡ b
back_same errors.BerTypeError q = absurd (cc)
back_same errors.BerValueError q = absurd (cc)
back_same errors.BerMaxDepth q = absurd (cc)
back_same errors.InvalidLength q = refl
back_same errors.InvalidTag q = refl
back_same (errors.UnknownTag n) q = absurd (cc)
back_same (errors.UnexpectedTag e a) q = absurd (cc)
back_same (errors.UnexpectedClass e a) q = absurd (cc)
back_same errors.ConstructExpected q = refl
back_same errors.ConstructUnexpected q = absurd (cc)
back_same errors.IntegerTooLarge q = absurd (cc)
back_same errors.IntegerNegative q = absurd (cc)
back_same (errors.InvalidValue t m) q = absurd (cc)
back_same errors.StringInvalidCharset q = absurd (cc)
back_same errors.InvalidDateTime q = absurd (cc)
back_same errors.Unsupported q = absurd (cc)
back_same (errors.DerConstraintFailed c) q = refl
back_same (errors.Incomplete n) q = absurd (cc)
back_same (errors.NomError k) q = absurd (cc)

ber_plain : (i : List ℕ) (x : Name) → BerHeaderRefuses i x → plain x ≡ true
ber_plain i x (inl (bad, e)) = ap plain e
ber_plain i x (inr (p, s, h, inl (z, e))) = ap plain e
ber_plain i x (inr (p, s, h, inr (inl (z, e)))) = ap plain e
ber_plain i x (inr (p, s, h, inr (inr (z, y, e)))) = ap plain e

der_plain : (i : List ℕ) (x : Name) → DerHeaderRefuses i x → plain x ≡ true
der_plain i x (inl (bad, e)) = ap plain e
der_plain i x (inr (p, s, h, inl (z, e))) = ap plain e
der_plain i x (inr (p, s, h, inr (inl (z, e)))) = ap plain e
der_plain i x (inr (p, s, h, inr (inr (inl (z, e))))) = ap plain e
der_plain i x (inr (p, s, h, inr (inr (inr (z, e))))) = ap plain e

module _ {T V : Type 0} {value_of : T → V} {Reads : T → Type 0} {Spelled : V → Type 0} {Refuses : Name → Type 0} {Lacks : ℕ → Type 0} (s : ShowsOne value_of Reads Spelled Refuses Lacks) (pl : (x : Name) → Refuses x → plain x ≡ true)
  where
    one_error : (e e' : Refused BerError) → MatchAnswer {T = T} (Err e) Reads Refuses Lacks ⊥ → MatchAnswer {T = T} (Err e') Reads Refuses Lacks ⊥ → e ≡ e'
    one_error (Error b) (Error b') h h' = ap Error (sym (back_same b (pl (refusal b) h)) ∙ ap back (s.one_refusal (refusal b) (refusal b') h h') ∙ back_same b' (pl (refusal b') h'))
    one_error (Error b) (Incomplete (Size n)) h h' = absurd (s.not_both (refusal b) n h h')
    one_error (Incomplete (Size n)) (Error b) h h' = absurd (s.not_both (refusal b) n h' h)
    one_error (Incomplete (Size n)) (Incomplete (Size m)) h h' = ap (λ k. Incomplete (Size k)) (s.one_lack n m h h')
    one_error (Error b) (Incomplete Unknown) h h' = absurd h'
    one_error (Error b) (Failure c) h h' = absurd h'
    one_error (Error b) OutOfMemory h h' = absurd h'
    one_error (Incomplete (Size n)) (Incomplete Unknown) h h' = absurd h'
    one_error (Incomplete (Size n)) (Failure c) h h' = absurd h'
    one_error (Incomplete (Size n)) OutOfMemory h h' = absurd h'
    one_error (Incomplete Unknown) e h h' = absurd h
    one_error (Failure b) e h h' = absurd h
    one_error OutOfMemory e h h' = absurd h

header_error_same : (r : Rules) (i : List ℕ) (e e' : Refused BerError) → AnswersHeader r i (Err e) → AnswersHeader r i (Err e') → e ≡ e'
header_error_same Ber i e e' a a' = one_error (ber_header_shows_one i) (ber_plain i) e e' a.found a'.found
header_error_same Der i e e' a a' = one_error (der_header_shows_one i) (der_plain i) e e' a.found a'.found

first_broken_same : (rs : List Rule) (e e' : ContentError) → IsFirstBroken rs e → IsFirstBroken rs e' → e ≡ e'
first_broken_same [] e e' h h' = absurd h
first_broken_same (r ∷ rs) e e' (inl (b, q)) (inl (b', q')) = q ∙ sym q'
first_broken_same (r ∷ rs) e e' (inl (b, q)) (inr (g, h')) = absurd (b g)
first_broken_same (r ∷ rs) e e' (inr (g, h)) (inl (b', q')) = absurd (b' g)
first_broken_same (r ∷ rs) e e' (inr (g, h)) (inr (g', h')) = first_broken_same rs e e' h h'

-- a position has one fault
module _ (x : Extras) (d : ℕ) (p : Position) (octets : List ℕ)
  where
    abbrev OfKind : LeadingHeader → Cause → Type 0
    OfKind v c =
        ((v.constructed ≡ true) × (((¬ MayBeConstructed p.rules v.class v.number) × MayBeConstructed Ber v.class v.number × (c ≡ ConstructedString)) ⊎ ((¬ MayBeConstructed Ber v.class v.number) × (c ≡ Constructed))))
        ⊎ ((v.constructed ≡ false)
        × (((v.number ≡ 0) × (c ≡ EndMarker)) ⊎ ((v.number ≢ 0) × (n : ℕ) × (e : ContentError) × (v.length ≡ Definite n) × IsFirstBroken (content_rules p.rules v.number (take n v.rest)) e × (c ≡ Value e))))

    abbrev OfHeader : LeadingHeader → Cause → Type 0
    OfHeader v c =
        ((n : ℕ) × (v.length ≡ Definite n) × (length v.rest < n) × (v.constructed ≡ true → overrun (content_at p octets v + n) (end_at p) ≢ 0) × (c ≡ cause_of_content p (content_at p octets v + n) (n - length v.rest)))
        ⊎ (HasRoom p octets v × (((d ≤ p.depth) × (c ≡ TooDeep)) ⊎ ((p.depth < d) × OfKind v c)))

    abbrev Cases : Cause → Type 0
    Cases c =
        ((octets ≡ []) × (c ≡ cause_of_end p)) ⊎ ((octets ≢ []) × (e : Refused BerError) × AnswersHeader p.rules octets (Err e) × (c ≡ cause_of_header p e))
        ⊎ ((v : LeadingHeader) × SpellsHeaderBy p.rules octets v × OfHeader v c)

    cases : {c : Cause} → IsAtFault x d p octets c → Cases c
    cases (ended q ec) = inl (q, ec)
    cases (header e some a ec) = inr (inl (some, e, a, ec))
    cases (content v n s l lacks past ec) = inr (inr (v, s, inl (n, l, lacks, past, ec)))
    cases (too_deep v s room deep ec) = inr (inr (v, s, inr (room, inl (deep, ec))))
    cases (string v g ep bad may ec) = inr (inr (v, g.header, inr (g.room, inr (g.shallow, inl (ep, inl (bad, may, ec))))))
    cases (constructed v g ep bad ec) = inr (inr (v, g.header, inr (g.room, inr (g.shallow, inl (ep, inr (bad, ec))))))
    cases (marker v g ep eu en ec) = inr (inr (v, g.header, inr (g.room, inr (g.shallow, inr (ep, inl (en, ec))))))
    cases (value v n e g ep never eu some l broken ec) = inr (inr (v, g.header, inr (g.room, inr (g.shallow, inr (ep, inr (some, n, e, l, broken, ec))))))

    one_kind : (v : LeadingHeader) (c c' : Cause) → OfKind v c → OfKind v c' → c ≡ c'
    one_kind v c c' (inl (ep, inl (bad, may, e))) (inl (ep', inl (bad', may', e'))) = e ∙ sym e'
    one_kind v c c' (inl (ep, inl (bad, may, e))) (inl (ep', inr (bad', e'))) = absurd (bad' may)
    one_kind v c c' (inl (ep, inr (bad, e))) (inl (ep', inl (bad', may', e'))) = absurd (bad may')
    one_kind v c c' (inl (ep, inr (bad, e))) (inl (ep', inr (bad', e'))) = e ∙ sym e'
    one_kind v c c' (inl (ep, k)) (inr (ep', k')) = absurd (cc)
    one_kind v c c' (inr (ep, k)) (inl (ep', k')) = absurd (cc)
    one_kind v c c' (inr (ep, inl (z, e))) (inr (ep', inl (z', e'))) = e ∙ sym e'
    one_kind v c c' (inr (ep, inl (z, e))) (inr (ep', inr (some, n, er, l, broken, e'))) = absurd (some z)
    one_kind v c c' (inr (ep, inr (some, n, er, l, broken, e))) (inr (ep', inl (z, e'))) = absurd (some z)
    one_kind v c c' (inr (ep, inr (some, n, er, l, broken, e))) (inr (ep', inr (some', n', er', l', broken', e'))) =
        let size : n' ≡ n = same_length n' n (sym l' ∙ l) in
        let again = subst (λ k. IsFirstBroken (content_rules p.rules v.number (take k v.rest)) er') size broken' in
        e ∙ ap Value (first_broken_same (content_rules p.rules v.number (take n v.rest)) er er' broken again) ∙ sym e'

    one_header : (v : LeadingHeader) (c c' : Cause) → OfHeader v c → OfHeader v c' → c ≡ c'
    one_header v c c' (inl (n, l, lacks, past, e)) (inl (n', l', lacks', past', e')) =
        e ∙ ap (λ k. cause_of_content p (content_at p octets v + k) (k - length v.rest)) (same_length n n' (sym l ∙ l')) ∙ sym e'
    one_header v c c' (inl (n, l, lacks, past, e)) (inr (room, k)) = let z = room n l lacks in absurd (past z.0 z.1)
    one_header v c c' (inr (room, k)) (inl (n, l, lacks, past, e)) = let z = room n l lacks in absurd (past z.0 z.1)
    one_header v c c' (inr (room, inl (deep, e))) (inr (room', inl (deep', e'))) = e ∙ sym e'
    one_header v c c' (inr (room, inl (deep, e))) (inr (room', inr (shallow, k))) = absurd (omega (arith, deep, shallow))
    one_header v c c' (inr (room, inr (shallow, k))) (inr (room', inl (deep, e))) = absurd (omega (arith, deep, shallow))
    one_header v c c' (inr (room, inr (shallow, k))) (inr (room', inr (shallow', k'))) = one_kind v c c' k k'

    no_header : (v : LeadingHeader) → octets ≡ [] → SpellsHeaderBy p.rules octets v → ⊥
    no_header v e s = absurd (omega (arith, ap length e, header_two p.rules octets v s))

    one_case : (c c' : Cause) → Cases c → Cases c' → c ≡ c'
    one_case c c' (inl (q, e)) (inl (q', e')) = e ∙ sym e'
    one_case c c' (inl (q, e)) (inr (inl (some, er, a, e'))) = absurd (some q)
    one_case c c' (inl (q, e)) (inr (inr (v, s, k))) = absurd (no_header v q s)
    one_case c c' (inr (inl (some, er, a, e))) (inl (q, e')) = absurd (some q)
    one_case c c' (inr (inl (some, er, a, e))) (inr (inl (some', er', a', e'))) = e ∙ ap (λ z. cause_of_header p z) (header_error_same p.rules octets er er' a a') ∙ sym e'
    one_case c c' (inr (inl (some, er, a, e))) (inr (inr (v, s, k))) = absurd (header_refused p.rules octets er v a s)
    one_case c c' (inr (inr (v, s, k))) (inl (q, e')) = absurd (no_header v q s)
    one_case c c' (inr (inr (v, s, k))) (inr (inl (some, er, a, e))) = absurd (header_refused p.rules octets er v a s)
    one_case c c' (inr (inr (v, s, k))) (inr (inr (v', s', k'))) = one_header v c c' k (subst (λ u. OfHeader u c') (header_same p.rules octets v' v s' s) k')

    pub one_cause : {c c' : Cause} → IsAtFault x d p octets c → IsAtFault x d p octets c' → c ≡ c'
    one_cause {c} {c'} g g' = one_case c c' (cases g) (cases g')

    pub one_step : (s s' : Option Step) → IsLastStep p octets s → IsLastStep p octets s' → s ≡ s'
    one_step (Some a) (Some b) (v, s, g) (v', s', g') = ap Some (step_same a b v.class v.number p.index g (subst (λ u. IsStep b u.class u.number p.index) (header_same p.rules octets v' v s' s) g'))
      where
        step_same : (a b : Step) (c : Class) (t n : ℕ) → IsStep a c t n → IsStep b c t n → a ≡ b
        step_same a b c t n g g' =
            let e1 = g.class ∙ sym g'.class in
            let e2 = g.number ∙ sym g'.number in
            let e3 = g.index ∙ sym g'.index in
            let z : record { name = record { class = a.name.class; number = a.name.number }; index = a.index } ≡ record { name = record { class = b.name.class; number = b.name.number }; index = b.index } = cc in
            z
    one_step (Some a) None (v, s, g) never = absurd (never v s)
    one_step None (Some b) never (v, s, g) = absurd (never v s)
    one_step None None g g' = refl

    -- no list is entered where something is at fault
    module _ (c : Class) (t : ℕ) (n : Option ℕ) (h rest : List ℕ) (is : IsHeaderBy p.rules c true t n h) (split : octets ≡ h ++ rest) (room : IfSome n (λ m. IsWithin (p.at + length h + m) (end_at p))) (shallow : p.depth < d) (may : MayBeConstructed p.rules c t)
      where
        abbrev v : LeadingHeader
        v = record { class = c; constructed = true; number = t; length = length_from n; rest = rest }

        spelled : (l : Option ℕ) → n ≡ l → SpellsHeaderBy p.rules octets (record { class = c; constructed = true; number = t; length = length_from l; rest = rest })
        spelled (Some m) q = spells_parts p.rules octets c true t m h rest (subst (λ z. IsHeaderBy p.rules c true t z h) q is) split
        spelled None q =
            let g = subst (λ z. IsHeaderBy p.rules c true t z h) q is in
            subst (λ z. SpellsHeaderBy z octets (record { class = c; constructed = true; number = t; length = Indefinite; rest = rest })) (sym g.1)
            (spells_open octets c t rest g.0 (split ∙ ap (λ l. l ++ rest) g.3 ∙ append_assoc (identifier c true t) (128 ∷ []) rest))

        spells : SpellsHeaderBy p.rules octets v
        spells = spelled n refl

        within : (m : ℕ) → v.length ≡ Definite m → overrun (content_at p octets v + m) (end_at p) ≡ 0
        within m q =
            let at : p.at + length h ≡ content_at p octets v = omega (arith, ap length split, length-append h rest) in
            subst (λ k. overrun (k + m) (end_at p) ≡ 0) at (of n q room)
          where
            of : (l : Option ℕ) → length_from l ≡ Definite m → IfSome l (λ k. IsWithin (p.at + length h + k) (end_at p)) → overrun (p.at + length h + m) (end_at p) ≡ 0
            of (Some k) e g = no_overrun (p.at + length h + m) (end_at p) (subst (λ z. IsWithin (p.at + length h + z) (end_at p)) (same_length k m e) g)
            of None e g = absurd (cc)

        no_list : {k : Cause} → Cases k → ⊥
        no_list (inl (q, e)) = no_header v q spells
        no_list (inr (inl (some, er, a, e))) = header_refused p.rules octets er v a spells
        no_list {k} (inr (inr (u, s, g))) = of (subst (λ z. OfHeader z k) (header_same p.rules octets u v s spells) g)
          where
            of : OfHeader v k → ⊥
            of (inl (m, l, lacks, past, e)) = past refl (within m l)
            of (inr (r, inl (deep, e))) = absurd (omega (arith, deep, shallow))
            of (inr (r, inr (low, inl (ep, inl (bad, mb, e))))) = bad may
            of (inr (r, inr (low, inl (ep, inr (bad, e))))) = bad (ber_may p.rules c t may)
            of (inr (r, inr (low, inr (ep, g)))) = absurd (cc)

        pub no_list_here : {k : Cause} → IsAtFault x d p octets k → ⊥
        no_list_here g = no_list (cases g)

refusal_same : (f f' : ElementError) → f.offset ≡ f'.offset → f.step ≡ f'.step → f.cause ≡ f'.cause → f ≡ f'
refusal_same f f' e1 e2 e3 =
    let z : record { offset = f.offset; step = f.step; cause = f.cause } ≡ record { offset = f'.offset; step = f'.step; cause = f'.cause } = cc in z

abbrev Same : List Visited → List Visited → List Step → List Step → ElementError → ElementError → Type 0
Same vs vs' steps steps' f f' = (vs ≡ vs') × (steps ≡ steps') × (f ≡ f')

mutual
  pub faults_same : {x : Extras} {vs vs' : List Visited} {steps steps' : List Step} {f f' : ElementError} (d : ℕ) (p : Position) → Faults x d p vs steps f → Faults x d p vs' steps' f' → Same vs vs' steps steps' f f'
  faults_same d p (first stays g) (first stays' g') = one_faults_same d p g g'
  faults_same d p (first stays g) (later n b rest us ws en e one more ev) = absurd (no_fault_one d p rest en e one g)
  faults_same d p (later n b rest us ws en e one more ev) (first stays g) = absurd (no_fault_one d p rest en e one g)
  faults_same {x} {vs} {vs'} {steps} {steps'} {f} {f'} d p (later n b rest us ws en e one more ev) (later n' b' rest' us' ws' en' e' one' more' ev') =
      let deep : n' ≡ n = omega (arith, en, en') in
      let o = one_same rest rest' one (subst (λ q. VisitsOne x p.rules q p.depth p.at b' us') deep one') (sym e ∙ e') in
      let size : length b' ≡ length b = sym (ap length o.0) in
      let g = faults_same d (behind p (length b)) more (subst (λ q. Faults x d (behind p q) ws' steps' f') size more') in
      (ev ∙ ap (λ l. l ++ ws) o.1 ∙ ap (λ l. us' ++ l) g.0 ∙ sym ev', g.1, g.2)

  pub one_faults_same : {x : Extras} {vs vs' : List Visited} {steps steps' : List Step} {f f' : ElementError} (d : ℕ) (p : Position) → FaultsOne x d p vs steps f → FaultsOne x d p vs' steps' f' → Same vs vs' steps steps' f f'
  one_faults_same {x} {vs} {vs'} {steps} {steps'} {f} {f'} d p (here g eo st ev es) (here g' eo' st' ev' es') =
      let c : f.cause ≡ f'.cause = one_cause x d p (octets_at p) g g' in
      let s : f.step ≡ f'.step = one_step x d p (octets_at p) f.step f'.step st st' in
      (ev ∙ sym ev', es ∙ ap option_to_list s ∙ sym es', refusal_same f f' (eo ∙ ap (λ z. place_of p z) c ∙ sym eo') s c)
  one_faults_same {x} d p (here g eo st ev es) (inner c t n h rest s us more is e room deep may g' st' ev' es') = absurd (no_list_here x d p (octets_at p) c t n h rest is e room deep may g)
  one_faults_same {x} d p (inner c t n h rest s us more is e room deep may g' st' ev' es') (here g eo st ev es) = absurd (no_list_here x d p (octets_at p) c t n h rest is e room deep may g)
  one_faults_same {x} {vs} {vs'} {steps} {steps'} {f} {f'} d p (inner c t n h rest s us more is e room deep may g st ev es) (inner c' t' n' h' rest' s' us' more' is' e' room' deep' may' g' st' ev' es') =
      let same = same_start p.rules c' c true true t' t n' n h' h rest' rest is' is (sym e' ∙ e) in
      let g1 = subst (λ q. Faults x d (inside p q n') us' more' f') (ap length same.octets) g' in
      let g2 = subst (λ q. Faults x d (inside p (length h) q) us' more' f') same.length g1 in
      let inner_same = faults_same d (inside p (length h) n) g g2 in
      let step : s ≡ s' = steps_same s s' c c' t t' p.index st st' (sym same.class) (sym same.number) in
      let own : visited p.at p.depth c true t h n ≡ visited p.at p.depth c' true t' h' n' = visited_same same.class same.number same.octets same.length in
      (ev ∙ ap (λ v. v ∷ us) own ∙ ap (λ l. visited p.at p.depth c' true t' h' n' ∷ l) inner_same.0 ∙ sym ev', es ∙ ap (λ z. z ∷ more) step ∙ ap (λ l. s' ∷ l) inner_same.1 ∙ sym es', inner_same.2)
    where
      visited_same : c' ≡ c → t' ≡ t → h' ≡ h → n' ≡ n → visited p.at p.depth c true t h n ≡ visited p.at p.depth c' true t' h' n'
      visited_same e1 e2 e3 e4 =
          ap (λ z. visited p.at p.depth z true t h n) (sym e1) ∙ ap (λ z. visited p.at p.depth c' true z h n) (sym e2) ∙ ap (λ z. visited p.at p.depth c' true t' z n) (sym e3) ∙ ap (λ z. visited p.at p.depth c' true t' h' z) (sym e4)

      steps_same : (a b : Step) (c c' : Class) (t t' j : ℕ) → IsStep a c t j → IsStep b c' t' j → c ≡ c' → t ≡ t' → a ≡ b
      steps_same a b c c' t t' j g g' ec et =
          let e1 = g.class ∙ ec ∙ sym g'.class in
          let e2 = g.number ∙ et ∙ sym g'.number in
          let e3 = g.index ∙ sym g'.index in
          let z : record { name = record { class = a.name.class; number = a.name.number }; index = a.index } ≡ record { name = record { class = b.name.class; number = b.name.number }; index = b.index } = cc in
          z

use Rattle.std.proofs.Common.{◌≡◌, ◌≤◌, ◌++◌, length, arith, rules, inl, inr, ap, ◌∙◌}
use Rattle.std.proofs.lemmas.Result.{err_from_is_err_and}
use Rattle.der_base.specs.Content.{BeginsWithContent}
use Rattle.der_base.specs.Header.{class_of, is_constructed, number_of, length_of}
use Rattle.der_base.specs.Spelling.{framing_budget}
use Rattle.der_base.proofs.Answers.Answering.{passed_on, answered, ok_weaker}
use Rattle.der_base.proofs.Framing.FramingAny.{any_lacks_header}
use Rattle.der_base.proofs.Framing.FramingAny as framing
use Rattle.der_base.proofs.Framing.FramingLaws.{element_shorter}
use Rattle.der_base.proofs.Framing.Recording.{inside_more}
use Rattle.der_values.proofs.LawsLaws.Spellings.BerReadings.{any_cut}
use Rattle.der_readers.proofs.BerLaws.Items.{any_refused, framing_cut, begins_behind, content_refused, object_read}
use Rattle.der_readers.proofs.BerLaws.WantedTagNumbers.{not_other, refused_not_other, framing_needs, content_needs}
use Rattle.der_readers.proofs.ber.reader.read_element_with_tag.Goals as goal

pub returns-in_err-behind-clause-found : goal.returns-in_err-behind-clause-found
returns-in_err-behind-clause-found c =
    let i = c.args.i.now in
    let d = c.args.max_depth in
    let deep : 1 ≤ d = omega arith in
    let p = err_from_is_err_and c.from_residual.result c.from_residual.ensures.1 in
    rw (p.1, p.2) (passed_on _ _ c.in_err-behind.field-0.0 c.in_err-behind.ensures.exactly.found
    (λ e h. inr (inr (λ m. refused_not_other c.args.tag.0 i e m (inl h)), any_refused d i e deep (inl h))) (λ n h. any_cut d i n deep (any_lacks_header i n h)) (λ m. absurd m))

pub returns-in_err-rest-clause-found : goal.returns-in_err-rest-clause-found
returns-in_err-rest-clause-found c =
    let i = c.args.i.now in
    let d = c.args.max_depth in
    let n = c.args.tag.0 in
    let behind = c.in_ok-behind.behind.now in
    let h = c.in_ok-behind.header in
    let q = c.in_ok-behind.ensures.exactly.found in
    let deep : 1 ≤ d = omega arith in
    let p = err_from_is_err_and c.from_residual-in_err-rest.result c.from_residual-in_err-rest.ensures.1 in
    rw (p.1, p.2) (passed_on _ _ c.in_err-rest.field-0.0 c.in_err-rest.ensures.found
    (λ e r.
    let a = framing.any_refused i behind (class_of h) (is_constructed h) (number_of h) (length_of h) e q.begins (rw c.length.ensures at r) in
    inr (inr (λ m. refused_not_other n i e m a), any_refused d i e deep a))
    (λ m r. framing_cut d i behind h m deep q (rw c.length.ensures at r))
    (λ m. framing_needs n d i behind h deep q (rw c.length.ensures at m)))

pub returns-in_err-assert_tag-clause-found : goal.returns-in_err-assert_tag-clause-found
returns-in_err-assert_tag-clause-found c =
    let i = c.args.i.now in
    let behind = c.in_ok-behind.behind.now in
    let h = c.in_ok-behind.header in
    let w = c.in_ok-rest.bytes.now in
    let rest = c.in_ok-rest.rest.now in
    let deep : 1 ≤ c.args.max_depth = omega arith in
    let f : BeginsWithContent behind (length_of h) framing_budget w rest = rw c.length.ensures at c.in_ok-rest.ensures.found.0 in
    let b = begins_behind i behind w rest h c.in_ok-behind.ensures.exactly.found f in
    let p = err_from_is_err_and c.from_residual-in_err-assert_tag.result c.from_residual-in_err-assert_tag.ensures.1 in
    let e = c.in_err-assert_tag.ensures in
    rw (p.1, p.2) (inl (deep, number_of h, (e.0, class_of h, is_constructed h, w, rest, b), e.1))

pub read_object-requires-clause-recorded : goal.read_object-requires-clause-recorded
read_object-requires-clause-recorded c =
    let f = c.in_ok-rest.ensures.found in
    let e : c.deref.result.now ≡ f.1 = c.deref.ensures.value ∙ f.2 ∙ ap (λ v. v ++ f.1) c.new-spans.ensures.items in
    let r = inside_more c.length.result f.1 c.in_ok-rest.bytes.now framing_budget (omega arith) f.3 in
    rw (← c.length.ensures, e) r

pub returns-clause-found : goal.returns-clause-found
returns-clause-found c =
    let i = c.args.i.now in
    let d = c.args.max_depth in
    let n = c.args.tag.0 in
    let behind = c.in_ok-behind.behind.now in
    let h = c.in_ok-behind.header in
    let q = c.in_ok-behind.ensures.exactly.found in
    let w = c.in_ok-rest.bytes.now in
    let rest = c.in_ok-rest.rest.now in
    let deep : 1 ≤ d = omega arith in
    let f : BeginsWithContent behind (length_of h) framing_budget w rest = rw c.length.ensures at c.in_ok-rest.ensures.found.0 in
    let b = begins_behind i behind w rest h q f in
    let wanted : number_of h ≡ n = search rules in
    answered _ _ c.read_object.result c.read_object.ensures.found
    (λ x y. (object_read i behind w rest x.0.now h x.1 d q f deep y, ap number_of y.1 ∙ wanted))
    (λ e y. inr (inr (λ m. not_other n i w rest (class_of h) (is_constructed h) (number_of h) m b wanted), content_refused d i rest w (class_of h) (is_constructed h) (number_of h) e deep b y))
    (λ m y. absurd y)
    (λ m. content_needs n d i rest w (class_of h) (is_constructed h) (number_of h) wanted b m)

pub returns-clause-shorter : goal.returns-clause-shorter
returns-clause-shorter c =
    let i = c.args.i.now in
    let behind = c.in_ok-behind.behind.now in
    let h = c.in_ok-behind.header in
    let w = c.in_ok-rest.bytes.now in
    let rest = c.in_ok-rest.rest.now in
    let f : BeginsWithContent behind (length_of h) framing_budget w rest = rw c.length.ensures at c.in_ok-rest.ensures.found.0 in
    let s = element_shorter i framing_budget (class_of h) (is_constructed h) (number_of h) w rest (begins_behind i behind w rest h c.in_ok-behind.ensures.exactly.found f) in
    ok_weaker _ _ _ c.read_object.result _ c.read_object.ensures.found (λ x y. omega (arith, s, ap length y.0))

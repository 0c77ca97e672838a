use Rattle.std.proofs.Common.{◌≡◌, ◌-◌, ◌<◌, [], length, false, true, Some, None, refl, sym, subst, ◌∙◌, arith, rules}
use Rattle.std.specs.Prelude.{IfSome, IsTrue}
use Rattle.std.proofs.lemmas.List.{nil_from_length}
use Rattle.der_base.specs.Header.{class_of, is_constructed, length_of, number_of}
use Rattle.der_base.specs.Headers.{leading_header}
use Rattle.der_elements.specs.Check.Elements.{AreElements, MayBeConstructed, none}
use Rattle.der_elements.specs.Check.Readers.{BeginsWithElements, Finds, Follows}
use Rattle.der_elements.specs.Check.Tapes.{KeepsContent, KeepsInside}
use Rattle.der_elements.proofs.CheckLaws.ElementLaws.{before, constructed_follow, left, none_constructed, none_read, not_elements, open_before, open_end, open_left, open_none, read_finds, shorter, split}
use Rattle.der_elements.proofs.CheckLaws.HeadersBy.{header_read, header_shorter}
use Rattle.der_elements.proofs.CheckLaws.Quick.{IsListOctet, short_octets, no_short_list, short_list, short_list_listed, short_plain, short_plain_listed}
use Rattle.der_elements.proofs.CheckLaws.TapeLaws.{content_listed, element_listed, marker_left, none_inside, none_left, one_before, one_before_marker}
use Rattle.der_elements.proofs.check.reader.+reader.Goals as goal

-- the content behind a header

pub read_content-returns-then-not-constructed-clause-exactly : goal.read_content-returns-then-not-constructed-clause-exactly
read_content-returns-then-not-constructed-clause-exactly g t c =
    let h = c.args.header.now in
    let ep : is_constructed h ≡ false = (let f = c.if-not-constructed.true in let e = c.constructed.ensures in cc) in
    subst (λ p. Finds (Follows c.args.rules c.args.max_depth (class_of h) p (number_of h) (length_of h) c.args.i.now) c.after_content.result) (sym ep) c.after_content.ensures.exactly

pub read_content-returns-then-not-constructed-clause-listed : goal.read_content-returns-then-not-constructed-clause-listed
read_content-returns-then-not-constructed-clause-listed g t c =
    let h = c.args.header.now in
    let ep : is_constructed h ≡ false = (let f = c.if-not-constructed.true in let e = c.constructed.ensures in cc) in
    λ on. none_inside g.N.Slot.slot (is_constructed h) c.args.rules (c.args.max_depth - 1) (length_of h) c.args.i.now c.args.end c.args.tape.now c.after_content.result ep

pub read_content-returns-then-not-may_be_constructed-clause-exactly : goal.read_content-returns-then-not-may_be_constructed-clause-exactly
read_content-returns-then-not-may_be_constructed-clause-exactly g t c =
    let h = c.args.header.now in
    let ep : is_constructed h ≡ true = (let f = c.if-not-constructed.false in let e = c.constructed.ensures in cc) in
    let never : MayBeConstructed c.args.rules (class_of h) (number_of h) → ⊥ = λ m.
    let may : MayBeConstructed c.args.rules c.class.result c.tag.result.0 = rw (c.class.ensures, c.tag.ensures) m in
    absurd (let f = c.if-not-may_be_constructed.true in search (rules, f, c.may_be_constructed.ensures.1 may)) in
    subst (λ p. Finds (Follows c.args.rules c.args.max_depth (class_of h) p (number_of h) (length_of h) c.args.i.now) None) (sym ep)
    (none_constructed c.args.rules c.args.max_depth (class_of h) (number_of h) (length_of h) c.args.i.now never)

pub read_content-returns-clause-exactly : goal.read_content-returns-clause-exactly
read_content-returns-clause-exactly g t c =
    let h = c.args.header.now in
    let ep : is_constructed h ≡ true = (let f = c.if-not-constructed.false in let e = c.constructed.ensures in cc) in
    let may : MayBeConstructed c.args.rules (class_of h) (number_of h) = rw (← c.class.ensures, ← c.tag.ensures) (c.may_be_constructed.ensures.0 (search rules)) in
    let f = subst (λ l. Finds (BeginsWithElements c.args.rules (c.args.max_depth - 1) l c.args.i.now) c.read_constructed_content.result) c.length.ensures c.read_constructed_content.ensures.exactly in
    subst (λ p. Finds (Follows c.args.rules c.args.max_depth (class_of h) p (number_of h) (length_of h) c.args.i.now) c.read_constructed_content.result) (sym ep)
    (constructed_follow c.args.rules c.args.max_depth (class_of h) (number_of h) (length_of h) c.args.i.now c.read_constructed_content.result may f)

pub read_content-returns-clause-listed : goal.read_content-returns-clause-listed
read_content-returns-clause-listed g t c =
    let h = c.args.header.now in
    let d = c.args.max_depth - 1 in
    let i = c.args.i.now in
    let old = c.args.tape.now in
    let new = c.read_constructed_content.new.tape in
    let result = c.read_constructed_content.result in
    let ep : is_constructed h ≡ true = (let f = c.if-not-constructed.false in let e = c.constructed.ensures in cc) in
    λ on. subst (λ p. IfSome result (λ x. KeepsInside p c.args.rules g.N.Slot.slot d (length_of h) i c.args.end old x.now new)) (sym ep)
    (subst (λ l. IfSome result (λ x. KeepsContent c.args.rules g.N.Slot.slot d l i c.args.end old x.now new)) c.length.ensures (c.read_constructed_content.ensures.listed on))

-- any element

pub read_any-begin-number-requires : goal.read_any-begin-number-requires
read_any-begin-number-requires g t c =
    let s = header_shorter c.args.rules c.args.i.now (leading_header (c.in-Ok.behind, c.in-Ok.header)) (header_read c.args.rules c.args.i.now (c.in-Ok.behind, c.in-Ok.header) c.in-Ok.ensures) in
    omega (arith, s, c.requires.room)

pub read_any-read_content-requires : goal.read_any-read_content-requires
read_any-read_content-requires g t c =
    let s = header_shorter c.args.rules c.args.i.now (leading_header (c.in-Ok.behind, c.in-Ok.header)) (header_read c.args.rules c.args.i.now (c.in-Ok.behind, c.in-Ok.header) c.in-Ok.ensures) in
    λ lifetimes lives. (omega arith, (lives, (search rules, (c.requires.deep, omega (arith, s, c.requires.room, c.begin-number.ensures.within)))))

pub read_any-element_of-element-requires : goal.read_any-element_of-element-requires
read_any-element_of-element-requires g t c =
    let s = header_shorter c.args.rules c.args.i.now (leading_header (c.in-Ok.behind, c.in-Ok.header)) (header_read c.args.rules c.args.i.now (c.in-Ok.behind, c.in-Ok.header) c.in-Ok.ensures) in
    omega (arith, s, c.requires.room, c.in_ok-rest.ensures.shorter)

pub read_any-returns-in_err-rest-clause-exactly : goal.read_any-returns-in_err-rest-clause-exactly
read_any-returns-in_err-rest-clause-exactly g t c =
    let h = c.in-Ok.header in
    let none : c.from_residual.result ≡ None = search rules in
    rw none (read_finds c.args.rules c.args.max_depth c.args.i.now (c.in-Ok.behind, h) (is_constructed h) None c.requires.deep c.in-Ok.ensures refl c.in_err-rest.ensures.exactly)

pub read_any-returns-in_default-clause-exactly : goal.read_any-returns-in_default-clause-exactly
read_any-returns-in_default-clause-exactly g t c = none_read c.args.rules c.args.max_depth c.args.i.now c.in_default.field-0 c.in_default.ensures

pub read_any-returns-clause-exactly : goal.read_any-returns-clause-exactly
read_any-returns-clause-exactly g t c =
    let h = c.in-Ok.header in
    read_finds c.args.rules c.args.max_depth c.args.i.now (c.in-Ok.behind, h) (is_constructed h) (Some c.in_ok-rest.rest) c.requires.deep c.in-Ok.ensures refl c.in_ok-rest.ensures.exactly

pub read_any-returns-clause-listed : goal.read_any-returns-clause-listed
read_any-returns-clause-listed g t c =
    let h = c.in-Ok.header in
    let v = leading_header (c.in-Ok.behind, h) in
    λ on. element_listed c.args.rules c.args.max_depth c.args.i.now c.in_ok-rest.rest.now v (is_constructed h) (length_of h) c.args.end c.begin-number.result c.element_of-element.result
    c.args.tape.now c.begin-number.new.tape c.read_content.new.tape c.list.new.tape c.requires.deep (omega (arith, c.requires.room)) refl refl
    (header_read c.args.rules c.args.i.now (c.in-Ok.behind, h) c.in-Ok.ensures) c.in_ok-rest.ensures.exactly.found (c.in_ok-rest.ensures.listed on) c.element_of-element.ensures
    (record {
      number = c.begin-number.ensures.number;
      counted = c.begin-number.ensures.counted on;
      kept = c.begin-number.ensures.slots;
      count = c.list.ensures.count;
      slots = c.list.ensures.slots on;
    })

pub read_any-returns-clause-within : goal.read_any-returns-clause-within
read_any-returns-clause-within g t c =
    let s = header_shorter c.args.rules c.args.i.now (leading_header (c.in-Ok.behind, c.in-Ok.header)) (header_read c.args.rules c.args.i.now (c.in-Ok.behind, c.in-Ok.header) c.in-Ok.ensures) in
    let begun = c.begin-number.ensures.within in
    let inside = c.in_ok-rest.ensures.within in
    (omega (arith, c.list.ensures.count, begun, inside), omega (arith, s, c.list.ensures.count, begun, inside))

pub read_any-returns-clause-shorter : goal.read_any-returns-clause-shorter
read_any-returns-clause-shorter g t c = shorter c.args.rules c.args.i.now (c.in-Ok.behind, c.in-Ok.header) (Some c.in_ok-rest.rest) c.in-Ok.ensures c.in_ok-rest.ensures.shorter

-- an element

pub read_element-read_elements-requires : goal.read_element-read_elements-requires
read_element-read_elements-requires g t c =
    let x = c.in-Some.short in
    let size = short_octets c.args.i.now x.first x.content.now x.rest.now c.in-Some.ensures in
    λ lifetimes lives. (omega arith, (lives, (search rules, omega (arith, size, c.requires, c.begin-number.ensures.within, c.end_before-after.ensures.within))))

pub read_element-returns-then-not-read_elements-clause-exactly : goal.read_element-returns-then-not-read_elements-clause-exactly
read_element-returns-then-not-read_elements-clause-exactly g t c =
    let x = c.in-Some.short in
    let f = c.if-not-read_elements.true in
    no_short_list c.args.rules c.args.max_depth c.args.i.now x.first x.content.now x.rest.now (omega arith) (c.if-is_list_octet.ensures.0 (search rules)) c.in-Some.ensures
    (λ a. absurd (search (rules, f, c.read_elements.ensures.exactly.1 a)))

pub read_element-returns-then-is_list_octet-clause-exactly : goal.read_element-returns-then-is_list_octet-clause-exactly
read_element-returns-then-is_list_octet-clause-exactly g t c =
    let x = c.in-Some.short in
    short_list c.args.rules c.args.max_depth c.args.i.now x.first x.content.now x.rest (omega arith) (c.if-is_list_octet.ensures.0 (search rules)) c.in-Some.ensures (c.read_elements.ensures.exactly.0 (search rules))

pub read_element-returns-then-is_list_octet-clause-listed : goal.read_element-returns-then-is_list_octet-clause-listed
read_element-returns-then-is_list_octet-clause-listed g t c =
    let x = c.in-Some.short in
    let yes : IsTrue c.read_elements.result = search rules in
    let is : IsListOctet x.first = c.if-is_list_octet.ensures.0 (search rules) in
    λ on. short_list_listed c.args.rules c.args.max_depth c.args.i.now x.first x.content.now x.rest.now c.args.end c.end_before-after.result c.begin-number.result c.universal_element-element.result
    c.args.tape.now c.begin-number.new.tape c.read_elements.new.tape c.list.new.tape (omega arith) (omega (arith, c.requires)) (c.end_before-after.ensures.exactly on) is c.in-Some.ensures c.universal_element-element.ensures
    (c.read_elements.ensures.listed on yes)
    (record {
      number = c.begin-number.ensures.number;
      counted = c.begin-number.ensures.counted on;
      kept = c.begin-number.ensures.slots;
      count = c.list.ensures.count;
      slots = c.list.ensures.slots on;
    })

pub read_element-returns-then-is_plain-clause-exactly : goal.read_element-returns-then-is_plain-clause-exactly
read_element-returns-then-is_plain-clause-exactly g t c =
    let x = c.in-Some.short in
    short_plain c.args.rules c.args.max_depth c.args.i.now x.first x.content.now x.rest (omega arith) c.in-Some.ensures (c.if-is_plain.ensures (search rules))

pub read_element-returns-then-is_plain-clause-listed : goal.read_element-returns-then-is_plain-clause-listed
read_element-returns-then-is_plain-clause-listed g t c =
    let x = c.in-Some.short in
    λ on. short_plain_listed c.args.rules c.args.max_depth c.args.i.now x.first x.content.now x.rest.now c.args.end c.end_before-after.result c.begin-number-then-is_plain.result c.universal_element-element-then-is_plain.result
    c.args.tape.now c.begin-number-then-is_plain.new.tape c.list-then-is_plain.new.tape (omega arith) (omega (arith, c.requires)) (c.end_before-after.ensures.exactly on) c.in-Some.ensures (c.if-is_plain.ensures (search rules))
    c.universal_element-element-then-is_plain.ensures
    (record {
      number = c.begin-number-then-is_plain.ensures.number;
      counted = c.begin-number-then-is_plain.ensures.counted on;
      kept = c.begin-number-then-is_plain.ensures.slots;
      count = c.list-then-is_plain.ensures.count;
      slots = c.list-then-is_plain.ensures.slots on;
    })

-- a content of elements

pub read_constructed_content-returns-then-read_elements-clause-listed : goal.read_constructed_content-returns-then-read_elements-clause-listed
read_constructed_content-returns-then-read_elements-clause-listed g t c =
    let w = c.in_ok-content.content in
    let rest = c.in_ok-content.rest in
    let parts = c.in_ok-content.ensures.cases in
    let n = c.in-Definite.count in
    let size = c.in-Definite.is in
    λ on. subst (λ l. KeepsContent c.args.rules g.N.Slot.slot c.args.max_depth l c.args.i.now c.args.end c.args.tape.now rest.now c.read_elements.new.tape) (sym size)
    (content_listed c.args.rules c.args.max_depth n c.args.i.now w.now rest.now c.args.end c.end_before.result c.args.tape.now c.read_elements.new.tape (omega (arith, c.requires)) (c.end_before.ensures.exactly on) parts.3
    (split n c.args.i.now w.now rest.now parts.1 parts.2) (c.if-read_elements.ensures.listed on (search rules)))

-- elements before an end marker

pub read_open_content-loop-after-init : goal.read_open_content-loop-after-init
read_open_content-loop-after-init g t c = record {
  left = λ r p. p;
  before = λ r p. p;
  listed = λ on r new p. p;
  shorter = omega arith;
  counted = omega arith;
  within = omega arith;
  same = refl;
}

pub read_open_content-returns-in-Some-clause-exactly : goal.read_open_content-returns-in-Some-clause-exactly
read_open_content-returns-in-Some-clause-exactly g t c =
    let marker = c.in-Some.ensures in
    record {
      found = c.loop-after.invariant.before c.in-Some.after.now ([], marker, none);
      only = λ r p. open_end c.args.rules c.args.max_depth c.loop-after.rest.now c.in-Some.after.now r marker (c.loop-after.invariant.left r p);
    }

pub read_open_content-returns-in-Some-clause-listed : goal.read_open_content-returns-in-Some-clause-listed
read_open_content-returns-in-Some-clause-listed g t c =
    let now = c.loop-after.tape in
    λ on. c.loop-after.invariant.listed on c.in-Some.after.now now (marker_left c.args.rules c.args.max_depth c.loop-after.rest.now c.in-Some.after.now c.args.end now c.in-Some.ensures)

pub read_open_content-loop-after-preserved : goal.read_open_content-loop-after-preserved
read_open_content-loop-after-preserved g t c =
    let i = c.loop-after.rest.now in
    let x = c.in-Some-read_element.after in
    let k = c.loop-after.invariant in
    let f = c.in-Some-read_element.ensures in
    let mid = c.read_element.new.tape in
    record {
      left = λ r p. open_left c.args.rules c.args.max_depth i r x c.in_default.ensures f.exactly (k.left r p);
      before = λ r p. k.before r (open_before c.args.rules c.args.max_depth i r x f.exactly p);
      listed = λ on r new p. k.listed on r new (one_before_marker c.args.rules c.args.max_depth i x.now r c.args.end c.loop-after.tape mid new (omega (arith, k.within, c.requires)) (f.listed on) p);
      shorter = omega (arith, f.shorter, k.shorter);
      counted = omega (arith, k.counted, f.within);
      within = omega (arith, k.within, f.within);
      same = c.read_element.ensures.same ∙ k.same;
    }

pub read_open_content-returns-in-None-clause-exactly : goal.read_open_content-returns-in-None-clause-exactly
read_open_content-returns-in-None-clause-exactly g t c = record {
  found = tt;
  only = λ r p. open_none c.args.rules c.args.max_depth c.loop-after.rest.now r c.in_default.ensures c.in-None.ensures.exactly (c.loop-after.invariant.left r p);
}

-- elements

pub read_elements-loop-rest-init : goal.read_elements-loop-rest-init
read_elements-loop-rest-init g t c = record {
  left = λ a. a;
  before = λ a. a;
  listed = λ on new p. p;
  counted = omega arith;
  within = omega arith;
  same = refl;
}

pub read_elements-loop-rest-preserved : goal.read_elements-loop-rest-preserved
read_elements-loop-rest-preserved g t c =
    let i = c.loop-rest.rest.now in
    let x = c.in-Some.after in
    let k = c.loop-rest.invariant in
    let f = c.in-Some.ensures in
    let some : 0 < length i = search rules in
    let mid = c.read_element.new.tape in
    record {
      left = λ a. left c.args.rules c.args.max_depth i x some f.exactly (k.left a);
      before = λ a. k.before (before c.args.rules c.args.max_depth i x f.exactly a);
      listed = λ on new p. k.listed on new (one_before c.args.rules c.args.max_depth i x.now c.args.end c.loop-rest.tape mid new (omega (arith, k.within, c.requires)) (f.listed on) p);
      counted = omega (arith, k.counted, f.within);
      within = omega (arith, k.within, f.within);
      same = c.read_element.ensures.same ∙ k.same;
    }

pub read_elements-returns-in-None-clause-exactly : goal.read_elements-returns-in-None-clause-exactly
read_elements-returns-in-None-clause-exactly g t c =
    let some : 0 < length c.loop-rest.rest.now = search rules in
    (λ yes. absurd (search (rules, yes)), λ a. absurd (not_elements c.args.rules c.args.max_depth c.loop-rest.rest.now some c.in-None.ensures.exactly (c.loop-rest.invariant.left a)))

pub read_elements-returns-clause-exactly : goal.read_elements-returns-clause-exactly
read_elements-returns-clause-exactly g t c =
    let ended : length c.loop-rest.rest.now ≡ 0 = search rules in
    (λ yes. c.loop-rest.invariant.before (subst (λ l. AreElements c.args.rules c.args.max_depth l) (sym (nil_from_length c.loop-rest.rest.now ended)) none), λ a. search rules)

pub read_elements-returns-clause-listed : goal.read_elements-returns-clause-listed
read_elements-returns-clause-listed g t c =
    let ended : length c.loop-rest.rest.now ≡ 0 = search rules in
    let now = c.loop-rest.tape in
    λ on yes. c.loop-rest.invariant.listed on now (none_left c.args.rules c.args.max_depth c.loop-rest.rest.now c.args.end now ended)

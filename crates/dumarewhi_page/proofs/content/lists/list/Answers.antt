use Rattle.std.proofs.Common.{◌≡◌, ℕ, ◌+◌, ◌^◌, ◌<◌, length, Option, Result, Ok, List, [], ◌∷◌, ◌++◌, true, false, sym, ap, ◌∙◌, subst, inl, inr, arith, refl, rules}
use Rattle.der_elements.specs.declared.element.Element.{Element}
use Rattle.der_elements.specs.declared.error.ElementError.{ElementError}
use Rattle.der_elements.specs.Visits.{Extras}
use Rattle.der_elements.specs.Walked.{VisitsNext, index_in, visited_of}
use Rattle.der_elements.proofs.Steps.{within}
use Rattle.dumarewhi_page.specs.declared.content.row.PageRow.{PageRow}
use Rattle.dumarewhi_page.specs.Content.Listed.{all_extras}
use Rattle.dumarewhi_page.specs.Content.Rows.{AreRows, row_after, row_of}
use Rattle.dumarewhi_page.proofs.ContentLaws.Listing.{AreLast, around_is, last_none, last_set, rows_none, rows_more}
use Rattle.dumarewhi_page.proofs.content.lists.list.Goals as goal

pub elements-init : goal.elements-init
elements-init c =
    let x : Extras = record { enters_strings = true; keeps_values = false } in
    ([], c.keeping_values-walk.ensures x c.args.rules c.args.input.now c.new.ensures, rows_none c.args.rows.now, last_none _ c.none-last.ensures)

pub returns-in-Ok-None : goal.returns-in-Ok-None
returns-in-Ok-None c =
    let so_far = c.elements.invariant in
    let P : Result (Option Element) ElementError → Type 0 = λ q. VisitsNext all_extras c.args.rules c.args.input.now so_far.0 c.next_element.new.self q in
    let ends = subst P (c.in-Ok-None.is ∙ ap (λ o. Ok o) c.in-Ok-None.field-0-is) (c.next_element.ensures.visits all_extras c.args.rules c.args.input.now so_far.0 so_far.1) in
    let Q : ℕ → Type 0 = λ n. AreRows so_far.0 c.elements.rows n in
    (so_far.0, subst Q (sym c.ended.ensures.rows) so_far.2, inl (c.ended.ensures.refused, ends))

pub elements-preserved : goal.elements-preserved
elements-preserved c =
    let so_far = c.elements.invariant in
    let n = c.elements.count in
    let row = c.new-row.result in
    let v = visited_of c.in-Ok-Some.element in
    let P : Result (Option Element) ElementError → Type 0 = λ q. VisitsNext all_extras c.args.rules c.args.input.now so_far.0 c.next_element.new.self q in
    let next = subst P (c.in-Ok-Some.is ∙ ap (λ o. Ok o) c.in-Ok-Some.field-0-is) (c.next_element.ensures.visits all_extras c.args.rules c.args.input.now so_far.0 so_far.1) in
    let S : List PageRow → Type 0 = λ rows. AreRows (so_far.0 ++ v ∷ []) rows (n + 1) in
    let around = c.around.ensures ∙ around_is c.elements.last.rows so_far.0 c.in-Ok-Some.element.depth so_far.3 next.3 in
    let is : row ≡ row_after so_far.0 v = c.new-row.ensures ∙ ap (λ m. row_of v m c.around.result) next.2 ∙ ap (row_of v (index_in v.depth so_far.0)) around in
    let last = last_set c.elements.last.rows so_far.0 v c.in-Ok-Some.element.depth n so_far.3 refl so_far.2.0 in
    (so_far.0 ++ v ∷ [], next.0, subst S (sym c.put_row.ensures) (rows_more so_far.0 c.elements.rows n row v so_far.2 is), subst (λ l. AreLast l (so_far.0 ++ v ∷ [])) (sym c.set.ensures) last)

pub returns-in-Err : goal.returns-in-Err
returns-in-Err c =
    let so_far = c.elements.invariant in
    let P : Result (Option Element) ElementError → Type 0 = λ q. VisitsNext all_extras c.args.rules c.args.input.now so_far.0 c.next_element.new.self q in
    let is = subst P c.in-Err.is (c.next_element.ensures.visits all_extras c.args.rules c.args.input.now so_far.0 so_far.1) in
    let Q : ℕ → Type 0 = λ n. AreRows so_far.0 c.elements.rows n in
    (so_far.0, subst Q (sym c.refused.ensures.rows) so_far.2, inr (c.refused.ensures.refused, c.next_element.new.self, c.in-Err.refusal, is, c.refused.ensures.place, c.refused.ensures.depth ∙ c.depth.ensures))

-- there are more octets than elements
pub overflow_add-count : goal.overflow_add-count
overflow_add-count c =
    let so_far = c.elements.invariant in
    let few = so_far.1.few in
    let at = within so_far.1.walked in
    let fits : length c.args.input.now < 2 ^ 64 = search rules in
    omega (arith, few, at.0, so_far.2.0, fits)

pub set-requires : goal.set-requires
set-requires c = c.elements.invariant.3.size

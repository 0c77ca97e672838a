use Rattle.std.proofs.Common.{◌≡◌, ◌≢◌, suc, ◌-◌, [], arith, rules}
use Rattle.der_cursor.specs.Cursors.{octets_left}
use Rattle.messages.specs.declared.ldap.filter.FilterKind.TheVariants.{Connective as Connected, Item}
use Rattle.messages.specs.Ldap.Filters.{FilterField}
use Rattle.messages.proofs.LdapLaws.FilterLaws.{adds_deeper, all_or_any, filter_takes, inside_refused, item_added, item_refused, joined_all, joined_more, joined_none, joined_read, joined_refused, joined_stuck, negated, none_next, not_negated, not_opened, too_deep}
use Rattle.messages.proofs.ldap.filters.+filters.Goals as goal

-- filters that are joined

pub read_connective-returns-in_err-inside : goal.read_connective-returns-in_err-inside
read_connective-returns-in_err-inside t c = not_opened (FilterField c.args.depth) c.args.connective c.tag.ensures _ c.in_err-inside.ensures c.from_residual.ensures.1

pub read_connective-returns-in_err-read_inside : goal.read_connective-returns-in_err-read_inside
read_connective-returns-in_err-read_inside t c =
    inside_refused (FilterField c.args.depth) c.args.connective c.tag.ensures c.in_ok-inside.ensures _ c.in_err-read_inside.ensures c.from_residual-in_err-read_inside.ensures.1

pub read_connective-returns : goal.read_connective-returns
read_connective-returns t c =
    joined_read (FilterField c.args.depth) c.args.connective c.tag.ensures c.in_ok-inside.ensures _ c.in_ok-add.ensures c.in_ok-read_inside.ensures c.add-2.ensures

-- one filter

pub read_filter-returns-then-depth-eq0 : goal.read_filter-returns-then-depth-eq0
read_filter-returns-then-depth-eq0 t c = too_deep c.args.depth c.if-depth-eq0.true

pub read_filter-returns-in_err-kind : goal.read_filter-returns-in_err-kind
read_filter-returns-in_err-kind t c =
    let more : c.args.depth ≡ suc (c.args.depth - 1) = omega (arith, c.if-depth-eq0.false) in
    none_next c.args.depth more c.in_err-kind.ensures c.from_residual.ensures.1

pub read_filter-returns-in-Connective : goal.read_filter-returns-in-Connective
read_filter-returns-in-Connective t c =
    let more : c.args.depth ≡ suc (c.args.depth - 1) = omega (arith, c.if-depth-eq0.false) in
    let next = rw c.in-Connective.is at c.in_ok-kind.ensures in
    adds_deeper c.args.depth (Connected c.in-Connective.connective) more next c.read_connective.ensures

pub read_filter-returns-in_err-part-in-Item : goal.read_filter-returns-in_err-part-in-Item
read_filter-returns-in_err-part-in-Item t c =
    let more : c.args.depth ≡ suc (c.args.depth - 1) = omega (arith, c.if-depth-eq0.false) in
    let next = rw c.in-Item.is at c.in_ok-kind.ensures in
    adds_deeper c.args.depth (Item c.in-Item.item) more next
    (item_refused (FilterField (c.args.depth - 1)) c.in-Item.item _ c.in_err-part-in-Item.ensures c.from_residual-in_err-part-in-Item.ensures.1)

pub read_filter-returns-in_ok-part-in-Item : goal.read_filter-returns-in_ok-part-in-Item
read_filter-returns-in_ok-part-in-Item t c =
    let more : c.args.depth ≡ suc (c.args.depth - 1) = omega (arith, c.if-depth-eq0.false) in
    let next = rw c.in-Item.is at c.in_ok-kind.ensures in
    adds_deeper c.args.depth (Item c.in-Item.item) more next
    (item_added (FilterField (c.args.depth - 1)) c.in-Item.item c.in_ok-part-in-Item.part _ c.in_ok-part-in-Item.ensures c.add.ensures)

-- filters one after another

pub read_filters-filters-init : goal.read_filters-filters-init
read_filters-filters-init t c = joined_none (FilterField c.args.depth) c.args.inside c.args.parts.now.items

pub read_filters-returns-in_err-read_filter : goal.read_filters-returns-in_err-read_filter
read_filters-returns-in_err-read_filter t c = joined_refused c.filters.invariant _ (search rules) c.in_err-read_filter.ensures c.from_residual.ensures.1

pub read_filters-returns-then-is_stuck : goal.read_filters-returns-then-is_stuck
read_filters-returns-then-is_stuck t c = joined_stuck c.filters.invariant (filter_takes c.args.depth) c.in_ok-read_filter.ensures (c.is_stuck.ensures.stuck (search rules))

pub read_filters-filters-smaller : goal.read_filters-filters-smaller
read_filters-filters-smaller t c = c.is_stuck.ensures.goes_on (search rules)

pub read_filters-filters-preserved : goal.read_filters-filters-preserved
read_filters-filters-preserved t c = joined_more c.filters.invariant (search rules) c.in_ok-read_filter.ensures

pub read_filters-returns : goal.read_filters-returns
read_filters-returns t c = joined_all c.filters.invariant (filter_takes c.args.depth) (search rules)

-- the filters inside one

pub read_inside-returns-in_err-read_filter-in-Not : goal.read_inside-returns-in_err-read_filter-in-Not
read_inside-returns-in_err-read_filter-in-Not t c = rw c.in-Not.is (not_negated (FilterField c.args.depth) _ c.in_err-read_filter-in-Not.ensures c.from_residual.ensures.1)

pub read_inside-returns-in_ok-read_filter-in-Not : goal.read_inside-returns-in_ok-read_filter-in-Not
read_inside-returns-in_ok-read_filter-in-Not t c = rw c.in-Not.is (negated (FilterField c.args.depth) _ c.in_ok-read_filter-in-Not.ensures c.end.ensures)

pub read_inside-returns-in_default : goal.read_inside-returns-in_default
read_inside-returns-in_default t c = all_or_any (FilterField c.args.depth) c.args.connective _ c.in_default.not-Not c.read_filters.ensures

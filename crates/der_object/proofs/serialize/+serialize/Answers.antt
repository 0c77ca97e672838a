use Rattle.std.proofs.Common.{rules, ◌≡◌, ◌≤◌, ◌-◌, ◌++◌, length, ap, ◌∙◌, arith, length-append}
use Rattle.der_base.specs.Encoding.{encoding, encodings, content_octets}
use Rattle.der_base.specs.Header.{class_of, is_constructed, number_of}
use Rattle.der_base.specs.Octets.{identifier, shortest_length}
use Rattle.der_object.specs.declared.object.BerObjectContent.{the_lemmas}
use Rattle.der_object.specs.View.{tree, trees, content_tree}
use Rattle.der_object.proofs.Trees.{sequence_tree, set_tree, plain_encoding, encoding_length, item_room}
use Rattle.der_values.proofs.OctetsLaws.Room.{puts_both}
use Rattle.der_object.proofs.serialize.+serialize.Goals as goal

pub write_content-write_items-requires : goal.write_content-write_items-requires
write_content-write_items-requires t c =
    let w = ap content_octets (ap content_tree c.in-Sequence.is ∙ sequence_tree c.in-Sequence.items) in
    let room : length (encodings (trees c.deref.result.now)) ≤ c.args.end = rw (c.deref.ensures.value) (omega (arith, ap length w)) in
    search (rules, the_lemmas)

pub write_content-write_items-requires-in-Set : goal.write_content-write_items-requires-in-Set
write_content-write_items-requires-in-Set t c =
    let w = ap content_octets (ap content_tree c.in-Set.is ∙ set_tree c.in-Set.items) in
    let room : length (encodings (trees c.deref-in-Set.result.now)) ≤ c.args.end = rw (c.deref-in-Set.ensures.value) (omega (arith, ap length w)) in
    search (rules, the_lemmas)

pub write_items-write_object-begin-requires : goal.write_items-write_object-begin-requires
write_items-write_object-begin-requires t c =
    let o = c.index-items-i.result in
    let within = item_room c.args.items.now c.loop-i.i o c.loop-i-test.true c.loop-i.auto.i c.index-items-i.is in
    let room : length (encoding (tree o)) ≤ c.loop-i.begin = omega (arith, within, c.loop-i.invariant.begins) in
    search (rules, the_lemmas)

pub write_object-write_header-requires-in_default : goal.write_object-write_header-requires-in_default
write_object-write_header-requires-in_default t c =
    let o = c.args.o.now in
    let w = content_octets (content_tree o.content) in
    let begins = c.write_content-begin.ensures.begins in
    let n : c.args.end - c.write_content-begin.result ≡ length w = omega (arith, begins) in
    let front = identifier (class_of o.header) (is_constructed o.header) (number_of o.header) in
    let fits = encoding_length o.header o.content c.in_default.not-Optional c.in_default.not-Tagged in
    let room : length (front ++ shortest_length (length w)) ≤ c.write_content-begin.result =
    omega (arith, begins, fits, c.requires.room, length-append front (shortest_length (length w))) in
    record { room = rw n room; within = omega (arith, begins, c.requires.within, ap length c.write_content-begin.ensures.octets) }

pub write_object-returns-in_default : goal.write_object-returns-in_default
write_object-returns-in_default t c =
    let o = c.args.o.now in
    let n : c.args.end - c.write_content-begin.result ≡ length (content_octets (content_tree o.content)) = omega (arith, c.write_content-begin.ensures.begins) in
    let plain = plain_encoding o.header o.content c.in_default.not-Optional c.in_default.not-Tagged in
    rw plain (puts_both c.write_content-begin.ensures (rw n at c.write_header-in_default.ensures))

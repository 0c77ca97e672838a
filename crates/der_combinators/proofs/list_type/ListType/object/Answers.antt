use Rattle.der_combinators.proofs.list_type.ListType.object.Goals as goal

pub returns-in-Sequence : goal.returns-in-Sequence
returns-in-Sequence c = rw c.in-Sequence.is (record { header = c.from_obj.ensures.header; content = c.from_obj.ensures.content; tree = c.from_obj.ensures.tree })

pub returns-in-Set : goal.returns-in-Set
returns-in-Set c = rw c.in-Set.is (record { header = c.from_obj-in-Set.ensures.header; content = c.from_obj-in-Set.ensures.content; tree = c.from_obj-in-Set.ensures.tree })

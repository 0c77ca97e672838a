use Rattle.extension_text.proofs.names.name.+write_backwards.Given as goal

abbrev pub decreases-write_backwards : goal.decreases-write_backwards
decreases-write_backwards g l = l.count

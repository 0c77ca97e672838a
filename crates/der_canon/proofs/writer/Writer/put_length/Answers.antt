use Rattle.der_canon.proofs.writer.Writer.put_length.Goals as goal

pub returns : goal.returns
returns c = rw (← c.fill_length.ensures) c.put.ensures

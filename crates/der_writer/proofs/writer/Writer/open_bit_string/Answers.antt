use Rattle.der_writer.proofs.writer.Writer.open_bit_string.Goals as goal

pub returns : goal.returns
returns c = (_, c.open-bits.ensures, c.put_elements.ensures)

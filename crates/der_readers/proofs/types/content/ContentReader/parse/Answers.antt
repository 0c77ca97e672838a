use Rattle.der_readers.proofs.types.content.ContentReader.parse.Goals as goal

pub returns-in-Ber : goal.returns-in-Ber
returns-in-Ber c = rw (← c.length-length.ensures, ← c.constructed-constructed.ensures, c.in-Ber.is) c.ber_read_element_content_as.ensures

pub returns-in-Der : goal.returns-in-Der
returns-in-Der c = rw (← c.length-length.ensures, ← c.constructed-constructed.ensures, c.in-Der.is) c.der_read_element_content_as.ensures

-- What a reader of objects answers, seen as a tree and octets.
use Rattle.std.specs.Prelude.{ℕ, List, Result}
use Rattle.std.specs.Borrow.{Bor}
use Rattle.der_base.specs.declared.error.Err.{Err as Refused}
use Rattle.der_base.specs.declared.error.Error.{Error as BerError}
use Rattle.der_base.specs.Tree.{Node, Content}
use Rattle.der_object.specs.declared.object.BerObject.{BerObject}
use Rattle.der_object.specs.declared.object.BerObjectContent.{BerObjectContent}
use Rattle.der_object.specs.View.{tree, content_tree}

-- the answer of a reader of objects
abbrev pub Answer : Type 0
Answer = Result (Bor (List ℕ) × BerObject) (Refused BerError)

-- the tree of the object that was read, and the rest of the input
abbrev pub value_of : Bor (List ℕ) × BerObject → Node × List ℕ
value_of x = (tree x.1, x.0.now)

-- the answer of a reader of contents
abbrev pub ContentAnswer : Type 0
ContentAnswer = Result (Bor (List ℕ) × BerObjectContent) (Refused BerError)

abbrev pub content_value_of : Bor (List ℕ) × BerObjectContent → Content × List ℕ
content_value_of x = (content_tree x.1, x.0.now)

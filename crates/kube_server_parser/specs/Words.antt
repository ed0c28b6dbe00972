-- Scaffolding: only proofs and private clauses cite it.
-- What a text may go on with, in words.
use Rattle.std.specs.Prelude.{ℕ, List, codes}
use Rattle.kube_server_parser.specs.declared.expected.Closing.TheVariants as closing
use Rattle.kube_server_parser.specs.declared.expected.Expected.{Expected}
use Rattle.kube_server_parser.specs.declared.expected.Expected.TheVariants.{Operand, Number, FirstItem, NextItem, EndOfList, FirstKey, NextKey, EndOfMap, FirstArgument, Index, Member, Field, After}

abbrev pub words : Expected → List ℕ
words Operand = codes "an operand"
words Number = codes "an int or a double"
words FirstItem = codes "an operand, '?', ',' or ']'"
words NextItem = codes "an operand, '?' or ']'"
words EndOfList = codes "']'"
words FirstKey = codes "an operand, '?', ',' or '}'"
words NextKey = codes "an operand, '?' or '}'"
words EndOfMap = codes "'}'"
words FirstArgument = codes "an operand or ')'"
words Index = codes "an operand or '?'"
words Member = codes "a field name or '?'"
words Field = codes "a field name"
words (After closing.Text) = codes "an operator or the end of the text"
words (After closing.Round) = codes "an operator or ')'"
words (After closing.Argument) = codes "an operator, ',' or ')'"
words (After closing.Index) = codes "an operator or ']'"
words (After closing.Item) = codes "an operator, ',' or ']'"
words (After closing.Key) = codes "an operator or ':'"
words (After closing.Value) = codes "an operator, ',' or '}'"
words (After closing.Branch) = codes "an operator or ':'"

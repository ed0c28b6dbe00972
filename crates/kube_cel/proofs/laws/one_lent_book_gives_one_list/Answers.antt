use Rattle.kube_cel.proofs.UnderBooks.{schema_after_tree, tree_after_schema}
use Rattle.kube_cel.proofs.laws.one_lent_book_gives_one_list.Goals as goal

pub returns-clause-tree_second : goal.returns-clause-tree_second
returns-clause-tree_second c = tree_after_schema

pub returns-clause-tree_first : goal.returns-clause-tree_first
returns-clause-tree_first c = schema_after_tree

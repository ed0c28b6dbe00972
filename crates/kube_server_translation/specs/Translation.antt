-- Trusted by laws alone.
-- The translation of an API server's trees to those of the port. What the port's language has stays
-- as it is; optional syntax, optionals, macros with two variables, `cel.bind`, `dyn` and the types of
-- values become terms that mean what CEL-Go's documentation says of them (`cel.OptionalTypes`,
-- `ext.Bindings`, `ext.TwoVarComprehensions`); round brackets make no term.
use Rattle.std.specs.Prelude.{ℕ, zero, suc, List, [], ◌∷◌, Bool, false, Ok}
use Rattle.std.specs.Option.{unwrap_or}
use Rattle.std.specs.Map.{lookup}
use Rattle.std.specs.Str.{bytes_eq}
use Rattle.cel_syntax_ast.specs.Term as term
use Rattle.cel_syntax_ast.specs.Term.{Term}
use Rattle.kube_server_syntax.specs.Tree.{Tree, literal, ident, select, index, unary, binary, conditional, round, list_of, map_of, call, Trees, no_trees, tree_and, Items, no_items, item_and, Entries, no_entries, entry_and}
use Rattle.kube_server_translation.specs.Calls.{Translated, after, variables_of, outside, with_variables, call_made}
use Rattle.kube_server_translation.specs.Kinds.{kind_of_call}
use Rattle.kube_server_translation.specs.Made.{Made, plain, Names, value_of, made_of, selected, indexed, chosen, operated, list_with, map_with}

abbrev pub count_of : Trees → ℕ
count_of no_trees = zero
count_of (tree_and t ts) = suc (count_of ts)

-- whether a name is bound to an optional
abbrev pub is_optional_name : Names → List ℕ → Bool
is_optional_name names x = unwrap_or (lookup (bytes_eq x) names) false

abbrev mutual
  pub made : Names → Tree → Translated Made
  made names (literal p v) = Ok (plain (term.literal v))
  made names (ident p x) = Ok (made_of (is_optional_name names x) (term.ident x))
  made names (select p a o x) = after (made names a) (λ m. Ok (selected m o x))
  made names (index p a o i) =
      after (made names a) (λ m. after (made names i) (λ n. Ok (indexed m o (value_of n))))
  made names (unary p op a) = after (made names a) (λ m. Ok (plain (term.unary op (value_of m))))
  made names (binary p op a b) =
      after (made names a) (λ m. after (made names b) (λ n. Ok (plain (operated names op m n))))
  made names (conditional p c a b) =
      after (made names c) (λ l. after (made names a) (λ m. after (made names b)
      (λ n. Ok (chosen (value_of l) m n))))
  made names (round p a) = made names a
  made names (list_of p is) = after (made_items names is) (λ ps. Ok (plain (list_with ps)))
  made names (map_of p es) = after (made_entries names es) (λ ps. Ok (plain (map_with ps)))
  made names (call p target w args) =
      let k = kind_of_call target w (count_of args) in
      after (variables_of k args) (λ xs. after (made_all names names zero target)
      (λ ts. after (made_all names (with_variables xs names) (outside k) args)
      (λ us. Ok (call_made k w xs ts us))))

  -- the first of them, as many as the number says, with the first names, the others with the second
  pub made_all : Names → Names → ℕ → Trees → Translated (List Made)
  made_all names inner n no_trees = Ok []
  made_all names inner zero (tree_and t ts) =
      after (made inner t) (λ m. after (made_all names inner zero ts) (λ ms. Ok (m ∷ ms)))
  made_all names inner (suc n) (tree_and t ts) =
      after (made names t) (λ m. after (made_all names inner n ts) (λ ms. Ok (m ∷ ms)))

  pub made_items : Names → Items → Translated (List (Bool × Made))
  made_items names no_items = Ok []
  made_items names (item_and o t is) =
      after (made names t) (λ m. after (made_items names is) (λ ps. Ok ((o, m) ∷ ps)))

  pub made_entries : Names → Entries → Translated (List (Bool × Term × Made))
  made_entries names no_entries = Ok []
  made_entries names (entry_and o a b es) =
      after (made names a) (λ m. after (made names b) (λ n. after (made_entries names es)
      (λ ps. Ok ((o, value_of m, n) ∷ ps))))

-- The term of a tree, or what is wrong with it. The names are those of variables, each with whether
-- its value is an optional; a name that isn't there has none.
abbrev pub translated : Names → Tree → Translated Term
translated names t = after (made names t) (λ m. Ok (value_of m))

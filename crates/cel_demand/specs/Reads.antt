-- Trusted by the clauses of other library calls.
-- What an expression reads of the values of its free names (CEL language definition, "Field
-- Selection", "Macros"). A selection reads one member of its operand. A macro reads the items
-- of its range, each as far as its variable is read. All else reads its operands whole.
use Rattle.cel_syntax_ast.specs.Term.{Term, literal, ident, select, has, index, unary, binary, conditional, list_of, map_with, call, qualified, macro, Terms, no_terms, term_and, Pairs, no_pairs, pair_and}
use Rattle.cel_syntax_ast.specs.declared.expr.MacroKind.{MacroKind}
use Rattle.cel_syntax_ast.specs.declared.expr.MacroKind.TheVariants.{All, Exists, ExistsOne, Map, Filter}
use Rattle.cel_demand.specs.Part.{Part, nothing, whole, each_item, some_members, Members, no_members, member, with_member, both, all_members, part_at, without, in_items}

-- the part of an item that is read because a macro puts
-- it into its result, if this part of the result is read
abbrev pub kept_part : MacroKind → Part → Part
kept_part All p = nothing
kept_part Exists p = nothing
kept_part ExistsOne p = nothing
kept_part Map p = nothing
kept_part Filter p = in_items p

-- the part of the body's value that is read, if this part of the result is read
abbrev pub body_part : MacroKind → Part → Part
body_part All p = whole
body_part Exists p = whole
body_part ExistsOne p = whole
body_part Map p = in_items p
body_part Filter p = whole

-- The names so far, and the free names of a term, each with the part
-- that is read of its value, if part p of the term's value is read.
abbrev mutual
  pub reads : Term → Part → Members → Members
  reads (literal v) p names = names
  reads (ident x) p names = with_member x p (both p) names
  reads (select a x) p names = reads a (some_members (member x p no_members)) names
  reads (has a x) p names = reads a (some_members (member x nothing no_members)) names
  reads (index a b) p names = reads b whole (reads a whole names)
  reads (unary op a) p names = reads a whole names
  reads (binary op a b) p names = reads b whole (reads a whole names)
  reads (conditional a b c) p names = reads c p (reads b p (reads a whole names))
  reads (list_of ts) p names = all_reads ts names
  reads (map_with ps) p names = pair_reads ps names
  reads (call target name args) p names = all_reads args (all_reads target names)
  reads (qualified name args) p names = all_reads args names
  -- a macro reads of each item what filter and body read of its variable, and what it keeps
  reads (macro kind range x filter body) p names =
      let inside = reads body (body_part kind p) (all_reads filter no_members) in
      reads range (each_item (both (kept_part kind p) (part_at x inside)))
      (all_members (without x inside) names)

  -- what terms read that are read whole
  pub all_reads : Terms → Members → Members
  all_reads no_terms names = names
  all_reads (term_and t ts) names = all_reads ts (reads t whole names)

  -- what keys and values read that are read whole
  pub pair_reads : Pairs → Members → Members
  pair_reads no_pairs names = names
  pair_reads (pair_and k v ps) names = pair_reads ps (reads v whole (reads k whole names))

-- what a term reads if its value is read whole
abbrev pub reads_of : Term → Members
reads_of t = reads t whole no_members

-- The map of a query has its entries in the order of their names.
use Rattle.std.proofs.Common.{◌≡◌, ℕ, List, [], ◌∷◌, ◌++◌, Bool, true, false, cond, Option, Some, None, option_map, map, filter, Ordering, Less, Equal, Greater, refl, sym, ap, ◌∙◌, subst, String, Global, Vec, BTreeMap}
use Rattle.std.specs.BTreeMap.{insert_entry, is_at, get_by_text}
use Rattle.std.specs.Cmp.Lexicographic.{slice_cmp}
use Rattle.std.specs.List.{AllByRecursion, list_any}
use Rattle.std.specs.List.Sorted.{IsStrictlySortedBy}
use Rattle.std.specs.Map.{keys_of, lookup}
use Rattle.std.specs.Ordering.{nat_cmp, match_ordering, ordering_reverse, is_eq}
use Rattle.std.specs.Prelude.{◌||◌}
use Rattle.std.specs.Str.{bytes_eq}
use Rattle.std.specs.String.{string_bytes, string_cmp}
use Rattle.std.proofs.lemmas.Cmp.{nat_list_cmp_total}
use Rattle.std.proofs.lemmas.Map.Keys.{sorted_head, sorted_tail}
use Rattle.std.proofs.lemmas.Map.Lookups.{exact_bytes}
use Rattle.std.proofs.lemmas.Map.Text.{is_eq-slice_cmp}
use Rattle.std.proofs.lemmas.Slice.Eq.{bytes_eq-Decides}
use Rattle.kube_types.specs.Url.Query.{values_of, values_or_none}
use Rattle.kube_types.specs.Url.Shown.{texts}
use Rattle.cel_value.specs.Data.{Entries, no_entries, entry, text_key}
use Rattle.cel_value.specs.Keys.{put}
use Rattle.kube_functions_types.specs.Lists.{text_list}
use Rattle.kube_functions_types.specs.Url.{entries_among}
use Rattle.kube_functions_types.proofs.Sorted.{inserted_sorted, inserted_found, same_found, nil_sorted, cons_sorted}

-- a name with its values, as data and as the program holds them
abbrev pub Named : Type 0
Named = List ℕ × List (List ℕ)

abbrev pub Held : Type 0
Held = String Global × Vec (String Global) Global

abbrev pub names_cmp : List ℕ → List ℕ → Ordering
names_cmp = slice_cmp nat_cmp

abbrev pub named : Held → Named
named e = (string_bytes e.0, texts e.1)

abbrev pub named_all : List Held → List Named
named_all es = map named es

-- converted to entries of a map
abbrev pub entries_of : List Named → Entries
entries_of [] = no_entries
entries_of (e ∷ es) = entry (text_key e.0) (text_list e.1) (entries_of es)

entries_of-match_ordering : (o : Ordering) (a b c : List Named) → entries_of (match_ordering o a b c) ≡ match_ordering o (entries_of a) (entries_of b) (entries_of c)
entries_of-match_ordering Less a b c = refl
entries_of-match_ordering Equal a b c = refl
entries_of-match_ordering Greater a b c = refl

entries_of-insert_entry : (es : List Named) (k : List ℕ) (v : List (List ℕ)) → entries_of (insert_entry names_cmp es k v) ≡ put (text_key k) (text_list v) (entries_of es)
entries_of-insert_entry [] k v = refl
entries_of-insert_entry (e ∷ es) k v = entries_of-match_ordering (names_cmp k e.0) _ _ _ ∙ rw (entries_of-insert_entry es k v)

-- each name among some pairs with all its values, in the order of the names
abbrev among : List (List ℕ × List ℕ) → List (List ℕ × List ℕ) → List Named
among pairs [] = []
among pairs (p ∷ ps) = insert_entry names_cmp (among pairs ps) p.0 (values_or_none (values_of pairs p.0))

entries_of-among : (pairs ps : List (List ℕ × List ℕ)) → entries_of (among pairs ps) ≡ entries_among pairs ps
entries_of-among pairs [] = refl
entries_of-among pairs (p ∷ ps) =
    entries_of-insert_entry (among pairs ps) p.0 (values_or_none (values_of pairs p.0))
    ∙ ap (put (text_key p.0) (text_list (values_or_none (values_of pairs p.0)))) (entries_of-among pairs ps)

among_sorted : (pairs ps : List (List ℕ × List ℕ)) → IsStrictlySortedBy names_cmp (keys_of (among pairs ps))
among_sorted pairs [] = nil_sorted names_cmp
among_sorted pairs (p ∷ ps) = inserted_sorted nat_list_cmp_total (among pairs ps) p.0 (values_or_none (values_of pairs p.0)) (among_sorted pairs ps)

either : (a b : Bool) (q k : List ℕ) (f : List ℕ → List (List ℕ)) → (a ≡ true → q ≡ k) → cond a (Some (f k)) (cond b (Some (f q)) None) ≡ cond (a || b) (Some (f q)) None
either true b q k f h = ap (λ l. Some (f l)) (sym (h refl))
either false b q k f h = refl

among_found : (pairs ps : List (List ℕ × List ℕ)) (q : List ℕ)
    → lookup (is_at (names_cmp q)) (among pairs ps) ≡ cond (list_any (λ p. bytes_eq q p.0) ps) (Some (values_or_none (values_of pairs q))) None
among_found pairs [] q = refl
among_found pairs (p ∷ ps) q =
    inserted_found nat_list_cmp_total exact_bytes q (among pairs ps) p.0 (values_or_none (values_of pairs p.0))
    ∙ (λ i. cond (is_eq-slice_cmp q p.0 i) (Some (values_or_none (values_of pairs p.0))) (among_found pairs ps q i))
    ∙ either (bytes_eq q p.0) (list_any (λ p. bytes_eq q p.0) ps) q p.0 (λ n. values_or_none (values_of pairs n)) (bytes_eq-Decides q p.0).0

there : (t : Bool) (v : List (List ℕ)) (o : Option (List (List ℕ))) → o ≡ cond t (Some v) None → cond t (Some (values_or_none o)) None ≡ o
there true v o h = rw h
there false v o h = sym h

values_found : (pairs : List (List ℕ × List ℕ)) (q : List ℕ) → cond (list_any (λ p. bytes_eq q p.0) pairs) (Some (values_or_none (values_of pairs q))) None ≡ values_of pairs q
unfolding values_of
values_found pairs q = there (list_any (λ p. bytes_eq q p.0) pairs) (map (λ p. p.1) (filter (λ p. bytes_eq q p.0) pairs)) (values_of pairs q) refl

found : (t : Bool) (v : Vec (String Global) Global) (o : Option (Vec (String Global) Global)) (p : Option (List (List ℕ))) → p ≡ option_map texts o → cond t (Some (texts v)) p ≡ option_map texts (cond t (Some v) o)
found true v o p h = refl
found false v o p h = h

held_found : (q : List ℕ) (es : List Held) → lookup (is_at (names_cmp q)) (named_all es) ≡ option_map texts (lookup (is_at (λ k. names_cmp q (string_bytes k))) es)
held_found q [] = refl
held_found q (e ∷ es) = found (is_eq (names_cmp q (string_bytes e.0))) e.1 _ _ (held_found q es)

all_named : (k : String Global) (es : List Held) → AllByRecursion (λ y. string_cmp k y ≡ Less) (keys_of es) → AllByRecursion (λ y. names_cmp (string_bytes k) y ≡ Less) (keys_of (named_all es))
all_named k [] h = tt
all_named k (e ∷ es) h = (h.0, all_named k es h.1)

held_sorted : (es : List Held) → IsStrictlySortedBy string_cmp (keys_of es) → IsStrictlySortedBy names_cmp (keys_of (named_all es))
held_sorted [] s = nil_sorted names_cmp
held_sorted (e ∷ es) s =
    cons_sorted names_cmp (string_bytes e.0) (keys_of (named_all es)) (all_named e.0 es (sorted_head string_cmp e.0 (keys_of es) s)) (held_sorted es (sorted_tail string_cmp e.0 (keys_of es) s))

-- a map with the values of each name has the entries of the query
pub whole_query : (query : BTreeMap (String Global) (Vec (String Global) Global)) (pairs : List (List ℕ × List ℕ)) → IsStrictlySortedBy string_cmp (keys_of query.entries)
    → ((name : List ℕ) → option_map texts (get_by_text query name) ≡ values_of pairs name) → entries_of (named_all query.entries) ≡ entries_among pairs pairs
whole_query query pairs sorted h =
    ap entries_of (same_found nat_list_cmp_total exact_bytes (named_all query.entries) (among pairs pairs) (held_sorted query.entries sorted) (among_sorted pairs pairs)
    (λ q. held_found q query.entries ∙ h q ∙ sym (among_found pairs pairs q ∙ values_found pairs q)))
    ∙ entries_of-among pairs pairs

below_all : (k : List ℕ) (done : List Held) (e : Held) (rest : List Held) → AllByRecursion (λ l. names_cmp k l ≡ Less) (keys_of (named_all (done ++ e ∷ rest))) → names_cmp k (string_bytes e.0) ≡ Less
below_all k [] e rest h = h.0
below_all k (f ∷ done) e rest h = below_all k done e rest h.1

above : (k l : List ℕ) → names_cmp k l ≡ Less → names_cmp l k ≡ Greater
above k l h = nat_list_cmp_total.antisymm l k ∙ ap ordering_reverse h

-- an entry whose name is above all others goes to the end
put_last : (done : List Held) (e : Held) (rest : List Held) → IsStrictlySortedBy names_cmp (keys_of (named_all (done ++ e ∷ rest)))
    → put (text_key (string_bytes e.0)) (text_list (texts e.1)) (entries_of (named_all done)) ≡ entries_of (named_all (done ++ e ∷ []))
put_last [] e rest sorted = refl
put_last (f ∷ done) e rest sorted =
    rw (above (string_bytes f.0) (string_bytes e.0) (below_all (string_bytes f.0) done e rest (sorted_head names_cmp (string_bytes f.0) (keys_of (named_all (done ++ e ∷ rest))) sorted)))
    (ap (entry (text_key (string_bytes f.0)) (text_list (texts f.1))) (put_last done e rest (sorted_tail names_cmp (string_bytes f.0) (keys_of (named_all (done ++ e ∷ rest))) sorted)))

-- one more entry is added to the map
pub one_more : (whole done : List Held) (e : Held) (rest : List Held) (old new : Entries) → IsStrictlySortedBy string_cmp (keys_of whole) → whole ≡ done ++ e ∷ rest
    → old ≡ entries_of (named_all done) → new ≡ put (text_key (string_bytes e.0)) (text_list (texts e.1)) old → new ≡ entries_of (named_all (done ++ e ∷ []))
one_more whole done e rest old new sorted is before written =
    written ∙ ap (put (text_key (string_bytes e.0)) (text_list (texts e.1))) before
    ∙ put_last done e rest (held_sorted (done ++ e ∷ rest) (subst (λ es. IsStrictlySortedBy string_cmp (keys_of es)) is sorted))

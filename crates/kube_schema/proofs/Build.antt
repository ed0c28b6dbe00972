-- How a table grows, node by node.
use Rattle.std.proofs.Common.{◌≡◌, ℕ, suc, ◌+◌, ◌<◌, ◌≤◌, List, [], ◌∷◌, ◌++◌, length, map, take, get_or, false, Option, Some, None, Err, option_map, slice_get, string_bytes, refl, sym, ap, ◌∙◌, subst, arith, length-set}
use Rattle.std.proofs.Math.ListN.{set}
use Rattle.std.proofs.lemmas.List.{take_more}
use Rattle.serde_json.specs.Data.{Data}
use Rattle.serde_json.specs.View.{view, items_view, members_view}
use Rattle.serde_json.specs.declared.value.Value.{Value}
use Rattle.serde_json.proofs.Views.{Entry}
use Rattle.std.specs.Prelude.{codes}
use Rattle.std.proofs.Common.{String, Global, string_cmp, nat_cmp, Less}
use Rattle.std.specs.Cmp.Lexicographic.{slice_cmp}
use Rattle.std.specs.List.{AllByRecursion}
use Rattle.std.specs.List.Sorted.{IsStrictlySortedBy}
use Rattle.std.specs.Map.{keys_of}
use Rattle.kube_schema.specs.declared.nodes.NodeId.{NodeId}
use Rattle.kube_schema.specs.declared.nodes.PropertyLink.{PropertyLink}
use Rattle.kube_schema.specs.declared.nodes.Keywords.{Keywords}
use Rattle.kube_schema.specs.declared.nodes.Children.{Children}
use Rattle.kube_schema.specs.declared.nodes.TableNode.{TableNode}
use Rattle.kube_schema_values.specs.Node.{format_of, is_map, is_embedded}
use Rattle.kube_schema_values.specs.DefaultsAccessors.{declared_properties, members_or_none, preserves, default_in}
use Rattle.kube_schema_rules.specs.declared.node_rules.NodeRules.{NodeRules}
use Rattle.kube_schema_values.specs.declared.format.SchemaFormat.TheVariants as format
use Rattle.kube_schema_rules.specs.Compilation.{compiled_rules, compiled_seen, past_depth}
use Rattle.kube_schema_rules.specs.Rules.{rule_items}
use Rattle.kube_schema.specs.Tree.{Own, Node, node, Maybe, Named, no_named, named, Nodes, no_nodes, more, names, count, named_count, nodes_count}
use Rattle.kube_schema.specs.Source.{marker_with, own_with}
use Rattle.kube_schema.specs.View.{view_of, named_view, nodes_view, branch_view, branches, items_or_none, limit, own_view, marker_view, children_view}
use Rattle.kube_schema.specs.Raw.{keywords_view, named_at, nodes_at, with_children, assemble, childless, tree, LinksWithin, NumbersWithin, IsWithin, Closed, Later, Appends, Adds, AddsProperties, AddsNamed, link_names, LinksOrdered, AddsMaybe, AddsNodes, AddsChildren}
use Rattle.kube_schema.proofs.Trees.{named_same, maybe_same, nodes_same, node_same, children_same, links_wider, maybe_wider, numbers_wider, within_wider, later_self, later_trans, later_set, kept_by_set, set_here, tree_later, opens}

-- ---- a list of children, extended by one

abbrev named_and : Named → List ℕ → Node → Named
named_and no_named k n = named k n no_named
named_and (named l m ns) k n = named l m (named_and ns k n)

named_at-append : (f : ℕ → Node) (ls : List PropertyLink) (l : PropertyLink) → named_at f (ls ++ l ∷ []) ≡ named_and (named_at f ls) (string_bytes l.name) (f l.node.0)
named_at-append f [] l = refl
named_at-append f (m ∷ ls) l = ap (named (string_bytes m.name) (f m.node.0)) (named_at-append f ls l)

named_view-append : (f : Data → Node) (es : List Entry) (e : Entry) → named_view f (members_view (es ++ e ∷ [])) ≡ named_and (named_view f (members_view es)) (string_bytes e.0) (f (view e.1))
named_view-append f [] e = refl
named_view-append f (d ∷ es) e = ap (named (string_bytes d.0) (f (view d.1))) (named_view-append f es e)

abbrev nodes_and : Nodes → Node → Nodes
nodes_and no_nodes n = more n no_nodes
nodes_and (more m ns) n = more m (nodes_and ns n)

nodes_at-append : (f : ℕ → Node) (ns : List NodeId) (n : NodeId) → nodes_at f (ns ++ n ∷ []) ≡ nodes_and (nodes_at f ns) (f n.0)
nodes_at-append f [] n = refl
nodes_at-append f (m ∷ ns) n = ap (more (f m.0)) (nodes_at-append f ns n)

nodes_view-append : (f : Data → Node) (vs : List Value) (v : Value) → nodes_view f (items_view (vs ++ v ∷ [])) ≡ nodes_and (nodes_view f (items_view vs)) (f (view v))
nodes_view-append f [] v = refl
nodes_view-append f (w ∷ vs) v = ap (more (f (view w))) (nodes_view-append f vs v)

named_and-count : (ns : Named) (k : List ℕ) (n : Node) → named_count (named_and ns k n) ≡ named_count ns + count n
named_and-count no_named k n = omega arith
named_and-count (named l m ns) k n = let e = named_and-count ns k n in omega arith

nodes_and-count : (ns : Nodes) (n : Node) → nodes_count (nodes_and ns n) ≡ nodes_count ns + count n
nodes_and-count no_nodes n = omega arith
nodes_and-count (more m ns) n = let e = nodes_and-count ns n in omega arith

links_and : (low high : ℕ) (ls : List PropertyLink) (l : PropertyLink) → LinksWithin low high ls → low ≤ l.node.0 → l.node.0 < high → LinksWithin low high (ls ++ l ∷ [])
links_and low high [] l h a b = (a, b, tt)
links_and low high (m ∷ ls) l h a b = (h.0, h.1, links_and low high ls l h.2 a b)

numbers_and : (low high : ℕ) (ns : List NodeId) (n : NodeId) → NumbersWithin low high ns → low ≤ n.0 → n.0 < high → NumbersWithin low high (ns ++ n ∷ [])
numbers_and low high [] n h a b = (a, b, tt)
numbers_and low high (m ∷ ns) n h a b = (h.0, h.1, numbers_and low high ns n h.2 a b)

module _ {K : Type 0} {own_of : K → Own} where
  pub adds_link : (t u v : List (TableNode K)) (ls ls2 : List PropertyLink) (l : PropertyLink) (f : Data → Node) (es : List Entry) (e : Entry) → Closed u
      → AddsNamed own_of t u ls (named_view f (members_view es)) → Adds own_of u v l.node (f (view e.1)) → string_bytes l.name ≡ string_bytes e.0 → ls2 ≡ ls ++ l ∷ [] → AddsNamed own_of t v ls2 (named_view f (members_view (es ++ e ∷ [])))
  adds_link t u v ls ls2 l f es e closed old new named_so e2 = subst (λ ls. AddsNamed own_of t v ls (named_view f (members_view (es ++ e ∷ [])))) (sym e2) (record {
    within = links_and (length t) (length v) ls l (links_wider (length t) (length t) (length u) (length v) ls (omega arith) (let a = new.grows.longer in omega arith) old.within) (let a = old.grows.longer in let b = new.first in omega arith) new.within;
    grows = later_trans 0 t u v old.grows new.grows;
    shows =
        named_at-append (tree own_of v) ls l
        ∙ ap (λ ns. named_and ns (string_bytes l.name) (tree own_of v l.node.0)) (sym (named_same (tree own_of u) (tree own_of v) (length t) (length u) ls old.within (λ c a b. tree_later own_of u v 0 c closed new.grows (omega arith) b)) ∙ old.shows)
        ∙ ap (λ k. named_and (named_view f (members_view es)) k (tree own_of v l.node.0)) named_so
        ∙ ap (named_and (named_view f (members_view es)) (string_bytes e.0)) new.shows
        ∙ sym (named_view-append f es e);
    counted = let a = old.counted in let b = new.counted in let c = named_and-count (named_view f (members_view es)) (string_bytes e.0) (f (view e.1)) in let d = ap named_count (named_view-append f es e) in omega arith;
  })

  pub adds_number : (t u v : List (TableNode K)) (ns ns2 : List NodeId) (n : NodeId) (f : Data → Node) (vs : List Value) (i : ℕ) (w : Value) → Closed u
      → AddsNodes own_of t u ns (nodes_view f (items_view (take i vs))) → Adds own_of u v n (f (view w)) → i < length vs → w ≡ get_or vs i w → ns2 ≡ ns ++ n ∷ [] → AddsNodes own_of t v ns2 (nodes_view f (items_view (take (i + 1) vs)))
  adds_number t u v ns ns2 n f vs i w closed old new within read e2 = subst (λ ns. AddsNodes own_of t v ns (nodes_view f (items_view (take (i + 1) vs)))) (sym e2) (record {
    within = numbers_and (length t) (length v) ns n (numbers_wider (length t) (length t) (length u) (length v) ns (omega arith) (let a = new.grows.longer in omega arith) old.within) (let a = old.grows.longer in let b = new.first in omega arith) new.within;
    grows = later_trans 0 t u v old.grows new.grows;
    shows =
        nodes_at-append (tree own_of v) ns n
        ∙ ap (λ ns. nodes_and ns (tree own_of v n.0)) (sym (nodes_same (tree own_of u) (tree own_of v) (length t) (length u) ns old.within (λ c a b. tree_later own_of u v 0 c closed new.grows (omega arith) b)) ∙ old.shows)
        ∙ ap (nodes_and (nodes_view f (items_view (take i vs)))) new.shows
        ∙ sym (ap (λ vs. nodes_view f (items_view vs)) (take_more vs i w within ∙ ap (λ x. take i vs ++ x ∷ []) (sym read)) ∙ nodes_view-append f (take i vs) w);
    counted = let a = old.counted in let b = new.counted in let c = nodes_and-count (nodes_view f (items_view (take i vs))) (f (view w)) in let d = ap (λ vs. nodes_count (nodes_view f (items_view vs))) (take_more vs i w within ∙ ap (λ x. take i vs ++ x ∷ []) (sym read)) ∙ ap nodes_count (nodes_view-append f (take i vs) w) in omega arith;
  })

  -- ---- the children of a node, one kind after the other

  pub joined : (t1 t2 t3 t4 t5 t6 t7 : List (TableNode K)) (c : Children) (shown : Own → Node) {ps : Named} {it ad : Maybe} {xs ys zs : Nodes}
      → AddsProperties own_of t1 t2 c.properties.items ps → AddsMaybe own_of t2 t3 c.items it → AddsMaybe own_of t3 t4 c.additional ad → AddsNodes own_of t4 t5 c.all_of.items xs → AddsNodes own_of t5 t6 c.one_of.items ys → AddsNodes own_of t6 t7 c.any_of.items zs
      → Closed t2 → Closed t3 → Closed t4 → Closed t5 → Closed t6 → ((o : Own) → node o ps it ad xs ys zs ≡ shown o) → AddsChildren own_of t1 t7 c shown
  unfolding with_children
  joined t1 t2 t3 t4 t5 t6 t7 c shown {ps} {it} {ad} {xs} {ys} {zs} p a b d e f k2 k3 k4 k5 k6 same =
      let l2 = p.adds.grows.longer in let l3 = a.grows.longer in let l4 = b.grows.longer in let l5 = d.grows.longer in let l6 = e.grows.longer in let l7 = f.grows.longer in
      let g67 = f.grows in
      let g57 = later_trans 0 t5 t6 t7 e.grows g67 in
      let g47 = later_trans 0 t4 t5 t7 d.grows g57 in
      let g37 = later_trans 0 t3 t4 t7 b.grows g47 in
      let g27 = later_trans 0 t2 t3 t7 a.grows g37 in record {
        within = (
          links_wider (length t1) (length t1) (length t2) (length t7) c.properties.items (omega arith) (omega arith) p.adds.within,
          maybe_wider (length t2) (length t1) (length t3) (length t7) c.items (omega arith) (omega arith) a.within,
          maybe_wider (length t3) (length t1) (length t4) (length t7) c.additional (omega arith) (omega arith) b.within,
          numbers_wider (length t4) (length t1) (length t5) (length t7) c.all_of.items (omega arith) (omega arith) d.within,
          numbers_wider (length t5) (length t1) (length t6) (length t7) c.one_of.items (omega arith) (omega arith) e.within,
          numbers_wider (length t6) (length t1) (length t7) (length t7) c.any_of.items (omega arith) (omega arith) f.within,
        );
        ordered = p.ordered;
        grows = later_trans 0 t1 t2 t7 p.adds.grows g27;
        shows = λ o. node_same refl
            (sym (named_same (tree own_of t2) (tree own_of t7) (length t1) (length t2) c.properties.items p.adds.within (λ i x y. tree_later own_of t2 t7 0 i k2 g27 (omega arith) y)) ∙ p.adds.shows)
            (sym (maybe_same (tree own_of t3) (tree own_of t7) (length t2) (length t3) c.items a.within (λ i x y. tree_later own_of t3 t7 0 i k3 g37 (omega arith) y)) ∙ a.shows)
            (sym (maybe_same (tree own_of t4) (tree own_of t7) (length t3) (length t4) c.additional b.within (λ i x y. tree_later own_of t4 t7 0 i k4 g47 (omega arith) y)) ∙ b.shows)
            (sym (nodes_same (tree own_of t5) (tree own_of t7) (length t4) (length t5) c.all_of.items d.within (λ i x y. tree_later own_of t5 t7 0 i k5 g57 (omega arith) y)) ∙ d.shows)
            (sym (nodes_same (tree own_of t6) (tree own_of t7) (length t5) (length t6) c.one_of.items e.within (λ i x y. tree_later own_of t6 t7 0 i k6 g67 (omega arith) y)) ∙ e.shows)
            f.shows ∙ same o;
        counted = λ o. let x2 = p.adds.counted in let x3 = a.counted in let x4 = b.counted in let x5 = d.counted in let x6 = e.counted in let x7 = f.counted in let x = ap count (same o) in omega arith;
      }

  -- ---- one node, stored after its children were added

  -- the children's numbers are within bounds in the last table
  pub node_within : (t0 t1 t7 : List (TableNode K)) (n : NodeId) (k : K) (c : Children) (shown : Own → Node) → Appends own_of t0 t1 n k → AddsChildren own_of t1 t7 c shown → IsWithin (suc n.0) (length t7) c
  node_within t0 t1 t7 n k c shown p a = let l = p.last in let w = p.within in within_wider (length t1) (suc n.0) (length t7) (length t7) c (omega arith) (omega arith) a.within

  pub stands : (t0 t1 t7 : List (TableNode K)) (n : NodeId) (k : K) (c : Children) (shown : Own → Node) → Appends own_of t0 t1 n k → AddsChildren own_of t1 t7 c shown → n.0 < length t7
  stands t0 t1 t7 n k c shown p a = let l = p.last in let w = p.within in let g = a.grows.longer in omega arith

  pub built : (t0 t1 t7 t8 : List (TableNode K)) (n : NodeId) (k : K) (r : TableNode K) (shown : Own → Node) → Appends own_of t0 t1 n k → AddsChildren own_of t1 t7 r.children shown → Closed t7 → Closed t8 → t8 ≡ set t7 n.0 r
      → Adds own_of t0 t8 n (shown (own_of r.keywords))
  unfolding assemble
  built t0 t1 t7 t8 n k r shown p a k7 k8 e =
      let o = own_of r.keywords in
      let low = suc n.0 in
      let l = p.last in let w = p.within in let long = a.grows.longer in
      let g78 : Later low t7 t8 = subst (Later low t7) (sym e) (later_set t7 n.0 r) in
      let g07 = later_trans 0 t0 t1 t7 p.grows a.grows in
      let stands : n.0 < length t7 = omega arith in
      let same_length : length t8 ≡ length t7 = ap length e ∙ length-set t7 n.0 r in
      let here : slice_get t8 n.0 ≡ Some r = ap (λ t. slice_get t n.0) e ∙ set_here t7 n.0 r stands in record {
        first = p.last;
        counted = let x = a.counted o in omega arith;
        within = omega arith;
        grows = subst (Later 0 t0) (sym e) (kept_by_set t0 t7 n.0 r g07 (omega arith));
        shows = opens own_of t8 n.0 r k8 here ∙ sym (children_same (tree own_of t7) (tree own_of t8) (length t1) (length t7) r.children o a.within (λ i x y. tree_later own_of t7 t8 low i k7 g78 (omega arith) y)) ∙ a.shows o;
      }

-- ---- the tree, by the schema

pub own_same : (k : Keywords) (s : Data) (d : Option Data) → map compiled_seen k.validations.rules.items ≡ compiled_rules (rule_items s) → k.format ≡ format_of s → k.is_map ≡ is_map s → k.preserve_unknown_fields ≡ preserves s → k.embedded_resource ≡ is_embedded s
    → k.max_length ≡ limit (codes "maxLength") s → k.max_items ≡ limit (codes "maxItems") s → k.max_properties ≡ limit (codes "maxProperties") s → option_map view k.default ≡ d → keywords_view k ≡ own_with s d
unfolding keywords_view own_view
own_same k s d a b c p e f g h i = rw (a, b, c, p, e, f, g, h, i) refl

-- the keywords of a marker
pub marker_same : (vs : NodeRules) (o : Option Value) (d : Option Data) → map compiled_seen vs.rules.items ≡ Err (past_depth 65) ∷ [] → option_map view o ≡ d
    → keywords_view (record { validations = vs; format = format.None; is_map = false; preserve_unknown_fields = false; embedded_resource = false; max_length = None; max_items = None; max_properties = None; default = o }) ≡ marker_with d
unfolding keywords_view marker_view
marker_same vs o d a b = rw (a, b) refl

pub view_opens : (levels less : ℕ) (s : Data) → levels ≡ suc less → children_view (view_of less) s (own_view s) ≡ view_of levels s
unfolding view_of
view_opens levels less s e = sym (ap (λ n. view_of n s) e)

module _ {K : Type 0} {own_of : K → Own} where
  pub marked : (t u : List (TableNode K)) (n : NodeId) (k : K) (levels : ℕ) (s : Data) → Appends own_of t u n k → own_of k ≡ marker_view s → levels ≡ 0 → Adds own_of t u n (view_of levels s)
  unfolding view_of
  marked t u n k levels s p e z = subst (λ k. Adds own_of t u n (view_of k s)) (sym z) (record {
    first = p.last;
    counted = let a = p.within in omega arith;
    within = let a = p.last in let b = p.within in omega arith;
    grows = p.grows;
    shows = p.shows ∙ ap childless e;
  })

  pub no_branches : (t : List (TableNode K)) (f : Data → Node) (k : List ℕ) (s : Data) (ns : List NodeId) → ns ≡ [] → None ≡ branches k s → AddsNodes own_of t t ns (branch_view f k s)
  no_branches t f k s ns e none = subst (λ ns. AddsNodes own_of t t ns (branch_view f k s)) (sym e) (record {
    within = tt;
    grows = later_self 0 t;
    shows = ap (λ o. nodes_view f (items_or_none o)) none;
    counted = let e = ap (λ o. nodes_count (nodes_view f (items_or_none o))) none in omega arith;
  })

-- ---- the order of names

above_names : (k : List ℕ) (f : Data → Node) (es : List Entry) (a : String Global) → string_bytes a ≡ k → AllByRecursion (λ y. string_cmp a y ≡ Less) (keys_of es) → AllByRecursion (λ y. slice_cmp nat_cmp k y ≡ Less) (names (named_view f (members_view es)))
above_names k f [] a e h = tt
above_names k f (x ∷ es) a e h = (subst (λ k. slice_cmp nat_cmp k (string_bytes x.0) ≡ Less) e h.0, above_names k f es a e h.1)

names_in_order : (f : Data → Node) (es : List Entry) → IsStrictlySortedBy string_cmp (keys_of es) → IsStrictlySortedBy (slice_cmp nat_cmp) (names (named_view f (members_view es)))
unfolding IsStrictlySortedBy
names_in_order f [] h = tt
names_in_order f (e ∷ es) h = (above_names (string_bytes e.0) f es e.0 refl h.0, names_in_order f es h.1)

pub names_of_links : (f : ℕ → Node) (ls : List PropertyLink) → names (named_at f ls) ≡ link_names ls
names_of_links f [] = refl
names_of_links f (l ∷ ls) = ap (λ ks. string_bytes l.name ∷ ks) (names_of_links f ls)

module _ {K : Type 0} (own_of : K → Own) where
  pub links_in_order : (t : List (TableNode K)) (ls : List PropertyLink) (f : Data → Node) (es : List Entry) → named_at (tree own_of t) ls ≡ named_view f (members_view es) → IsStrictlySortedBy string_cmp (keys_of es) → LinksOrdered ls
  links_in_order t ls f es e h = subst (IsStrictlySortedBy (slice_cmp nat_cmp)) (sym (ap names e) ∙ names_of_links (tree own_of t) ls) (names_in_order f es h)

  pub no_properties : (t : List (TableNode K)) (f : Data → Node) (s : Data) (ls : List PropertyLink) → ls ≡ [] → None ≡ declared_properties s → AddsProperties own_of t t ls (named_view f (members_or_none (declared_properties s)))
  unfolding IsStrictlySortedBy
  no_properties t f s ls e none = subst (λ ls. AddsProperties own_of t t ls (named_view f (members_or_none (declared_properties s)))) (sym e) (record {
    adds = record { within = tt; grows = later_self 0 t; shows = ap (λ o. named_view f (members_or_none o)) none; counted = let e = ap (λ o. named_count (named_view f (members_or_none o))) none in omega arith };
    ordered = tt;
  })

-- Trees of a table: how to unfold one, and what stays the same when the table grows.
use Rattle.std.proofs.Common.{◌≡◌, ◌⊎◌, inl, inr, ℕ, zero, suc, ◌+◌, ◌<◌, ◌≤◌, List, [], ◌∷◌, ◌++◌, length, Bool, true, false, if◌then◌else◌, Option, Some, None, option_map, slice_get, get_or, nat_cmp, Ordering, Less, Equal, Greater, is_eq, string_bytes, refl, sym, ap, ◌∙◌, subst, arith, length-set, length-append}
use Rattle.std.proofs.Math.ListN.{set}
use Rattle.std.proofs.lemmas.Cmp.{nat_list_cmp_total, tied_itself}
use Rattle.std.proofs.lemmas.Map.Text.{is_eq-slice_cmp}
use Rattle.std.proofs.lemmas.Slice.Eq.{bytes_eq-Decides}
use Rattle.std.specs.Cmp.Lexicographic.{slice_cmp}
use Rattle.std.specs.Ordering.{match_ordering, ordering_reverse}
use Rattle.std.specs.List.{AllByRecursion}
use Rattle.std.specs.List.Sorted.{IsStrictlySortedBy}
use Rattle.std.proofs.lemmas.Option.{slice_get_within, slice_get-get_or}
use Rattle.kube_schema.specs.declared.nodes.NodeId.{NodeId}
use Rattle.kube_schema.specs.declared.nodes.PropertyLink.{PropertyLink}
use Rattle.kube_schema.specs.declared.nodes.Children.{Children}
use Rattle.kube_schema.specs.declared.nodes.TableNode.{TableNode}
use Rattle.kube_schema.specs.Tree.{Own, Node, node, Maybe, just, Named, named, Nodes, more, own, as_option, items_of, additional_of, default_of, nth_node, nodes_length, all_of, one_of, any_of, nth_named, named_of, names, find}
use Rattle.kube_schema.specs.Raw.{named_at, maybe_at, nodes_at, with_children, assemble, assemble_some, childless, tree_in, tree, LinksWithin, MaybeWithin, NumbersWithin, IsWithin, Closed, Later, Appends, link_names, LinksOrdered, AllOrdered}

-- ---- one node under two readings of the numbers

pub named_same : (f g : ℕ → Node) (low high : ℕ) (ls : List PropertyLink) → LinksWithin low high ls → ((c : ℕ) → low ≤ c → c < high → f c ≡ g c) → named_at f ls ≡ named_at g ls
named_same f g low high [] h same = refl
named_same f g low high (l ∷ ls) h same =
    ap (λ n. named (string_bytes l.name) n (named_at f ls)) (same l.node.0 h.0 h.1) ∙ ap (named (string_bytes l.name) (g l.node.0)) (named_same f g low high ls h.2 same)

pub maybe_same : (f g : ℕ → Node) (low high : ℕ) (o : Option NodeId) → MaybeWithin low high o → ((c : ℕ) → low ≤ c → c < high → f c ≡ g c) → maybe_at f o ≡ maybe_at g o
maybe_same f g low high None h same = refl
maybe_same f g low high (Some n) h same = ap just (same n.0 h.0 h.1)

pub nodes_same : (f g : ℕ → Node) (low high : ℕ) (ns : List NodeId) → NumbersWithin low high ns → ((c : ℕ) → low ≤ c → c < high → f c ≡ g c) → nodes_at f ns ≡ nodes_at g ns
nodes_same f g low high [] h same = refl
nodes_same f g low high (n ∷ ns) h same = ap (λ m. more m (nodes_at f ns)) (same n.0 h.0 h.1) ∙ ap (more (g n.0)) (nodes_same f g low high ns h.2 same)

pub node_same : {o o2 : Own} {a a2 : Named} {b b2 c c2 : Maybe} {d d2 e e2 f f2 : Nodes} → o ≡ o2 → a ≡ a2 → b ≡ b2 → c ≡ c2 → d ≡ d2 → e ≡ e2 → f ≡ f2 → node o a b c d e f ≡ node o2 a2 b2 c2 d2 e2 f2
node_same p q r s t u v = cc

pub children_same : (f g : ℕ → Node) (low high : ℕ) (c : Children) (o : Own) → IsWithin low high c → ((i : ℕ) → low ≤ i → i < high → f i ≡ g i) → with_children f c o ≡ with_children g c o
unfolding with_children
children_same f g low high c o h same =
    node_same refl (named_same f g low high c.properties.items h.0 same) (maybe_same f g low high c.items h.1 same) (maybe_same f g low high c.additional h.2 same)
    (nodes_same f g low high c.all_of.items h.3 same) (nodes_same f g low high c.one_of.items h.4 same) (nodes_same f g low high c.any_of.items h.5 same)

module _ {K : Type 0} (own_of : K → Own) where
  pub assemble_same : (f g : ℕ → Node) (low high : ℕ) (r : TableNode K) → IsWithin low high r.children → ((i : ℕ) → low ≤ i → i < high → f i ≡ g i) → assemble own_of f r ≡ assemble own_of g r
  unfolding assemble
  assemble_same f g low high r h same = children_same f g low high r.children (own_of r.keywords) h same

-- ---- wider bounds

pub links_wider : (low low2 high high2 : ℕ) (ls : List PropertyLink) → low2 ≤ low → high ≤ high2 → LinksWithin low high ls → LinksWithin low2 high2 ls
links_wider low low2 high high2 [] p q h = tt
links_wider low low2 high high2 (l ∷ ls) p q h = (omega arith, omega arith, links_wider low low2 high high2 ls p q h.2)

pub maybe_wider : (low low2 high high2 : ℕ) (o : Option NodeId) → low2 ≤ low → high ≤ high2 → MaybeWithin low high o → MaybeWithin low2 high2 o
maybe_wider low low2 high high2 None p q h = tt
maybe_wider low low2 high high2 (Some n) p q h = (omega arith, omega arith)

pub numbers_wider : (low low2 high high2 : ℕ) (ns : List NodeId) → low2 ≤ low → high ≤ high2 → NumbersWithin low high ns → NumbersWithin low2 high2 ns
numbers_wider low low2 high high2 [] p q h = tt
numbers_wider low low2 high high2 (n ∷ ns) p q h = (omega arith, omega arith, numbers_wider low low2 high high2 ns p q h.2)

pub within_wider : (low low2 high high2 : ℕ) (c : Children) → low2 ≤ low → high ≤ high2 → IsWithin low high c → IsWithin low2 high2 c
within_wider low low2 high high2 c p q h = (
  links_wider low low2 high high2 c.properties.items p q h.0,
  maybe_wider low low2 high high2 c.items p q h.1,
  maybe_wider low low2 high high2 c.additional p q h.2,
  numbers_wider low low2 high high2 c.all_of.items p q h.3,
  numbers_wider low low2 high high2 c.one_of.items p q h.4,
  numbers_wider low low2 high high2 c.any_of.items p q h.5,
)

-- ---- growth

module _ {K : Type 0} where
  pub later_self : (low : ℕ) (t : List (TableNode K)) → Later low t t
  later_self low t = record { longer = omega arith; same = λ j a b. refl }

  pub later_trans : (low : ℕ) (t u v : List (TableNode K)) → Later low t u → Later low u v → Later low t v
  later_trans low t u v p q = record { longer = let a = p.longer in let b = q.longer in omega arith; same = λ j a b. q.same j a (let e = p.longer in omega arith) ∙ p.same j a b }

  pub later_from : (low : ℕ) (t u : List (TableNode K)) → Later 0 t u → Later low t u
  later_from low t u p = record { longer = p.longer; same = λ j a b. p.same j (omega arith) b }

  get_left : (t u : List (TableNode K)) (j : ℕ) → j < length t → slice_get (t ++ u) j ≡ slice_get t j
  get_left [] u j h = absurd (omega arith)
  get_left (x ∷ t) u zero h = refl
  get_left (x ∷ t) u (suc j) h = get_left t u j (omega arith)

  pub later_append : (t u : List (TableNode K)) → Later 0 t (t ++ u)
  later_append t u = record { longer = let e = length-append t u in omega arith; same = λ j a b. get_left t u j b }

  set_after : (t : List (TableNode K)) (p j : ℕ) (r : TableNode K) → suc p ≤ j → slice_get (set t p r) j ≡ slice_get t j
  set_after [] p j r h = refl
  set_after (x ∷ t) zero zero r h = absurd (omega arith)
  set_after (x ∷ t) zero (suc j) r h = refl
  set_after (x ∷ t) (suc p) zero r h = refl
  set_after (x ∷ t) (suc p) (suc j) r h = set_after t p j r (omega arith)

  set_before : (t : List (TableNode K)) (p j : ℕ) (r : TableNode K) → j < p → slice_get (set t p r) j ≡ slice_get t j
  set_before [] p j r h = refl
  set_before (x ∷ t) zero j r h = absurd (omega arith)
  set_before (x ∷ t) (suc p) zero r h = refl
  set_before (x ∷ t) (suc p) (suc j) r h = set_before t p j r (omega arith)

  pub set_here : (t : List (TableNode K)) (p : ℕ) (r : TableNode K) → p < length t → slice_get (set t p r) p ≡ Some r
  set_here [] p r h = absurd (omega arith)
  set_here (x ∷ t) zero r h = refl
  set_here (x ∷ t) (suc p) r h = set_here t p r (omega arith)

  pub later_set : (t : List (TableNode K)) (p : ℕ) (r : TableNode K) → Later (suc p) t (set t p r)
  later_set t p r = record { longer = let e = length-set t p r in omega arith; same = λ j a b. set_after t p j r a }

  -- nodes before index p stay the same
  pub kept_by_set : (t u : List (TableNode K)) (p : ℕ) (r : TableNode K) → Later 0 t u → length t ≤ p → Later 0 t (set u p r)
  kept_by_set t u p r h k = record { longer = let e = length-set u p r in let a = h.longer in omega arith; same = λ j a b. set_before u p j r (omega arith) ∙ h.same j a b }

module _ {K : Type 0} (own_of : K → Own) where
  -- ---- the tree at a number

  -- one level, if the levels below are equal
  agree_at : (f g : ℕ → Node) (t : List (TableNode K)) (i : ℕ) → Closed t → ((c : ℕ) → suc i ≤ c → c < length t → f c ≡ g c) → assemble_some own_of f (slice_get t i) ≡ assemble_some own_of g (slice_get t i)
  agree_at f g t i closed same = by (slice_get t i) refl
    where
      by : (o : Option (TableNode K)) → slice_get t i ≡ o → assemble_some own_of f o ≡ assemble_some own_of g o
      by None e = refl
      by (Some r) e = assemble_same own_of f g (suc i) (length t) r (closed i r e) same

  agree : (n m : ℕ) (t u : List (TableNode K)) (low i : ℕ) → Closed t → Later low t u → low ≤ i → i < length t → length t ≤ n + i → length t ≤ m + i → tree_in own_of n t i ≡ tree_in own_of m u i
  unfolding tree_in
  agree zero m t u low i closed later li il hn hm = absurd (omega arith)
  agree (suc n) zero t u low i closed later li il hn hm = absurd (omega arith)
  agree (suc n) (suc m) t u low i closed later li il hn hm =
      agree_at (tree_in own_of n t) (tree_in own_of m u) t i closed (λ c h k. agree n m t u low c closed later (omega arith) k (omega arith) (omega arith)) ∙ ap (assemble_some own_of (tree_in own_of m u)) (sym (later.same i li il))

  -- a tree is the same in a later table
  pub tree_later : (t u : List (TableNode K)) (low i : ℕ) → Closed t → Later low t u → low ≤ i → i < length t → tree own_of t i ≡ tree own_of u i
  unfolding tree
  tree_later t u low i closed later li il = agree (length t) (length u) t u low i closed later li il (omega arith) (let long = later.longer in omega arith)

  opens_in : (n : ℕ) (t : List (TableNode K)) (i : ℕ) (r : TableNode K) → Closed t → slice_get t i ≡ Some r → i < length t → length t ≤ n + i → tree_in own_of n t i ≡ assemble own_of (tree own_of t) r
  unfolding tree_in tree
  opens_in zero t i r closed e il hn = absurd (omega arith)
  opens_in (suc n) t i r closed e il hn =
      ap (assemble_some own_of (tree_in own_of n t)) e ∙ assemble_same own_of (tree_in own_of n t) (tree own_of t) (suc i) (length t) r (closed i r e) (λ c h k. agree n (length t) t t 0 c closed (later_self 0 t) (omega arith) k (omega arith) (omega arith))

  -- a tree is its node with the trees of the node's numbers
  pub opens : (t : List (TableNode K)) (i : ℕ) (r : TableNode K) → Closed t → slice_get t i ≡ Some r → tree own_of t i ≡ assemble own_of (tree own_of t) r
  unfolding tree
  opens t i r closed e = opens_in (length t) t i r closed e (slice_get_within t i r e) (omega arith)

module _ {K : Type 0} where
  -- ---- a new last node

  -- a node of the longer list is an old one or the appended one
  pub last_or_old : (t : List (TableNode K)) (x r : TableNode K) (i : ℕ) → slice_get (t ++ x ∷ []) i ≡ Some r → (slice_get t i ≡ Some r) ⊎ ((i ≡ length t) × (x ≡ r))
  last_or_old [] x r zero e = inr (refl, cc)
  last_or_old [] x r (suc i) e = absurd cc
  last_or_old (y ∷ t) x r zero e = inl e
  last_or_old (y ∷ t) x r (suc i) e = step (last_or_old t x r i e)
    where
      step : (slice_get t i ≡ Some r) ⊎ ((i ≡ length t) × (x ≡ r)) → (slice_get t i ≡ Some r) ⊎ ((suc i ≡ suc (length t)) × (x ≡ r))
      step (inl h) = inl h
      step (inr h) = inr (ap suc h.0, h.1)

  pub last_here : (t : List (TableNode K)) (x : TableNode K) → slice_get (t ++ x ∷ []) (length t) ≡ Some x
  last_here [] x = refl
  last_here (y ∷ t) x = last_here t x

  pub closed_append : (t : List (TableNode K)) (x : TableNode K) → Closed t → ((low high : ℕ) → IsWithin low high x.children) → Closed (t ++ x ∷ [])
  closed_append t x closed leaf = λ i r e. by i r (last_or_old t x r i e)
    where
      by : (i : ℕ) (r : TableNode K) → (slice_get t i ≡ Some r) ⊎ ((i ≡ length t) × (x ≡ r)) → IsWithin (suc i) (length (t ++ x ∷ [])) r.children
      by i r (inl h) = within_wider (suc i) (suc i) (length t) (length (t ++ x ∷ [])) r.children (omega arith) (let e = length-append t (x ∷ []) in omega arith) (closed i r h)
      by i r (inr h) = subst (λ (y : TableNode K). IsWithin (suc i) (length (t ++ x ∷ [])) y.children) h.1 (leaf (suc i) (length (t ++ x ∷ [])))

  -- ---- a node without children

  pub record Leaf (x : TableNode K) : Type 0 where
    pub properties : x.children.properties.items ≡ []
    pub items : x.children.items ≡ None
    pub additional : x.children.additional ≡ None
    pub all_of : x.children.all_of.items ≡ []
    pub one_of : x.children.one_of.items ≡ []
    pub any_of : x.children.any_of.items ≡ []

  leaf_within : (x : TableNode K) → Leaf x → (low high : ℕ) → IsWithin low high x.children
  leaf_within x h low high = (
    subst (LinksWithin low high) (sym h.properties) tt,
    subst (MaybeWithin low high) (sym h.items) tt,
    subst (MaybeWithin low high) (sym h.additional) tt,
    subst (NumbersWithin low high) (sym h.all_of) tt,
    subst (NumbersWithin low high) (sym h.one_of) tt,
    subst (NumbersWithin low high) (sym h.any_of) tt,
  )

module _ {K : Type 0} (own_of : K → Own) where
  leaf_shows : (f : ℕ → Node) (x : TableNode K) → Leaf x → assemble own_of f x ≡ childless (own_of x.keywords)
  unfolding assemble with_children
  leaf_shows f x h = rw (h.properties, h.items, h.additional, h.all_of, h.one_of, h.any_of) refl

module _ {K : Type 0} where
  pub closed_push : (t u : List (TableNode K)) (b : Bool) (x : TableNode K) → u ≡ (if b then t ++ x ∷ [] else t) → Leaf x → Closed t → Closed u
  closed_push t u true x e leaf closed = subst Closed (sym e) (closed_append t x closed (leaf_within x leaf))
  closed_push t u false x e leaf closed = subst Closed (sym e) closed

module _ {K : Type 0} {own_of : K → Own} where
  pub appends : (t u : List (TableNode K)) (x : TableNode K) (n : NodeId) → u ≡ t ++ x ∷ [] → n.0 ≡ length t → Leaf x → Closed t → Appends own_of t u n x.keywords
  appends t u x n e at leaf closed = subst (λ u. Appends own_of t u n x.keywords) (sym e) (record {
    last = at;
    within = let l = length-append t (x ∷ []) in omega arith;
    grows = later_append t (x ∷ []);
    shows = ap (tree own_of (t ++ x ∷ [])) at ∙ opens own_of (t ++ x ∷ []) (length t) x (closed_append t x closed (leaf_within x leaf)) (last_here t x) ∙ leaf_shows own_of (tree own_of (t ++ x ∷ [])) x leaf;
  })

-- ---- the parts of an unfolded node

maybe_option : (f : ℕ → Node) (o : Option NodeId) → as_option (maybe_at f o) ≡ option_map (λ n. f n.0) o
maybe_option f None = refl
maybe_option f (Some n) = refl

pub nodes_nth : (f : ℕ → Node) (ns : List NodeId) (i : ℕ) → nth_node i (nodes_at f ns) ≡ option_map (λ n. f n.0) (slice_get ns i)
nodes_nth f [] i = refl
nodes_nth f (n ∷ ns) zero = refl
nodes_nth f (n ∷ ns) (suc i) = nodes_nth f ns i

named_nth : (f : ℕ → Node) (ls : List PropertyLink) (i : ℕ) → nth_named i (named_at f ls) ≡ option_map (λ l. (string_bytes l.name, f l.node.0)) (slice_get ls i)
named_nth f [] i = refl
named_nth f (l ∷ ls) zero = refl
named_nth f (l ∷ ls) (suc i) = named_nth f ls i

module _ {K : Type 0} (own_of : K → Own) where
  pub own_at : (f : ℕ → Node) (r : TableNode K) → own (assemble own_of f r) ≡ own_of r.keywords
  unfolding assemble with_children
  own_at f r = refl

  pub items_at : (f : ℕ → Node) (r : TableNode K) → items_of (assemble own_of f r) ≡ option_map (λ n. f n.0) r.children.items
  unfolding assemble with_children
  items_at f r = maybe_option f r.children.items

  pub additional_at : (f : ℕ → Node) (r : TableNode K) → additional_of (assemble own_of f r) ≡ option_map (λ n. f n.0) r.children.additional
  unfolding assemble with_children
  additional_at f r = maybe_option f r.children.additional

  pub default_at : (f : ℕ → Node) (r : TableNode K) → default_of (assemble own_of f r) ≡ (own_of r.keywords).default
  unfolding assemble with_children
  default_at f r = refl

  pub all_of_at : (f : ℕ → Node) (r : TableNode K) → all_of (assemble own_of f r) ≡ nodes_at f r.children.all_of.items
  unfolding assemble with_children
  all_of_at f r = refl

  pub one_of_at : (f : ℕ → Node) (r : TableNode K) → one_of (assemble own_of f r) ≡ nodes_at f r.children.one_of.items
  unfolding assemble with_children
  one_of_at f r = refl

  pub any_of_at : (f : ℕ → Node) (r : TableNode K) → any_of (assemble own_of f r) ≡ nodes_at f r.children.any_of.items
  unfolding assemble with_children
  any_of_at f r = refl

  pub property_at : (f : ℕ → Node) (r : TableNode K) (i : ℕ) → nth_named i (named_of (assemble own_of f r)) ≡ option_map (λ l. (string_bytes l.name, f l.node.0)) (slice_get r.children.properties.items i)
  unfolding assemble with_children
  property_at f r i = named_nth f r.children.properties.items i

-- an element read at an index within bounds
pub nth_there : {X : Type 0} (t : List X) (i : ℕ) (x : X) → i < length t → x ≡ get_or t i x → slice_get t i ≡ Some x
nth_there t i x h e = slice_get-get_or t i x h ∙ ap Some (sym e)

pub number_below : (low high : ℕ) (ns : List NodeId) (i : ℕ) (n : NodeId) → NumbersWithin low high ns → slice_get ns i ≡ Some n → n.0 < high
number_below low high [] i n h e = absurd cc
number_below low high (m ∷ ns) zero n h e = let same : m ≡ n = cc in subst (λ n. n.0 < high) same h.1
number_below low high (m ∷ ns) (suc i) n h e = number_below low high ns i n h.2 e

pub link_below : (low high : ℕ) (ls : List PropertyLink) (i : ℕ) (l : PropertyLink) → LinksWithin low high ls → slice_get ls i ≡ Some l → l.node.0 < high
link_below low high [] i l h e = absurd cc
link_below low high (m ∷ ls) zero l h e = let same : m ≡ l = cc in subst (λ l. l.node.0 < high) same h.1
link_below low high (m ∷ ls) (suc i) l h e = link_below low high ls i l h.2 e

-- ---- searching a name, link by link

same_key : (k l : List ℕ) → slice_cmp nat_cmp k l ≡ Equal → k ≡ l
same_key k l e = (bytes_eq-Decides k l).0 (sym (is_eq-slice_cmp k l) ∙ ap is_eq e)

module _ {K : Type 0} (own_of : K → Own) where
  pub named_opens : (f : ℕ → Node) (r : TableNode K) → named_of (assemble own_of f r) ≡ named_at f r.children.properties.items
  unfolding assemble with_children
  named_opens f r = refl

pub here : (f : ℕ → Node) (k : List ℕ) (l : PropertyLink) (ls : List PropertyLink) → string_bytes l.name ≡ k → find k (named_at f (l ∷ ls)) ≡ Some (f l.node.0)
here f k l ls e = ap (λ o. match_ordering o (find k (named_at f ls)) (Some (f l.node.0)) (find k (named_at f ls))) (ap (slice_cmp nat_cmp k) e ∙ tied_itself nat_list_cmp_total k)

pub beyond : (f : ℕ → Node) (k : List ℕ) (l : PropertyLink) (ls : List PropertyLink) → (string_bytes l.name ≡ k → ⊥) → find k (named_at f (l ∷ ls)) ≡ find k (named_at f ls)
beyond f k l ls other = by (slice_cmp nat_cmp k (string_bytes l.name)) refl
  where
    by : (o : Ordering) → slice_cmp nat_cmp k (string_bytes l.name) ≡ o → match_ordering o (find k (named_at f ls)) (Some (f l.node.0)) (find k (named_at f ls)) ≡ find k (named_at f ls)
    by Less e = refl
    by Equal e = absurd (other (sym (same_key k (string_bytes l.name) e)))
    by Greater e = refl

-- ---- sorted names

all_here : (k : List ℕ) (ls : List PropertyLink) (i : ℕ) (l : PropertyLink) → AllByRecursion (λ y. slice_cmp nat_cmp k y ≡ Less) (link_names ls) → slice_get ls i ≡ Some l → slice_cmp nat_cmp k (string_bytes l.name) ≡ Less
all_here k [] i l h e = absurd cc
all_here k (m ∷ ls) zero l h e = let same : m ≡ l = cc in subst (λ l. slice_cmp nat_cmp k (string_bytes l.name) ≡ Less) same h.0
all_here k (m ∷ ls) (suc i) l h e = all_here k ls i l h.1 e

-- searching the name of a link finds that link
pub found_at : (f : ℕ → Node) (ls : List PropertyLink) (i : ℕ) (l : PropertyLink) → LinksOrdered ls → slice_get ls i ≡ Some l → find (string_bytes l.name) (named_at f ls) ≡ Some (f l.node.0)
unfolding IsStrictlySortedBy
found_at f [] i l h e = absurd cc
found_at f (m ∷ ls) zero l h e = let same : m ≡ l = cc in subst (λ l. find (string_bytes l.name) (named_at f (m ∷ ls)) ≡ Some (f l.node.0)) same (here f (string_bytes m.name) m ls refl)
found_at f (m ∷ ls) (suc i) l h e =
    let after : slice_cmp nat_cmp (string_bytes l.name) (string_bytes m.name) ≡ Greater = nat_list_cmp_total.antisymm (string_bytes l.name) (string_bytes m.name) ∙ ap ordering_reverse (all_here (string_bytes m.name) ls i l h.0 e) in
    ap (λ o. match_ordering o (find (string_bytes l.name) (named_at f ls)) (Some (f m.node.0)) (find (string_bytes l.name) (named_at f ls))) after ∙ found_at f ls i l h.1 e

module _ {K : Type 0} where
  pub no_order : (x : TableNode K) → Leaf x → LinksOrdered x.children.properties.items
  unfolding IsStrictlySortedBy
  no_order x h = subst LinksOrdered (sym h.properties) tt

  ordered_append : (t : List (TableNode K)) (x : TableNode K) → AllOrdered t → LinksOrdered x.children.properties.items → AllOrdered (t ++ x ∷ [])
  ordered_append t x all one = λ i r e. by i r (last_or_old t x r i e)
    where
      by : (i : ℕ) (r : TableNode K) → (slice_get t i ≡ Some r) ⊎ ((i ≡ length t) × (x ≡ r)) → LinksOrdered r.children.properties.items
      by i r (inl h) = all i r h
      by i r (inr h) = subst (λ (y : TableNode K). LinksOrdered y.children.properties.items) h.1 one

  pub ordered_push : (t u : List (TableNode K)) (b : Bool) (x : TableNode K) → u ≡ (if b then t ++ x ∷ [] else t) → Leaf x → AllOrdered t → AllOrdered u
  ordered_push t u true x e leaf all = subst AllOrdered (sym e) (ordered_append t x all (no_order x leaf))
  ordered_push t u false x e leaf all = subst AllOrdered (sym e) all

  -- a node of the changed table is an old one or the new one
  set_or_old : (t : List (TableNode K)) (p : ℕ) (x r : TableNode K) (i : ℕ) → slice_get (set t p x) i ≡ Some r → (slice_get t i ≡ Some r) ⊎ ((i ≡ p) × (x ≡ r))
  set_or_old [] p x r i e = absurd cc
  set_or_old (y ∷ t) zero x r zero e = inr (refl, cc)
  set_or_old (y ∷ t) zero x r (suc i) e = inl e
  set_or_old (y ∷ t) (suc p) x r zero e = inl e
  set_or_old (y ∷ t) (suc p) x r (suc i) e = step (set_or_old t p x r i e)
    where
      step : (slice_get t i ≡ Some r) ⊎ ((i ≡ p) × (x ≡ r)) → (slice_get t i ≡ Some r) ⊎ ((suc i ≡ suc p) × (x ≡ r))
      step (inl h) = inl h
      step (inr h) = inr (ap suc h.0, h.1)

  pub closed_set : (t : List (TableNode K)) (p : ℕ) (x : TableNode K) → Closed t → IsWithin (suc p) (length t) x.children → Closed (set t p x)
  closed_set t p x closed one = λ i r e. subst (λ n. IsWithin (suc i) n r.children) (sym (length-set t p x)) (by i r (set_or_old t p x r i e))
    where
      by : (i : ℕ) (r : TableNode K) → (slice_get t i ≡ Some r) ⊎ ((i ≡ p) × (x ≡ r)) → IsWithin (suc i) (length t) r.children
      by i r (inl h) = closed i r h
      by i r (inr h) = subst (λ j. IsWithin (suc j) (length t) r.children) (sym h.0) (subst (λ (y : TableNode K). IsWithin (suc p) (length t) y.children) h.1 one)

  pub ordered_set : (t : List (TableNode K)) (p : ℕ) (x : TableNode K) → AllOrdered t → LinksOrdered x.children.properties.items → AllOrdered (set t p x)
  ordered_set t p x all one = λ i r e. by i r (set_or_old t p x r i e)
    where
      by : (i : ℕ) (r : TableNode K) → (slice_get t i ≡ Some r) ⊎ ((i ≡ p) × (x ≡ r)) → LinksOrdered r.children.properties.items
      by i r (inl h) = all i r h
      by i r (inr h) = subst (λ (y : TableNode K). LinksOrdered y.children.properties.items) h.1 one

pub names_length : (f : ℕ → Node) (ls : List PropertyLink) → length (names (named_at f ls)) ≡ length ls
names_length f [] = refl
names_length f (l ∷ ls) = ap suc (names_length f ls)

pub numbers_length : (f : ℕ → Node) (ns : List NodeId) → nodes_length (nodes_at f ns) ≡ length ns
numbers_length f [] = refl
numbers_length f (n ∷ ns) = ap suc (numbers_length f ns)

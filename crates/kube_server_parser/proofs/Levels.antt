-- Levels of parts that brackets hold.
use Rattle.std.proofs.Common.{◌≡◌, ◌∙◌, ℕ, ◌+◌, ◌<◌, ◌≤◌, refl, ap, arith, Bool, true, false, List, [], ◌∷◌, ◌++◌, length, map}
use Rattle.std.specs.Prelude.{codes, max}
use Rattle.std.specs.Str.{bytes_eq}
use Rattle.std.proofs.lemmas.List.{map-append}
use Rattle.std.proofs.Math.Nat.{le-max_left, le-max_right}
use Rattle.kube_server_syntax.specs.Grammar.{level, highest, level_of_items, level_of_entries, call_level, is_has}
use Rattle.kube_server_syntax.specs.Tree.{Tree, no_trees, trees_of, items_of, entries_of, tree}
use Rattle.kube_server_syntax.specs.declared.node.Node.{Node}
use Rattle.kube_server_parser.specs.Trees.{item_view, entry_view}

pub max_more : (a b c : ℕ) → max a (max b c) ≡ max (max a b) c
max_more a b c = omega arith

pub items_more : (is : List (Bool × Tree)) (o : Bool) (t : Tree)
    → level_of_items (items_of (is ++ (o, t) ∷ [])) ≡ max (level_of_items (items_of is)) (level t)
items_more [] o t = omega arith
items_more (i ∷ is) o t = ap (λ n. max (level i.1) n) (items_more is o t) ∙ max_more (level i.1) (level_of_items (items_of is)) (level t)

pub entries_more : (es : List (Bool × Tree × Tree)) (o : Bool) (a b : Tree)
    → level_of_entries (entries_of (es ++ (o, a, b) ∷ [])) ≡ max (level_of_entries (entries_of es)) (max (level a) (level b))
entries_more [] o a b = omega arith
entries_more (e ∷ es) o a b =
    ap (λ n. max (level e.1) (max (level e.2) n)) (entries_more es o a b)
    ∙ ap (λ n. max (level e.1) n) (max_more (level e.2) (level_of_entries (entries_of es)) (max (level a) (level b)))
    ∙ max_more (level e.1) (max (level e.2) (level_of_entries (entries_of es))) (max (level a) (level b))

pub trees_more : (us : List Tree) (t : Tree) → highest (trees_of (us ++ t ∷ [])) ≡ max (highest (trees_of us)) (level t)
trees_more [] t = omega arith
trees_more (u ∷ us) t = ap (λ n. max (level u) n) (trees_more us t) ∙ max_more (level u) (highest (trees_of us)) (level t)

-- ---- bounds

pub left_within : (a b n : ℕ) → max a b ≤ n → a ≤ n
left_within a b n h = let g = le-max_left a b in omega arith

pub right_within : (a b n : ℕ) → max a b ≤ n → b ≤ n
right_within a b n h = let g = le-max_right a b in omega arith

pub call_within : (b : Bool) (l n : ℕ) → call_level b l ≤ n → l ≤ n
call_within true l n h = h
call_within false l n h = omega arith

pub last_tree : (us : List Tree) (t : Tree) (n : ℕ) → highest (trees_of (us ++ t ∷ [])) ≤ n → level t ≤ n
last_tree us t n h = let e = trees_more us t in right_within (highest (trees_of us)) (level t) n (omega arith)

pub last_item : (is : List (Bool × Tree)) (o : Bool) (t : Tree) (n : ℕ) → level_of_items (items_of (is ++ (o, t) ∷ [])) ≤ n → level t ≤ n
last_item is o t n h = let e = items_more is o t in right_within (level_of_items (items_of is)) (level t) n (omega arith)

pub last_value : (es : List (Bool × Tree × Tree)) (o : Bool) (a b : Tree) (n : ℕ) → level_of_entries (entries_of (es ++ (o, a, b) ∷ [])) ≤ n → level b ≤ n
last_value es o a b n h =
    let e = entries_more es o a b in
    right_within (level a) (level b) n (right_within (level_of_entries (entries_of es)) (max (level a) (level b)) n (omega arith))

-- ---- nodes

pub items_with : (is : List (Bool × Node)) (o : Bool) (n : Node)
    → level_of_items (items_of (map item_view (is ++ (o, n) ∷ []))) ≡ max (level_of_items (items_of (map item_view is))) (level (tree n))
items_with is o n = ap (λ xs. level_of_items (items_of xs)) (map-append item_view is ((o, n) ∷ [])) ∙ items_more (map item_view is) o (tree n)

pub entries_with : (es : List (Bool × Node × Node)) (o : Bool) (a b : Node)
    → level_of_entries (entries_of (map entry_view (es ++ (o, a, b) ∷ []))) ≡ max (level_of_entries (entries_of (map entry_view es))) (max (level (tree a)) (level (tree b)))
entries_with es o a b = ap (λ xs. level_of_entries (entries_of xs)) (map-append entry_view es ((o, a, b) ∷ [])) ∙ entries_more (map entry_view es) o (tree a) (tree b)

pub trees_with : (us : List Node) (n : Node)
    → highest (trees_of (map tree (us ++ n ∷ []))) ≡ max (highest (trees_of (map tree us))) (level (tree n))
trees_with us n = ap (λ xs. highest (trees_of xs)) (map-append tree us (n ∷ [])) ∙ trees_more (map tree us) (tree n)

-- ---- `has`

pub has_one : (us : List Node) (x : List ℕ) → 1 ≤ length us → length us < 2 → is_has no_trees x (trees_of (map tree us)) ≡ bytes_eq x (codes "has")
has_one [] x h g = absurd (omega arith)
has_one (u ∷ []) x h g = refl
has_one (u ∷ v ∷ us) x h g = absurd (omega arith)

pub has_more : (us : List Node) (x : List ℕ) → 2 ≤ length us → is_has no_trees x (trees_of (map tree us)) ≡ false
has_more [] x h = absurd (omega arith)
has_more (u ∷ []) x h = absurd (omega arith)
has_more (u ∷ v ∷ us) x h = refl

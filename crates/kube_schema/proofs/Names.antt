-- The names of a node's properties, one after another.
use Rattle.std.proofs.Common.{◌≡◌, ◌≤◌, ℕ, zero, suc, List, [], ◌∷◌, length, drop, is_some, nat_cmp, ◌||◌, Option, Some, None, option_map, refl, sym, ap, ◌∙◌, arith, Ordering, Less, Equal, Greater, is_eq}
use Rattle.std.specs.Cmp.Lexicographic.{slice_cmp}
use Rattle.std.specs.Ordering.{match_ordering}
use Rattle.std.proofs.lemmas.Map.Text.{is_eq-slice_cmp}
use Rattle.serde_json.specs.Data.{Data, Members}
use Rattle.kube_schema_values.specs.Defaults.{put_new, with_defaults, default_by}
use Rattle.kube_schema_values.proofs.Members.{NamesKeys, is_key}
use Rattle.kube_schema_values.proofs.Fills.{default_step}
use Rattle.kube_schema.specs.Tree.{Node, Named, no_named, named, names, named_of, nth_named, property_of, find, default_of}
use Rattle.kube_schema.specs.CompiledDefaults.{tree_accessors}

abbrev first : Option (List ℕ × Node) → List ℕ → List ℕ
first None k = k
first (Some x) k = x.0

drop_named : (ns : Named) (i : ℕ) (k : List ℕ) (p : Node) → ◌≡◌ {A = Option (List ℕ × Node)} (Some (k, p)) (nth_named i ns) → drop i (names ns) ≡ k ∷ drop (suc i) (names ns)
drop_named no_named i k p e = absurd cc
drop_named (named l n ns) zero k p e = ap (λ k. k ∷ names ns) (sym (ap (λ o. first o l) e))
drop_named (named l n ns) (suc i) k p e = drop_named ns i k p e

drop_none : (ns : Named) (i : ℕ) → ◌≡◌ {A = Option (List ℕ × Node)} None (nth_named i ns) → drop i (names ns) ≡ []
drop_none no_named zero e = refl
drop_none no_named (suc i) e = refl
drop_none (named l n ns) zero e = absurd cc
drop_none (named l n ns) (suc i) e = drop_none ns i e

drop_past : (ks : List (List ℕ)) (i : ℕ) → length ks ≤ i → drop i ks ≡ []
drop_past [] zero h = refl
drop_past [] (suc i) h = refl
drop_past (k ∷ ks) zero h = absurd (omega arith)
drop_past (k ∷ ks) (suc i) h = drop_past ks i (omega arith)

-- in a loop over the properties of a node, whose defaults are filled by f
pub default_at : (f : Node → Data → Data) (s : Node) (i j : ℕ) (k : List ℕ) (p : Node) (ms ms2 : Members) → ◌≡◌ {A = Option (List ℕ × Node)} (Some (k, p)) (nth_named i (named_of s)) → property_of k s ≡ Some p → j ≡ suc i
    → ms2 ≡ put_new k (option_map (f p) (default_of p)) ms → with_defaults (default_by tree_accessors f s) (drop j (names (named_of s))) ms2 ≡ with_defaults (default_by tree_accessors f s) (drop i (names (named_of s))) ms
unfolding tree_accessors
default_at f s i j k p ms ms2 at found next e =
    ap (λ j. with_defaults (default_by tree_accessors f s) (drop j (names (named_of s))) ms2) next
    ∙ default_step tree_accessors f s p k (drop (suc i) (names (named_of s))) ms ms2 found e
    ∙ sym (ap (λ ks. with_defaults (default_by tree_accessors f s) ks ms) (drop_named (named_of s) i k p at))

pub defaults_over : (default : List ℕ → Option Data) (ns : Named) (i : ℕ) (ms : Members) → ◌≡◌ {A = Option (List ℕ × Node)} None (nth_named i ns) → ms ≡ with_defaults default (drop i (names ns)) ms
unfolding with_defaults
defaults_over default ns i ms e = sym (ap (λ ks. with_defaults default ks ms) (drop_none ns i e))

pub defaults_past : (default : List ℕ → Option Data) (ks : List (List ℕ)) (i : ℕ) (ms : Members) → length ks ≤ i → ms ≡ with_defaults default (drop i ks) ms
unfolding with_defaults
defaults_past default ks i ms h = sym (ap (λ ks. with_defaults default ks ms) (drop_past ks i h))

keys_named : (q : List ℕ) (ns : Named) → is_key q (names ns) ≡ is_some (find q ns)
keys_named q no_named = refl
keys_named q (named k n ns) = ap (λ b. b || is_key q (names ns)) (sym (is_eq-slice_cmp q k)) ∙ by (slice_cmp nat_cmp q k) (keys_named q ns)
  where
    by : (o : Ordering) → is_key q (names ns) ≡ is_some (find q ns) → (is_eq o || is_key q (names ns)) ≡ is_some (match_ordering o (find q ns) (Some n) (find q ns))
    by Less e = e
    by Equal e = refl
    by Greater e = e

pub compiled_names_keys : NamesKeys tree_accessors
unfolding tree_accessors
compiled_names_keys = record { named = λ k n. keys_named k (named_of n) }

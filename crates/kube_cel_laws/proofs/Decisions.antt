-- The operators and macros that use outcomes keep values.
use Rattle.cel.specs.Decisions.{is_bool, truth, bool_fault, first_fault, decision, branch_outcome}
use Rattle.cel.specs.Macros.{IterationResult, item_if, image_if, iteration_result_of, with_result, all_results, made_of, macro_of}
use Rattle.cel.specs.Meaning.{strictly, binary_of, entry_of}
use Rattle.cel.specs.Members.{put_in}
use Rattle.cel.specs.Outcome.{Outcome, and_then}
use Rattle.cel_syntax.specs.BinaryOperator.{BinaryOperator}
use Rattle.cel_syntax.specs.BinaryOperator.TheVariants.{Or, And, Less, LessOrEqual, Greater, GreaterOrEqual, Equal, NotEqual, In, Add, Subtract, Multiply, Divide, Remainder}
use Rattle.cel_syntax.specs.MacroKind.{MacroKind}
use Rattle.cel_syntax.specs.MacroKind.TheVariants.{All, Exists, ExistsOne, Map, Filter}
use Rattle.cel_value.specs.Data.{Data, bool}
use Rattle.cel_value.specs.Faults.{Fault}
use Rattle.kube_cel_laws.proofs.Results.{AllKept, Keeps, and_then_kept, keeps_itself, mapped_kept}
use Rattle.std.proofs.Common.{◌≡◌, ℕ, List, [], ◌∷◌, Bool, true, false, not, ◌||◌, Option, Some, None, Result, Ok, Err, codes, if◌then◌else◌, refl, sym, ap, ◌∙◌, subst}
use Rattle.std.specs.List.{list_any}
use Rattle.std.specs.Option.{option_map_or, option_or}

-- ---- operands that may decide

is_bool_kept : (b : Bool) (r s : Outcome) → Keeps r s → is_bool b r ≡ true → is_bool b s ≡ true
is_bool_kept b (Ok v) s k e = subst (λ x. is_bool b x ≡ true) (sym k) e
is_bool_kept true (Err x) s k e = cc
is_bool_kept false (Err x) s k e = cc

or_true : (b : Bool) → b || true ≡ true
or_true true = refl
or_true false = refl

or_kept : (a b c d : Bool) → (a ≡ true → c ≡ true) → (b ≡ true → d ≡ true) → a || b ≡ true → c || d ≡ true
or_kept true b c d h k e = ap (λ x. x || d) (h refl)
or_kept false b c d h k e = ap (λ x. c || x) (k e) ∙ or_true c

any_kept : (b : Bool) (rs ss : List Outcome) → AllKept rs ss → list_any (is_bool b) rs ≡ true → list_any (is_bool b) ss ≡ true
any_kept b [] ss k e = cc
any_kept b (r ∷ rs) [] k e = absurd k
any_kept b (r ∷ rs) (s ∷ ss) k e = or_kept (is_bool b r) (list_any (is_bool b) rs) (is_bool b s) (list_any (is_bool b) ss) (is_bool_kept b r s k.0) (any_kept b rs ss k.1) e

second_none : (o p : Option Fault) → option_or o p ≡ None → p ≡ None
second_none None p e = e
second_none (Some x) p e = cc

-- outcomes without a fault are values, so they are kept
faultless_kept : (name : List ℕ) (rs ss : List Outcome) → AllKept rs ss → first_fault name rs ≡ None → ss ≡ rs
faultless_kept name [] [] k e = refl
faultless_kept name [] (s ∷ ss) k e = absurd k
faultless_kept name (r ∷ rs) [] k e = absurd k
faultless_kept name (Ok v ∷ rs) (s ∷ ss) k e = λ i. k.0 i ∷ faultless_kept name rs ss k.1 (second_none (bool_fault name (Ok v)) (first_fault name rs) e) i
faultless_kept name (Err x ∷ rs) (s ∷ ss) k e = cc

-- the outcome where no operand decides
abbrev undecided : Bool → Option Fault → Outcome
undecided b o = option_map_or Err o (Ok (bool (not b)))

module _ (b : Bool) (name : List ℕ) (rs ss : List Outcome) (kept : AllKept rs ss) where
  undecided_kept : list_any (is_bool b) rs ≡ false → (o : Option Fault) → first_fault name rs ≡ o → Keeps (undecided b o) (decision b name ss)
  undecided_kept none (Some x) e = tt
  undecided_kept none None e = ap (decision b name) (faultless_kept name rs ss kept e)
      ∙ ap (λ x. if x then Ok (bool b) else undecided b (first_fault name rs)) none ∙ ap (undecided b) e

  decided_or_not : (x : Bool) → list_any (is_bool b) rs ≡ x → Keeps (if x then Ok (bool b) else undecided b (first_fault name rs)) (decision b name ss)
  decided_or_not true e = ap (λ x. if x then Ok (bool b) else undecided b (first_fault name ss)) (any_kept b rs ss kept e)
  decided_or_not false e = undecided_kept e (first_fault name rs) refl

  pub decision_kept : Keeps (decision b name rs) (decision b name ss)
  decision_kept = decided_or_not (list_any (is_bool b) rs) refl

-- ---- conditions

pub truth_kept : (name : List ℕ) (r s : Outcome) → Keeps r s → Keeps (truth name r) (truth name s)
truth_kept name (Ok v) s k = subst (λ x. Keeps (truth name (Ok v)) (truth name x)) (sym k) (keeps_itself (truth name (Ok v)))
truth_kept name (Err x) s k = tt

pub branch_kept : (c d : Result Bool Fault) (r s x y : Outcome) → Keeps c d → Keeps r s → Keeps x y → Keeps (branch_outcome c r x) (branch_outcome d s y)
branch_kept (Ok true) d r s x y c k l = subst (λ z. Keeps r (branch_outcome z s y)) (sym c) k
branch_kept (Ok false) d r s x y c k l = subst (λ z. Keeps x (branch_outcome z s y)) (sym c) l
branch_kept (Err e) d r s x y c k l = tt

-- ---- operators

pub strictly_kept : (f : Data → Data → Outcome) (a b c d : Outcome) → Keeps a c → Keeps b d → Keeps (strictly f a b) (strictly f c d)
strictly_kept f a b c d k l = and_then_kept a c _ _ k (λ v. mapped_kept b d (λ w. f v w) l)

pub binary_kept : (op : BinaryOperator) (a b c d : Outcome) → Keeps a c → Keeps b d → Keeps (binary_of op a b) (binary_of op c d)
binary_kept Or a b c d k l = decision_kept true (codes "||") (a ∷ b ∷ []) (c ∷ d ∷ []) (k, (l, tt))
binary_kept And a b c d k l = decision_kept false (codes "&&") (a ∷ b ∷ []) (c ∷ d ∷ []) (k, (l, tt))
binary_kept Less a b c d k l = strictly_kept _ a b c d k l
binary_kept LessOrEqual a b c d k l = strictly_kept _ a b c d k l
binary_kept Greater a b c d k l = strictly_kept _ a b c d k l
binary_kept GreaterOrEqual a b c d k l = strictly_kept _ a b c d k l
binary_kept Equal a b c d k l = strictly_kept _ a b c d k l
binary_kept NotEqual a b c d k l = strictly_kept _ a b c d k l
binary_kept In a b c d k l = strictly_kept _ a b c d k l
binary_kept Add a b c d k l = strictly_kept _ a b c d k l
binary_kept Subtract a b c d k l = strictly_kept _ a b c d k l
binary_kept Multiply a b c d k l = strictly_kept _ a b c d k l
binary_kept Divide a b c d k l = strictly_kept _ a b c d k l
binary_kept Remainder a b c d k l = strictly_kept _ a b c d k l

pub entry_kept : (k l v w : Outcome) (m : Data) → Keeps k l → Keeps v w → Keeps (entry_of k v m) (entry_of l w m)
entry_kept k l v w m h i = and_then_kept k l _ _ h (λ x. mapped_kept v w (λ y. put_in m x y) i)

-- ---- macros

image_kept : (r s : Outcome) (b : Bool) → Keeps r s → Keeps (image_if r b) (image_if s b)
image_kept r s true k = mapped_kept r s (λ v. Ok (Some v)) k
image_kept r s false k = refl

-- the item, if the predicate is true
item_kept : (name : List ℕ) (d : Data) (r s : Outcome) → Keeps r s → Keeps (and_then (truth name r) (λ b. Ok (item_if d b))) (and_then (truth name s) (λ b. Ok (item_if d b)))
item_kept name d r s k = mapped_kept _ _ (λ b. Ok (item_if d b)) (truth_kept name r s k)

pub iteration_kept : (kind : MacroKind) (d : Data) (ps qs : List Outcome) (r s : Outcome) → AllKept ps qs → Keeps r s → Keeps (iteration_result_of kind d ps r) (iteration_result_of kind d qs s)
iteration_kept All d ps qs r s k l = item_kept (codes "all") d r s l
iteration_kept Exists d ps qs r s k l = item_kept (codes "exists") d r s l
iteration_kept ExistsOne d ps qs r s k l = item_kept (codes "exists_one") d r s l
iteration_kept Filter d ps qs r s k l = item_kept (codes "filter") d r s l
iteration_kept Map d [] [] r s k l = mapped_kept r s (λ v. Ok (Some v)) l
iteration_kept Map d [] (q ∷ qs) r s k l = absurd k
iteration_kept Map d (p ∷ ps) [] r s k l = absurd k
iteration_kept Map d (p ∷ ps) (q ∷ qs) r s k l = and_then_kept _ _ (image_if r) (image_if s) (truth_kept (codes "map") p q k.0) (λ b. image_kept r s b l)

all_results_kept : (gs hs : List IterationResult) → AllKept gs hs → Keeps (all_results gs) (all_results hs)
all_results_kept [] [] k = refl
all_results_kept [] (h ∷ hs) k = absurd k
all_results_kept (g ∷ gs) [] k = absurd k
all_results_kept (g ∷ gs) (h ∷ hs) k = and_then_kept g h _ _ k.0 (λ o. mapped_kept _ _ (λ ds. Ok (with_result o ds)) (all_results_kept gs hs k.1))

pub macro_kept : (kind : MacroKind) (rs ss : List Outcome) (gs hs : List IterationResult) → AllKept rs ss → AllKept gs hs → Keeps (macro_of kind rs gs) (macro_of kind ss hs)
macro_kept All rs ss gs hs k l = decision_kept false (codes "all") rs ss k
macro_kept Exists rs ss gs hs k l = decision_kept true (codes "exists") rs ss k
macro_kept ExistsOne rs ss gs hs k l = mapped_kept _ _ (made_of ExistsOne) (all_results_kept gs hs l)
macro_kept Map rs ss gs hs k l = mapped_kept _ _ (made_of Map) (all_results_kept gs hs l)
macro_kept Filter rs ss gs hs k l = mapped_kept _ _ (made_of Filter) (all_results_kept gs hs l)

-- The front of an escaped text, and the text between its underscores.
use Rattle.std.proofs.Common.{◌≡◌, ℕ, suc, ◌<◌, Bool, true, false, codes, List, [], ◌∷◌, ◌++◌, length, take, drop, get_or, refl, sym, ap, ◌∙◌, inl, inr, lit<, arith, take-append-drop, length-append}
use Rattle.std.specs.Char.{encode_utf8}
use Rattle.std.specs.Str.{bytes_eq}
use Rattle.std.specs.Str.Pattern.{LacksTextAt, StripsPrefix, StripsSuffix, FindsTextPrefix, FindsTextSuffix}
use Rattle.std.proofs.lemmas.Bool.{cases_eq, ne_eqb, and_parts, and_from, false_from_ne_true, false≢true}
use Rattle.std.proofs.lemmas.Slice.Eq.{bytes_eq-Decides}
use Rattle.std.proofs.lemmas.Str.{encode_ascii}
use Rattle.kube_schema_values.specs.Escape.{is_reserved, between_underscores, escape}
use Rattle.kube_schema_values.specs.Unescape.{begins, unescaped_text, inner, is_reserved_form, name_behind}
use Rattle.kube_schema_values.proofs.Escapes.{other_byte}
use Rattle.kube_schema_values.proofs.Inverse.{keeps, inner-between, name_behind-escape}

-- ---- cut texts

pub prefix_before : (word t x : List ℕ) → StripsPrefix (FindsTextPrefix word) t x → t ≡ word ++ x
prefix_before word t x h = h.1.1 ∙ ap (λ s. word ++ s) (sym h.2)

pub suffix_after : (word t x : List ℕ) → StripsSuffix (FindsTextSuffix word) t x → t ≡ x ++ word
suffix_after word t x h = h.1.1 ∙ ap (λ s. s ++ word) (sym h.2)

pub shorter : (word t x : List ℕ) → t ≡ word ++ x → 0 < length word → length x < length t
shorter word t x is some = omega (arith, ap length is, length-append word x)

lacks_begins : (t word : List ℕ) → LacksTextAt word t 0 → begins t word ≡ false
lacks_begins t word lacks = false_from_ne_true _ (λ h.
    lacks (drop (length word) t) (sym (take-append-drop (length word) t) ∙ ap (λ w. w ++ drop (length word) t) (sym ((bytes_eq-Decides word (take (length word) t)).0 h))))

-- ---- the front

pub reads_underscores : (t x : List ℕ) → t ≡ codes "__underscores__" ++ x → unescaped_text 0 t ≡ codes "__" ++ unescaped_text 0 x
unfolding unescaped_text
reads_underscores t x is = rw is refl

pub reads_dot : (t x : List ℕ) → t ≡ codes "__dot__" ++ x → unescaped_text 0 t ≡ codes "." ++ unescaped_text 0 x
unfolding unescaped_text
reads_dot t x is = rw is refl

pub reads_dash : (t x : List ℕ) → t ≡ codes "__dash__" ++ x → unescaped_text 0 t ≡ codes "-" ++ unescaped_text 0 x
unfolding unescaped_text
reads_dash t x is = rw is refl

pub reads_slash : (t x : List ℕ) → t ≡ codes "__slash__" ++ x → unescaped_text 0 t ≡ codes "/" ++ unescaped_text 0 x
unfolding unescaped_text
reads_slash t x is = rw is refl

kept_at : (b : ℕ) (t : List ℕ) → begins (b ∷ t) (codes "__underscores__") ≡ false → begins (b ∷ t) (codes "__dot__") ≡ false
    → begins (b ∷ t) (codes "__dash__") ≡ false → begins (b ∷ t) (codes "__slash__") ≡ false → unescaped_text 0 (b ∷ t) ≡ b ∷ unescaped_text 0 t
unfolding unescaped_text
kept_at b t e f g h = rw (e, f, g, h) refl

pub kept : (t : List ℕ) → LacksTextAt (codes "__underscores__") t 0 → LacksTextAt (codes "__dot__") t 0 → LacksTextAt (codes "__dash__") t 0 → LacksTextAt (codes "__slash__") t 0
    → (b : ℕ) (rest : List ℕ) → t ≡ b ∷ rest → unescaped_text 0 t ≡ b ∷ unescaped_text 0 rest
kept t e f g h b rest is =
    ap (unescaped_text 0) is ∙ kept_at b rest (ap (λ s. begins s (codes "__underscores__")) (sym is) ∙ lacks_begins t (codes "__underscores__") e) (ap (λ s. begins s (codes "__dot__")) (sym is) ∙ lacks_begins t (codes "__dot__") f) (ap (λ s. begins s (codes "__dash__")) (sym is) ∙ lacks_begins t (codes "__dash__") g) (ap (λ s. begins s (codes "__slash__")) (sym is) ∙ lacks_begins t (codes "__slash__") h)

-- ---- a character at the front

keeps_all : (bs t : List ℕ) → ((k : ℕ) → k < length bs → get_or bs k 0 ≡ 95 → ⊥) → unescaped_text 0 (bs ++ t) ≡ bs ++ unescaped_text 0 t
keeps_all [] t other = refl
keeps_all (b ∷ bs) t other =
    keeps b (bs ++ t) (ne_eqb 95 b (λ e. other 0 (omega arith) (sym e))) ∙ ap (λ s. b ∷ s) (keeps_all bs t (λ k l. other (suc k) (omega arith)))

pub kept_character : (c : ℕ) (t rest : List ℕ) → ((b : ℕ) (s : List ℕ) → t ≡ b ∷ s → unescaped_text 0 t ≡ b ∷ unescaped_text 0 s) → t ≡ encode_utf8 c ++ rest
    → unescaped_text 0 t ≡ encode_utf8 c ++ unescaped_text 0 rest
kept_character c t rest alone is =
    elim (cases_eq c 95) [
      | inl e ↦
          let one : encode_utf8 c ≡ 95 ∷ [] = ap encode_utf8 e ∙ encode_ascii 95 (lit< tt) in
          alone 95 rest (is ∙ ap (λ s. s ++ rest) one) ∙ ap (λ s. s ++ unescaped_text 0 rest) (sym one)
      | inr other ↦ ap (unescaped_text 0) is ∙ keeps_all (encode_utf8 c) rest (λ k l. other_byte c k 95 l (omega arith) other)
    ]

-- ---- a reserved word between underscores

form_parts : (t : List ℕ) → is_reserved_form t ≡ true → t ≡ between_underscores (inner t)
unfolding is_reserved_form
form_parts t h = (bytes_eq-Decides t (between_underscores (inner t))).0 (and_parts (is_reserved (inner t)) (bytes_eq t (between_underscores (inner t))) h).1

pub no_front : (t : List ℕ) → LacksTextAt (codes "__") t 0 → is_reserved_form t ≡ false
no_front t lacks = false_from_ne_true _ (λ h. lacks (inner t ++ codes "__") (form_parts t h))

pub no_end : (t x : List ℕ) → t ≡ codes "__" ++ x → ((front : List ℕ) → x ≡ front ++ codes "__" → ⊥) → is_reserved_form t ≡ false
no_end t x is lacks = false_from_ne_true _ (λ h. lacks (inner t) (ap (drop 2) (sym is ∙ form_parts t h)))

between_is : (t x y : List ℕ) → t ≡ codes "__" ++ x → x ≡ y ++ codes "__" → t ≡ between_underscores y
between_is t x y is end = is ∙ ap (λ s. codes "__" ++ s) end

pub word_is_inner : (t x y : List ℕ) → t ≡ codes "__" ++ x → x ≡ y ++ codes "__" → y ≡ inner t
word_is_inner t x y is end = sym (inner-between y) ∙ ap inner (sym (between_is t x y is end))

pub form_is : (t x y : List ℕ) (b : Bool) → t ≡ codes "__" ++ x → x ≡ y ++ codes "__" → is_reserved y ≡ b → is_reserved_form t ≡ b
unfolding is_reserved_form
form_is t x y true is end reserved =
    let word = word_is_inner t x y is end in
    and_from _ _ (ap is_reserved (sym word) ∙ reserved) ((bytes_eq-Decides t (between_underscores (inner t))).1 (between_is t x y is end ∙ ap between_underscores word))
form_is t x y false is end reserved =
    let word = word_is_inner t x y is end in
    rw (ap is_reserved (sym word) ∙ reserved) refl

-- ---- the name

pub no_name : (t : List ℕ) → bytes_eq (escape (name_behind t)) t ≡ false → (name : List ℕ) → escape name ≡ t → ⊥
no_name t differs name is =
    let back : name_behind t ≡ name = ap name_behind (sym is) ∙ name_behind-escape name in
    false≢true (sym differs ∙ (bytes_eq-Decides (escape (name_behind t)) t).1 (ap escape back ∙ is))

-- A name is determined by its escape.
use Rattle.std.proofs.Common.{◌≡◌, ℕ, ◌==◌, ◌&&◌, not, Bool, true, false, Some, codes, List, [], ◌∷◌, ◌++◌, refl, sym, ap, ◌∙◌, inl, inr, arith, length-append}
use Rattle.std.specs.List.{list_any, list_all}
use Rattle.std.specs.Str.{bytes_eq}
use Rattle.std.proofs.lemmas.Bool.{false≢true, or_cases, and_parts, and_from, both_ways, not-true, false_from_ne_true, eqb-true, eqb-false, ne_eqb}
use Rattle.std.proofs.lemmas.List.{take_at}
use Rattle.std.proofs.lemmas.Slice.Eq.{bytes_eq-Decides}
use Rattle.kube_schema_values.specs.Escape.{reserved_words, is_reserved, between_underscores, escaped_byte, escaped_text, escape}
use Rattle.kube_schema_values.specs.Unescape.{unescaped_text, inner, is_reserved_form, name_behind, unescape}
use Rattle.kube_schema_values.proofs.Escapes.{escaped_text-cons, escaped_text-single, escaped_text-double}

-- ---- bytes that don't begin an escaped character

pub keeps : (b : ℕ) (t : List ℕ) → (95 == b) ≡ false → unescaped_text 0 (b ∷ t) ≡ b ∷ unescaped_text 0 t
unfolding unescaped_text
keeps b t h = rw h refl

keeps_underscore : (b : ℕ) (t : List ℕ) → (95 == b) ≡ false → unescaped_text 0 (95 ∷ b ∷ t) ≡ 95 ∷ unescaped_text 0 (b ∷ t)
unfolding unescaped_text
keeps_underscore b t h = rw h refl

other_way : (b : ℕ) → (b == 95) ≡ false → (95 == b) ≡ false
other_way b h = ne_eqb 95 b (λ e. eqb-false b 95 h (sym e))

-- ---- one escaped byte before a text

reads_byte_at : (x y z : Bool) (b : ℕ) (t : List ℕ) → (b == 46) ≡ x → (b == 45) ≡ y → (b == 47) ≡ z → (95 == b) ≡ false
    → unescaped_text 0 (escaped_byte b ++ t) ≡ b ∷ unescaped_text 0 t
unfolding unescaped_text
reads_byte_at true y z b t dot dash slash other = rw dot (ap (λ c. c ∷ unescaped_text 0 t) (sym (eqb-true b 46 dot)))
reads_byte_at false true z b t dot dash slash other = rw (dot, dash) (ap (λ c. c ∷ unescaped_text 0 t) (sym (eqb-true b 45 dash)))
reads_byte_at false false true b t dot dash slash other = rw (dot, dash, slash) (ap (λ c. c ∷ unescaped_text 0 t) (sym (eqb-true b 47 slash)))
reads_byte_at false false false b t dot dash slash other = rw (dot, dash, slash) (keeps b t other)

reads_byte : (b : ℕ) (t : List ℕ) → (b == 95) ≡ false → unescaped_text 0 (escaped_byte b ++ t) ≡ b ∷ unescaped_text 0 t
reads_byte b t h = reads_byte_at _ _ _ b t refl refl refl (other_way b h)

-- an underscore before an escaped byte doesn't begin an escaped character
underscore_at : (x y z : Bool) (b : ℕ) (t : List ℕ) → (b == 46) ≡ x → (b == 45) ≡ y → (b == 47) ≡ z → (95 == b) ≡ false
    → unescaped_text 0 (95 ∷ (escaped_byte b ++ t)) ≡ 95 ∷ unescaped_text 0 (escaped_byte b ++ t)
unfolding unescaped_text
underscore_at true y z b t dot dash slash other = rw dot refl
underscore_at false true z b t dot dash slash other = rw (dot, dash) refl
underscore_at false false true b t dot dash slash other = rw (dot, dash, slash) refl
underscore_at false false false b t dot dash slash other = rw (dot, dash, slash) (keeps_underscore b t other)

underscore_before : (b : ℕ) (t : List ℕ) → (b == 95) ≡ false → unescaped_text 0 (95 ∷ (escaped_byte b ++ t)) ≡ 95 ∷ unescaped_text 0 (escaped_byte b ++ t)
underscore_before b t h = underscore_at _ _ _ b t refl refl refl (other_way b h)

last_underscore : unescaped_text 0 (escaped_text (95 ∷ [])) ≡ 95 ∷ []
unfolding unescaped_text escaped_text
last_underscore = refl

pub reads_double : (t : List ℕ) → unescaped_text 0 (codes "__underscores__" ++ t) ≡ 95 ∷ 95 ∷ unescaped_text 0 t
unfolding unescaped_text
reads_double t = refl

nothing : unescaped_text 0 [] ≡ []
unfolding unescaped_text
nothing = refl

nothing_escaped : escaped_text [] ≡ []
unfolding escaped_text
nothing_escaped = refl

-- ---- a whole text

-- an underscore before another byte
single_back : (c : ℕ) (t : List ℕ) → (c == 95) ≡ false → unescaped_text 0 (escaped_text t) ≡ t → unescaped_text 0 (escaped_text (95 ∷ c ∷ t)) ≡ 95 ∷ c ∷ t
single_back c t other back =
    ap (unescaped_text 0) (escaped_text-single c t other ∙ ap (λ s. 95 ∷ s) (escaped_text-cons c t other)) ∙ underscore_before c (escaped_text t) other ∙ ap (λ s. 95 ∷ s) (reads_byte c (escaped_text t) other ∙ ap (λ s. c ∷ s) back)

double_back : (t : List ℕ) → unescaped_text 0 (escaped_text t) ≡ t → unescaped_text 0 (escaped_text (95 ∷ 95 ∷ t)) ≡ 95 ∷ 95 ∷ t
double_back t back = ap (unescaped_text 0) (escaped_text-double t) ∙ reads_double (escaped_text t) ∙ ap (λ s. 95 ∷ 95 ∷ s) back

other_back : (b : ℕ) (t : List ℕ) → (b == 95) ≡ false → unescaped_text 0 (escaped_text t) ≡ t → unescaped_text 0 (escaped_text (b ∷ t)) ≡ b ∷ t
other_back b t other back = ap (unescaped_text 0) (escaped_text-cons b t other) ∙ reads_byte b (escaped_text t) other ∙ ap (λ s. b ∷ s) back

alone_back : (x : Bool) (b : ℕ) → (b == 95) ≡ x → unescaped_text 0 (escaped_text (b ∷ [])) ≡ b ∷ []
alone_back true b is = let e : b ≡ 95 = eqb-true b 95 is in rw e last_underscore
alone_back false b is = other_back b [] is (ap (unescaped_text 0) nothing_escaped ∙ nothing)

both_back : (x y : Bool) (b c : ℕ) (t : List ℕ) → (b == 95) ≡ x → (c == 95) ≡ y → unescaped_text 0 (escaped_text t) ≡ t → unescaped_text 0 (escaped_text (c ∷ t)) ≡ c ∷ t
    → unescaped_text 0 (escaped_text (b ∷ c ∷ t)) ≡ b ∷ c ∷ t
both_back false y b c t first second shorter back = other_back b (c ∷ t) first back
both_back true false b c t first second shorter back = let e : b ≡ 95 = eqb-true b 95 first in rw e (single_back c t second shorter)
both_back true true b c t first second shorter back = let e : b ≡ 95 = eqb-true b 95 first in let f : c ≡ 95 = eqb-true c 95 second in rw (e, f) (double_back t shorter)

pub unescaped-escaped : (s : List ℕ) → unescaped_text 0 (escaped_text s) ≡ s
unescaped-escaped [] = ap (unescaped_text 0) nothing_escaped ∙ nothing
unescaped-escaped (b ∷ []) = alone_back (b == 95) b refl
unescaped-escaped (b ∷ c ∷ t) = both_back (b == 95) (c == 95) b c t refl refl (unescaped-escaped t) (unescaped-escaped (c ∷ t))

-- ---- reserved words

pub inner-between : (s : List ℕ) → inner (between_underscores s) ≡ s
inner-between s = take_at s (codes "__") _ (omega (arith, length-append s (codes "__")))

-- a reserved word between underscores isn't the escape of another text
differs : List ℕ → Bool
differs w = bytes_eq (unescaped_text 0 (between_underscores w)) (between_underscores w) && not (bytes_eq (escaped_text (between_underscores w)) (between_underscores w))

all_differ : list_all differs reserved_words ≡ true
unfolding differs unescaped_text escaped_text
all_differ = refl

of_any : (test : List ℕ → Bool) (w : List ℕ) (ws : List (List ℕ)) → list_all test ws ≡ true → list_any (bytes_eq w) ws ≡ true → test w ≡ true
of_any test w [] all any = absurd (false≢true any)
of_any test w (v ∷ ws) all any =
    let parts = and_parts (test v) (list_all test ws) all in
    elim (or_cases (bytes_eq w v) (list_any (bytes_eq w) ws) any) [
      | inl e ↦ ap test ((bytes_eq-Decides w v).0 e) ∙ parts.0
      | inr later ↦ of_any test w ws parts.1 later
    ]

reserved_differs : (w : List ℕ) → is_reserved w ≡ true → differs w ≡ true
unfolding is_reserved
reserved_differs w h = of_any differs w reserved_words all_differ h

never_form : (s w : List ℕ) → is_reserved w ≡ true → escaped_text s ≡ between_underscores w → ⊥
unfolding differs
never_form s w reserved is =
    let parts = and_parts (bytes_eq (unescaped_text 0 (between_underscores w)) (between_underscores w)) (not (bytes_eq (escaped_text (between_underscores w)) (between_underscores w))) (reserved_differs w reserved) in
    let whole : s ≡ between_underscores w = sym (unescaped-escaped s) ∙ ap (unescaped_text 0) is ∙ (bytes_eq-Decides _ _).0 parts.0 in
    both_ways (bytes_eq (escaped_text (between_underscores w)) (between_underscores w)) (not-true _ parts.1) ((bytes_eq-Decides _ _).1 (ap escaped_text (sym whole) ∙ is))

-- ---- names

pub behind_form : (t : List ℕ) → is_reserved_form t ≡ true → name_behind t ≡ inner t
unfolding name_behind
behind_form t h = rw h refl

pub behind_text : (t : List ℕ) → is_reserved_form t ≡ false → name_behind t ≡ unescaped_text 0 t
unfolding name_behind
behind_text t h = rw h refl

form_of_reserved : (s : List ℕ) → is_reserved s ≡ true → is_reserved_form (between_underscores s) ≡ true
unfolding is_reserved_form
form_of_reserved s h = and_from _ _ (ap is_reserved (inner-between s) ∙ h) ((bytes_eq-Decides _ _).1 (ap between_underscores (sym (inner-between s))))

no_form : (s : List ℕ) → is_reserved_form (escaped_text s) ≡ true → ⊥
unfolding is_reserved_form
no_form s h =
    let parts = and_parts (is_reserved (inner (escaped_text s))) (bytes_eq (escaped_text s) (between_underscores (inner (escaped_text s)))) h in
    never_form s (inner (escaped_text s)) parts.0 ((bytes_eq-Decides _ _).0 parts.1)

back_at : (x : Bool) (s : List ℕ) → is_reserved s ≡ x → name_behind (escape s) ≡ s
unfolding escape
back_at true s h = rw h (behind_form (between_underscores s) (form_of_reserved s h) ∙ inner-between s)
back_at false s h = rw h (behind_text (escaped_text s) (false_from_ne_true _ (no_form s)) ∙ unescaped-escaped s)

pub name_behind-escape : (s : List ℕ) → name_behind (escape s) ≡ s
name_behind-escape s = back_at (is_reserved s) s refl

pub escape-injective : (a b : List ℕ) → escape a ≡ escape b → a ≡ b
escape-injective a b e = sym (name_behind-escape a) ∙ ap name_behind e ∙ name_behind-escape b

pub unescape-escape : (s : List ℕ) → unescape (escape s) ≡ Some s
unfolding unescape
unescape-escape s = rw (name_behind-escape s, (bytes_eq-Decides (escape s) (escape s)).1 refl) refl

-- The lines of a report.
use Rattle.kubecel_report.proofs.Escaped.{ArePrintable, by_decimal, each_behind, is_printable}
use Rattle.kubecel_report.specs.Escapes.{after, at_start, escaped_rest, escaped_text, is_hidden}
use Rattle.kubecel_report.specs.Items.{FindingData, ItemData, finding_text, title}
use Rattle.kubecel_report.specs.Json.{json_finding, json_findings, json_head, json_item, json_items, json_list, json_string, later_finding, later_item, text_member, verdict_name}
use Rattle.kubecel_report.specs.Lines.{colour, coloured_word, element, github_finding, github_item, junit_finding, junit_item, junit_open, level, location, number_member, said, text_finding, text_item, verdict_word}
use Rattle.kubecel_report.specs.Output.{count_of, junit_head, output_text}
use Rattle.kubecel_report.specs.Safe.{json_lines, line_count, report_lines, total}
use Rattle.kubecel_report.specs.declared.escape.Before.{Before}
use Rattle.kubecel_report.specs.declared.escape.Escape.{Escape}
use Rattle.kubecel_report.specs.declared.escape.Escape.TheVariants as escape
use Rattle.kubecel_report.specs.declared.item.Verdict.{Verdict}
use Rattle.kubecel_report.specs.declared.item.Verdict.TheVariants.{Pass, Skip, Fail, NotJudged}
use Rattle.kubecel_report.specs.declared.output.Output.{Output}
use Rattle.kubecel_report.specs.declared.output.Output.TheVariants.{Text, Coloured, Json, Github, Junit}
use Rattle.serde_json.specs.Data.{string}
use Rattle.serde_json.specs.Written.{compact_text}
use Rattle.std.proofs.Common.{◌≡◌, ℕ, zero, suc, ◌+◌, ◌/◌, ◌%◌, ◌<◌, ◌==◌, List, [], ◌∷◌, ◌++◌, nat_lt, length, max, Bool, true, false, if◌then◌else◌, chars, codes, decimal, refl, ap, ap₂, ◌∙◌, arith}
use Rattle.std.proofs.lemmas.Bool.{and_parts, both_ways, cond_both, ltb-true, ne_eqb}
use Rattle.std.specs.List.{flat_map, list_all}
use lib.Utf8.{encode}

lines_append : (xs ys : List ℕ) → line_count (xs ++ ys) ≡ line_count xs + line_count ys
lines_append [] ys = omega arith
lines_append (x ∷ xs) ys = let more = lines_append xs ys in omega arith

-- bytes with this many line feeds
record Lines (bs : List ℕ) (n : ℕ) : Type 0 where
  pub is : line_count bs ≡ n

fixed : (bs : List ℕ) (n : ℕ) → line_count bs ≡ n → Lines bs n
fixed bs n e = record { is = e }

as_many : {bs : List ℕ} {m n : ℕ} → Lines bs m → m ≡ n → Lines bs n
as_many l e = record { is = l.is ∙ e }

-- followed by others
and_then : {xs ys : List ℕ} {m n : ℕ} → Lines xs m → Lines ys n → Lines (xs ++ ys) (m + n)
and_then {xs} {ys} l k = record { is = lines_append xs ys ∙ ap₂ ◌+◌ l.is k.is }

-- none, followed by others
behind : {xs ys : List ℕ} {n : ℕ} → Lines xs 0 → Lines ys n → Lines (xs ++ ys) n
behind {xs} {ys} l k = record { is = omega (arith, lines_append xs ys, l.is, k.is) }

-- ---- escaped texts

other : (b : ℕ) (bs : List ℕ) → (b == 10) ≡ false → Lines bs 0 → Lines (b ∷ bs) 0
other b bs e l =
    let none : 0 + line_count bs ≡ 0 = omega (arith, l.is) in
    record { is = ap (λ t. (if t then 1 else 0) + line_count bs) e ∙ none }

above : (b : ℕ) → 31 < b → (b == 10) ≡ false
above b high = ne_eqb b 10 (λ e. omega arith)

printable : (bs : List ℕ) → ArePrintable bs → Lines bs 0
printable [] p = record { is = refl }
printable (b ∷ bs) p =
    let parts = and_parts (is_printable b) (list_all is_printable bs) p in
    let seen = and_parts (nat_lt 31 b) (nat_lt b 127) parts.0 in
    other b bs (above b (ltb-true 31 b seen.0)) (printable bs parts.1)

hidden_feed : (c : ℕ) → is_hidden c ≡ false → (c == 10) ≡ false
hidden_feed c e = ne_eqb c 10 (λ same. both_ways (is_hidden c) e (ap is_hidden same))

-- a byte of a character that isn't its first
later : (n : ℕ) (bs : List ℕ) → Lines bs 0 → Lines ((128 + n % 64) ∷ bs) 0
later n bs l = other (128 + n % 64) bs (above (128 + n % 64) (omega arith)) l

first : (b : ℕ) (bs : List ℕ) → 31 < b → Lines bs 0 → Lines (b ∷ bs) 0
first b bs high l = other b bs (above b high) l

encoded : (c : ℕ) → is_hidden c ≡ false → Lines (encode c) 0
unfolding encode
encoded c e =
    let nothing = fixed [] 0 refl in
    let one = later c [] nothing in
    let two = later (c / 64) ((128 + c % 64) ∷ []) one in
    let three = later (c / 4096) ((128 + c / 64 % 64) ∷ (128 + c % 64) ∷ []) two in
    cond_both (nat_lt c 128) (c ∷ []) _ (λ bs. Lines bs 0) (λ h. other c [] (hidden_feed c e) nothing)
    (λ h. cond_both (nat_lt c 2048) _ _ (λ bs. Lines bs 0) (λ k. first (192 + c / 64) ((128 + c % 64) ∷ []) (omega arith) one)
    (λ k. cond_both (nat_lt c 65536) _ _ (λ bs. Lines bs 0)
    (λ l. first (224 + c / 4096) ((128 + c / 64 % 64) ∷ (128 + c % 64) ∷ []) (omega arith) two)
    (λ l. first (240 + c / 262144) ((128 + c / 4096 % 64) ∷ (128 + c / 64 % 64) ∷ (128 + c % 64) ∷ []) (omega arith) three)))

flat : {A : Type 0} (f : A → List ℕ) (n : A → ℕ) → ((x : A) → Lines (f x) (n x)) → (xs : List A) → Lines (flat_map f xs) (total n xs)
flat f n each [] = record { is = refl }
flat f n each (x ∷ xs) = and_then (each x) (flat f n each xs)

none_of : {A : Type 0} (xs : List A) → total (λ x. 0) xs ≡ 0
none_of [] = refl
none_of (x ∷ xs) = omega (arith, none_of xs)

-- an escaped text has no line feed
rest : (e : Escape) (b : Before) (cs : List ℕ) → Lines (escaped_rest e b cs) 0
rest e b [] = record { is = refl }
rest e b (c ∷ cs) = and_then (each_behind (λ bs. Lines bs 0) e b c printable (encoded c)) (rest e (after b c) cs)

escaped : (e : Escape) (text : List ℕ) → Lines (escaped_text e text) 0
unfolding escaped_text
escaped e text = rest e at_start (chars text)

each_one : {A : Type 0} (xs : List A) → total (λ x. 1) xs ≡ length xs
each_one [] = refl
each_one (x ∷ xs) = omega (arith, each_one xs)

-- one line for each
flat_one : {A : Type 0} (f : A → List ℕ) → ((x : A) → Lines (f x) 1) → (xs : List A) → Lines (flat_map f xs) (length xs)
flat_one f each xs = as_many (flat f (λ x. 1) each xs) (each_one xs)

-- ---- text

word : (v : Verdict) → Lines (verdict_word v) 0
word Pass = record { is = refl }
word Skip = record { is = refl }
word Fail = record { is = refl }
word NotJudged = record { is = refl }

painted : (v : Verdict) → Lines (colour v) 0
painted Pass = record { is = refl }
painted Skip = record { is = refl }
painted Fail = record { is = refl }
painted NotJudged = record { is = refl }

coloured : (b : Bool) (v : Verdict) → Lines (coloured_word b v) 0
coloured false v = word v
coloured true v = behind (painted v) (behind (word v) (fixed (codes "\u{1b}[0m") 0 refl))

one_text_finding : (f : FindingData) → Lines (text_finding f) 1
one_text_finding f = behind (fixed (codes "  ") 0 refl) (behind (escaped escape.Shown (finding_text f)) (fixed (codes "\n") 1 refl))

one_said : (words : List ℕ) → Lines (said words) 1
unfolding said
one_said words = behind (fixed (codes "kubecel: ") 0 refl) (behind (escaped escape.Shown words) (fixed (codes "\n") 1 refl))

text_lines : (colours : Bool) (i : ItemData) → Lines (text_item colours i) (1 + length i.findings)
unfolding text_item
text_lines colours i =
    let findings = and_then (fixed (codes ")\n") 1 refl) (flat_one text_finding one_text_finding i.findings) in
    let place = behind (fixed (codes " (") 0 refl) (behind (escaped escape.Shown (location i.file i.index)) findings) in
    behind (coloured colours i.verdict) (behind (fixed (codes " ") 0 refl) (behind (escaped escape.Shown (title i)) place))

-- ---- GitHub

levelled : (v : Verdict) → Lines (level v) 0
levelled Pass = record { is = refl }
levelled Skip = record { is = refl }
levelled Fail = record { is = refl }
levelled NotJudged = record { is = refl }

one_github_finding : (i : ItemData) (f : FindingData) → Lines (github_finding i f) 1
unfolding github_finding
one_github_finding i f =
    let text = behind (fixed (codes "::") 0 refl) (behind (escaped escape.Data (finding_text f)) (fixed (codes "\n") 1 refl)) in
    let titled = behind (fixed (codes ",title=") 0 refl) (behind (escaped escape.Property (title i)) text) in
    let placed = behind (fixed (codes " file=") 0 refl) (behind (escaped escape.Property i.file) titled) in
    behind (fixed (codes "::") 0 refl) (behind (levelled i.verdict) placed)

github_lines : (i : ItemData) → Lines (github_item i) (length i.findings)
unfolding github_item
github_lines i = flat_one (github_finding i) (one_github_finding i) i.findings

-- ---- JUnit

elements : (v : Verdict) → Lines (element v) 0
elements Pass = record { is = refl }
elements Skip = record { is = refl }
elements Fail = record { is = refl }
elements NotJudged = record { is = refl }

number : (head : List ℕ) (n m : ℕ) → Lines head m → Lines (number_member head n) m
unfolding number_member
number head n m l = as_many (and_then l (printable (decimal n) (by_decimal n))) (omega arith)

opened : (i : ItemData) → Lines (junit_open i) 0
unfolding junit_open
opened i =
    let ended = behind (fixed (codes "\"><") 0 refl) (behind (elements i.verdict) (fixed (codes ">") 0 refl)) in
    let named = behind (fixed (codes "\" name=\"") 0 refl) (behind (escaped escape.Xml (title i)) ended) in
    behind (fixed (codes "<testcase classname=\"") 0 refl) (behind (escaped escape.Xml i.file) named)

one_junit_finding : (f : FindingData) → Lines (junit_finding f) 1
one_junit_finding f = behind (escaped escape.Xml (finding_text f)) (fixed (codes "\n") 1 refl)

junit_lines : (i : ItemData) → Lines (junit_item i) (1 + length i.findings)
unfolding junit_item
junit_lines i =
    let close = behind (fixed (codes "</") 0 refl) (behind (elements i.verdict) (fixed (codes "></testcase>\n") 1 refl)) in
    as_many (behind (opened i) (and_then (flat_one junit_finding one_junit_finding i.findings) close)) (omega arith)

head_lines : (is : List ItemData) → Lines (junit_head is) 2
unfolding junit_head
head_lines is =
    let tests = codes "<?xml version=\"1.0\" encoding=\"UTF-8\"?>\n<testsuite name=\"kubecel\" tests=\"" in
    let errors = behind (number (codes "\" errors=\"") (count_of 2 is) 0 (fixed (codes "\" errors=\"") 0 refl)) (fixed (codes "\">\n") 1 refl) in
    as_many (and_then (number tests (length is) 1 (fixed tests 1 refl)) (behind (number (codes "\" failures=\"") (count_of 1 is) 0 (fixed (codes "\" failures=\"") 0 refl)) errors)) refl

-- ---- JSON

member : (head text : List ℕ) → Lines head 0 → Lines (text_member head text) 0
unfolding text_member json_string
member head text l = behind l (escaped escape.Json (compact_text (string text)))

in_finding : (f : FindingData) → Lines (json_finding f) 0
unfolding json_finding
in_finding f =
    behind (member (codes "{\"location\":") f.location (fixed (codes "{\"location\":") 0 refl))
    (behind (member (codes ",\"rule\":") f.rule (fixed (codes ",\"rule\":") 0 refl))
    (behind (member (codes ",\"message\":") f.message (fixed (codes ",\"message\":") 0 refl)) (fixed (codes "}") 0 refl)))

one_later : (f : FindingData) → Lines (later_finding f) 1
one_later f = as_many (and_then (fixed (codes ",\n") 1 refl) (in_finding f)) refl

-- one line less than findings, if there are any
abbrev less_one : ℕ → ℕ
less_one zero = zero
less_one (suc n) = n

findings_lines : (fs : List FindingData) → Lines (json_findings fs) (less_one (length fs))
findings_lines [] = record { is = refl }
findings_lines (f ∷ fs) = behind (in_finding f) (flat_one later_finding one_later fs)

name : (v : Verdict) → Lines (verdict_name v) 0
name Pass = record { is = refl }
name Skip = record { is = refl }
name Fail = record { is = refl }
name NotJudged = record { is = refl }

in_head : (i : ItemData) → Lines (json_head i) 0
unfolding json_head
in_head i =
    behind (member (codes "{\"file\":") i.file (fixed (codes "{\"file\":") 0 refl))
    (behind (number (codes ",\"index\":") i.index 0 (fixed (codes ",\"index\":") 0 refl))
    (behind (member (codes ",\"kind\":") i.kind (fixed (codes ",\"kind\":") 0 refl))
    (behind (member (codes ",\"namespace\":") i.namespace (fixed (codes ",\"namespace\":") 0 refl))
    (behind (member (codes ",\"name\":") i.name (fixed (codes ",\"name\":") 0 refl))
    (behind (fixed (codes ",\"verdict\":\"") 0 refl) (name i.verdict))))))

item_lines : (i : ItemData) → Lines (json_item i) (less_one (length i.findings))
unfolding json_item
item_lines i =
    as_many (behind (in_head i) (behind (fixed (codes "\",\"findings\":[") 0 refl) (and_then (findings_lines i.findings) (fixed (codes "]}") 0 refl)))) (omega arith)

one_more : (fs : List FindingData) → 1 + less_one (length fs) ≡ max 1 (length fs)
one_more [] = refl
one_more (f ∷ fs) = omega arith

later_lines : (i : ItemData) → Lines (later_item i) (max 1 (length i.findings))
later_lines i = as_many (and_then (fixed (codes ",\n") 1 refl) (item_lines i)) (one_more i.findings)

list_lines : (is : List ItemData) → 1 + line_count (json_list is) ≡ json_lines is
list_lines [] = refl
list_lines (i ∷ is) =
    let all = and_then (item_lines i) (flat later_item (λ j. max 1 (length j.findings)) later_lines is) in
    omega (arith, all.is, one_more i.findings)

json_report : (is : List ItemData) → Lines (json_items is) (json_lines is)
json_report is =
    let list = fixed (json_list is) (line_count (json_list is)) refl in
    as_many (behind (fixed (codes "[") 0 refl) (and_then list (fixed (codes "]\n") 1 refl))) (omega (arith, list_lines is))

-- ---- all forms

report_of : (form : Output) (items : List ItemData) → Lines (output_text form items) (report_lines form items)
report_of Text is = flat (text_item false) (λ i. 1 + length i.findings) (text_lines false) is
report_of Coloured is = flat (text_item true) (λ i. 1 + length i.findings) (text_lines true) is
report_of Json is = json_report is
report_of Github is = flat github_item (λ i. length i.findings) github_lines is
report_of Junit is =
    let cases = and_then (flat junit_item (λ i. 1 + length i.findings) junit_lines is) (fixed (codes "</testsuite>\n") 1 refl) in
    as_many (and_then (head_lines is) cases) (omega arith)

pub report : (form : Output) (items : List ItemData) → line_count (output_text form items) ≡ report_lines form items
report form items = (report_of form items).is

pub line_said : (words : List ℕ) → line_count (said words) ≡ 1
line_said words = (one_said words).is

-- Printed addresses.
use Rattle.std.proofs.Common.{◌≡◌, ℕ, ◌⊎◌, Bool, true, false, ◌||◌, eqb, List, [], ◌∷◌, Result, Ok, bytes_eq, refl, sym, ap, ◌∙◌, arith, inl, inr, ne_eqb, ◌↔◌}
use Rattle.std.proofs.NetLemmas.Alphabet.{IsDigitOrDot, IsHexOrColon, All-ipv4_text, All-hex_groups_text}
use Rattle.std.proofs.NetLemmas.Texts.{IsDotted-ipv4_text, IsColonHex-hex_groups_text}
use Rattle.std.proofs.lemmas.List.Elements.{recursion_from_All}
use Rattle.std.proofs.lemmas.Slice.Eq.{bytes_eq-Decides}
use Rattle.std.specs.List.{list_any, AllByRecursion}
use Rattle.kube_types_address.proofs.Readings.{answer_address, address_of-complete}
use Rattle.kube_types_address.specs.Addresses.{Address, four, six, IsAddress, is_mapped}
use Rattle.kube_types_address.specs.Texts.{IsTextOf, address_text, canonical_answer, canonical_of, ip_of}

-- if no byte of a text can be `c`, the text doesn't contain it
lacks : (P : ℕ → Type 0) (c : ℕ) (xs : List ℕ) → ((x : ℕ) → P x → x ≡ c → ⊥) → AllByRecursion P xs → list_any (λ x. eqb x c) xs ≡ false
lacks P c [] apart h = refl
lacks P c (x ∷ xs) apart h = ap (λ b. b || list_any (λ y. eqb y c) xs) (ne_eqb x c (apart x h.0)) ∙ lacks P c xs apart h.1

pub printed_lacks : (a : Address) (c : ℕ) → IsAddress a → ((x : ℕ) → IsDigitOrDot x ⊎ IsHexOrColon x → x ≡ c → ⊥) → list_any (λ x. eqb x c) (address_text a) ≡ false
printed_lacks (four octets) c h apart = lacks IsDigitOrDot c (address_text (four octets)) (λ x k. apart x (inl k)) (recursion_from_All IsDigitOrDot _ (All-ipv4_text octets h.1))
printed_lacks (six groups) c h apart = lacks IsHexOrColon c (address_text (six groups)) (λ x k. apart x (inr k)) (recursion_from_All IsHexOrColon _ (All-hex_groups_text groups h.1))

not_percent : (x : ℕ) → IsDigitOrDot x ⊎ IsHexOrColon x → x ≡ 37 → ⊥
not_percent x (inl (inl h)) e = omega arith
not_percent x (inl (inr h)) e = omega arith
not_percent x (inr (inl h)) e = omega arith
not_percent x (inr (inr h)) e = omega arith

pub printed_is_text : (a : Address) → IsAddress a → IsTextOf (address_text a) a
printed_is_text (four octets) h = IsDotted-ipv4_text octets h.0 h.1
printed_is_text (six groups) h = IsColonHex-hex_groups_text groups h.0 h.1

pub read-printed : (a : Address) → IsAddress a → is_mapped a ≡ false → ip_of (address_text a) ≡ Ok a
read-printed a h m = answer_address (address_text a) a (printed_lacks a 37 h not_percent) (address_of-complete (address_text a) a (printed_is_text a h)) m

same_ok : (b : Bool) → ◌≡◌ {A = Result Bool (List ℕ)} (Ok b) (Ok true) → b ≡ true
same_ok b e = cc

pub canonical : (text : List ℕ) (a : Address) → ip_of text ≡ Ok a → (canonical_of text ≡ Ok true) ↔ (text ≡ address_text a)
canonical text a h =
    let answer : canonical_of text ≡ Ok (bytes_eq text (address_text a)) = ap (canonical_answer text) h in
    let test = bytes_eq-Decides text (address_text a) in (
      (λ e. test.0 (same_ok _ (sym answer ∙ e))),
      λ e. answer ∙ ap Ok (test.1 e),
    )

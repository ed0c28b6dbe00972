-- The parser of `std` finds what the grammar says.
use Rattle.std.proofs.Common.{◌≡◌, ℕ, Bool, true, false, cond, eqb, ◌⊎◌, List, [], ◌∷◌, ◌++◌, length, Option, Some, None, Result, Ok, Err, option_map, refl, sym, ap, ap₂, ◌∙◌, subst, arith, inl, inr, lit≤}
use Rattle.std.proofs.lemmas.Bool.{eqb-true}
use Rattle.std.proofs.NetLemmas.Ipv4.{read_ipv4_complete, read_ipv4_sound}
use Rattle.std.proofs.NetLemmas.Ipv6.{read_ipv6_complete, read_ipv6_sound, EndsGroups-nil, IsDotted-not_colon_hex}
use Rattle.std.proofs.NetLemmas.Options.{cond_some}
use Rattle.std.specs.Net.Grammar.{IsDotted, IsColonHex, IsIpText}
use Rattle.std.specs.Net.Reader.{whole_value, read_ipv4, read_ipv6}
use Rattle.std.specs.declared.net.ip_addr.IpAddr.{IpAddr}
use Rattle.std.specs.declared.net.ip_addr.IpAddr.TheVariants as Ip
use Rattle.kube_types_address.specs.Addresses.{Address, four, six, is_mapped}
use Rattle.kube_types_address.specs.Shown.{parts}
use Rattle.kube_types_address.specs.Texts.{IsTextOf, IsIpAnswer, address_of, or_else, unless_mapped, has_zone, ip_of, zone_error, mapped_error}

append_nil : (xs : List ℕ) → xs ++ [] ≡ xs
append_nil [] = refl
append_nil (x ∷ xs) = ap (λ t. x ∷ t) (append_nil xs)

empty_from_length : (xs : List ℕ) → length xs ≡ 0 → xs ≡ []
empty_from_length [] h = refl
empty_from_length (x ∷ xs) h = absurd (omega arith)

-- a whole reading leaves no text over
whole_some : (r : Option (List ℕ × List ℕ)) (v : List ℕ) → whole_value r ≡ Some v → r ≡ Some (v, [])
whole_some None v h = absurd (cc)
whole_some (Some p) v h =
    let parts = cond_some (eqb (length p.1) 0) p.0 v h in
    ap₂ (λ x y. Some (x, y)) parts.1 (empty_from_length p.1 (eqb-true (length p.1) 0 parts.0))

whole_from : (r : Option (List ℕ × List ℕ)) (v : List ℕ) → r ≡ Some (v, []) → whole_value r ≡ Some v
whole_from r v h = ap whole_value h

four_sound : (text octets : List ℕ) → whole_value (read_ipv4 text) ≡ Some octets → IsDotted text octets
four_sound text octets h =
    let read = read_ipv4_sound text octets [] (whole_some _ _ h) in
    subst (λ t. IsDotted t octets) (sym (append_nil read.0) ∙ sym read.1) read.2

four_complete : (text octets : List ℕ) → IsDotted text octets → whole_value (read_ipv4 text) ≡ Some octets
four_complete text octets h = whole_from _ _ (ap read_ipv4 (sym (append_nil text)) ∙ read_ipv4_complete text octets [] h (lit≤ tt))

six_sound : (text groups : List ℕ) → whole_value (read_ipv6 text) ≡ Some groups → IsColonHex text groups
six_sound text groups h =
    let read = read_ipv6_sound text groups [] (whole_some _ _ h) in
    subst (λ t. IsColonHex t groups) (sym (append_nil read.0) ∙ sym read.1) read.2

six_complete : (text groups : List ℕ) → IsColonHex text groups → whole_value (read_ipv6 text) ≡ Some groups
six_complete text groups h = whole_from _ _ (ap read_ipv6 (sym (append_nil text)) ∙ read_ipv6_complete text groups [] h EndsGroups-nil)

-- the two ways to parse a text
chosen : (o p : Option (List ℕ)) (a : Address) (P : Type 0) → or_else (option_map four o) (option_map six p) ≡ Some a → ((x : List ℕ) → o ≡ Some x → a ≡ four x → P) → ((x : List ℕ) → p ≡ Some x → a ≡ six x → P) → P
chosen (Some x) p a P h left right = left x refl (cc)
chosen None (Some x) a P h left right = right x refl (cc)
chosen None None a P h left right = absurd (cc)

pub address_of-sound : (text : List ℕ) (a : Address) → address_of text ≡ Some a → IsTextOf text a
unfolding address_of
address_of-sound text a h =
    chosen (whole_value (read_ipv4 text)) (whole_value (read_ipv6 text)) a (IsTextOf text a) h
    (λ x e is. subst (IsTextOf text) (sym is) (four_sound text x e))
    (λ x e is. subst (IsTextOf text) (sym is) (six_sound text x e))

none_or_some : {A : Type 0} (o : Option A) → (o ≡ None) ⊎ ((x : A) × (o ≡ Some x))
none_or_some None = inl refl
none_or_some (Some x) = inr (x, refl)

pub address_of-complete : (text : List ℕ) (a : Address) → IsTextOf text a → address_of text ≡ Some a
unfolding address_of
address_of-complete text (four octets) h = ap (λ o. or_else (option_map four o) (option_map six (whole_value (read_ipv6 text)))) (four_complete text octets h)
address_of-complete text (six groups) h =
    let no_four : whole_value (read_ipv4 text) ≡ None =
    elim (none_or_some (whole_value (read_ipv4 text))) as (λ _. whole_value (read_ipv4 text) ≡ None) [
      | inl none ↦ none
      | inr w ↦ absurd (IsDotted-not_colon_hex text w.0 groups (four_sound text w.0 w.1) h)
    ] in
    ap (λ o. or_else (option_map four o) (option_map six (whole_value (read_ipv6 text)))) no_four ∙ ap (λ o. option_map six o) (six_complete text groups h)

-- if a text has no address by the grammar, the parser finds none
pub address_of-none : (text : List ℕ) → ((a : Address) → ¬ (IsTextOf text a)) → address_of text ≡ None
address_of-none text h =
    elim (none_or_some (address_of text)) as (λ _. address_of text ≡ None) [
      | inl none ↦ none
      | inr w ↦ absurd (h w.0 (address_of-sound text w.0 w.1))
    ]

some_is_not_none : (o : Option Address) (a : Address) → o ≡ None → o ≡ Some a → ⊥
some_is_not_none o a h k = cc

-- the result of `parse_ascii` of `std`
pub parsed : (text : List ℕ) (a : IpAddr) → IsIpText text a → address_of text ≡ Some (parts a)
parsed text (Ip.V4 a) h = address_of-complete text (parts (Ip.V4 a)) h
parsed text (Ip.V6 a) h = address_of-complete text (parts (Ip.V6 a)) h

no_text : (text : List ℕ) → ((a : IpAddr) → ¬ (IsIpText text a)) → (a : Address) → ¬ (IsTextOf text a)
no_text text h (four octets) k = h (Ip.V4 (record { octets = octets })) k
no_text text h (six groups) k = h (Ip.V6 (record { segments = groups })) k

pub not_parsed : (text : List ℕ) → ((a : IpAddr) → ¬ (IsIpText text a)) → address_of text ≡ None
not_parsed text h = address_of-none text (no_text text h)

-- the cases of the result
pub answer_zone : (text : List ℕ) → has_zone text ≡ true → ip_of text ≡ Err zone_error
unfolding ip_of
answer_zone text z = ap (λ b. cond b (Err zone_error) (unless_mapped (address_of text))) z

pub answer_by : (text : List ℕ) (o : Option Address) → has_zone text ≡ false → address_of text ≡ o → ip_of text ≡ unless_mapped o
unfolding ip_of
answer_by text o z e = ap (λ b. cond b (Err zone_error) (unless_mapped (address_of text))) z ∙ ap unless_mapped e

pub answer_mapped : (text : List ℕ) (a : Address) → has_zone text ≡ false → address_of text ≡ Some a → is_mapped a ≡ true → ip_of text ≡ Err mapped_error
answer_mapped text a z e m = answer_by text (Some a) z e ∙ ap (λ b. cond b (Err mapped_error) (Ok a)) m

pub answer_address : (text : List ℕ) (a : Address) → has_zone text ≡ false → address_of text ≡ Some a → is_mapped a ≡ false → ip_of text ≡ Ok a
answer_address text a z e m = answer_by text (Some a) z e ∙ ap (λ b. cond b (Err mapped_error) (Ok a)) m

mapped_or_not : (text : List ℕ) (a : Address) (m : Bool) → is_mapped a ≡ m → has_zone text ≡ false → IsTextOf text a → IsIpAnswer text (cond m (Err mapped_error) (Ok a))
mapped_or_not text a true e z t = inr (inl (z, (a, t, e), refl))
mapped_or_not text a false e z t = (z, t, e)

by_parts : (text : List ℕ) (b : Bool) (o : Option Address) → has_zone text ≡ b → address_of text ≡ o → IsIpAnswer text (cond b (Err zone_error) (unless_mapped o))
by_parts text true o z e = inl (z, refl)
by_parts text false None z e = inr (inr (z, (λ a t. some_is_not_none (address_of text) a e (address_of-complete text a t)), refl))
by_parts text false (Some a) z e = mapped_or_not text a (is_mapped a) refl z (address_of-sound text a e)

-- the result of the function is right by the grammar, and no other is
pub ip_of-is_answer : (text : List ℕ) → IsIpAnswer text (ip_of text)
unfolding ip_of
ip_of-is_answer text = by_parts text (has_zone text) (address_of text) refl refl

pub answer_is-ip_of : (text : List ℕ) (r : Result Address (List ℕ)) → IsIpAnswer text r → r ≡ ip_of text
answer_is-ip_of text (Ok a) h = sym (answer_address text a h.0 (address_of-complete text a h.1) h.2)
answer_is-ip_of text (Err e) (inl h) = ap Err h.1 ∙ sym (answer_zone text h.0)
answer_is-ip_of text (Err e) (inr (inl h)) = ap Err h.2 ∙ sym (answer_mapped text h.1.0 h.0 (address_of-complete text h.1.0 h.1.1) h.1.2)
answer_is-ip_of text (Err e) (inr (inr h)) = ap Err h.2 ∙ sym (answer_by text None h.0 (address_of-none text h.1))

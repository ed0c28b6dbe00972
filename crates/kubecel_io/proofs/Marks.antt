-- Texts that begin with a byte order mark.
use Rattle.std.specs.Str.Pattern.{FindsTextPrefix, StripsPrefix}
use Rattle.kubecel_io.specs.Reads.{byte_order_mark, without_mark}
use Rattle.std.proofs.Common.{◌≡◌, List, ℕ, drop, length, Some, None, true, false, nat_eq, sym, refl, ap, ◌∙◌}
use Rattle.std.proofs.lemmas.Slice.Eq.{starts_is}
use Rattle.std.proofs.lemmas.Str.Pattern.{starts_text}
use Rattle.std.specs.List.{starts_with}

pub mark_off : (text rest : List ℕ) → StripsPrefix (FindsTextPrefix byte_order_mark) text rest → rest ≡ without_mark text
unfolding without_mark
mark_off text rest h =
    let begins : starts_with nat_eq text byte_order_mark ≡ true = sym (starts_text true byte_order_mark text (h.0, h.1, rw h.1.0 h.1.2)) in
    h.2 ∙ ap (λ n. drop n text) h.1.0 ∙ sym (rw begins refl)

pub no_mark : (text : List ℕ) → FindsTextPrefix byte_order_mark text None → text ≡ without_mark text
unfolding without_mark
no_mark text h =
    let begins : starts_with nat_eq text byte_order_mark ≡ false = sym (starts_text false byte_order_mark text h) in
    sym (rw begins refl)

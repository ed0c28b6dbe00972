use Rattle.std.proofs.Common.{◌≡◌, ◌∙◌, ℕ, ◌-◌, ◌++◌, List, length, take, drop, replicate, subst, sym, ap, arith}
use Rattle.std.specs.Str.{IsUtf8}
use Rattle.std.proofs.lemmas.List.{drop-replicate, take_at}
use Rattle.std.proofs.lemmas.Slice.{drop-append-drop}
use Rattle.cel_value.proofs.string.ShortText.of.Goals as goal

-- behind a text that is copied to the front of 14 zeros
zero_behind : (text copied : List ℕ) → copied ≡ text → drop (length text) (copied ++ drop (length text) (replicate 14 0)) ≡ replicate (14 - length text) 0
zero_behind text copied e =
    drop-append-drop (length text) (replicate 14 0) copied (length text) (omega arith) (ap length e)
    ∙ drop-replicate (length text) 14 0

utf8_before : (text copied rest : List ℕ) → copied ≡ text → IsUtf8 text → IsUtf8 (take (length text) (copied ++ rest))
utf8_before text copied rest e u =
    subst IsUtf8 (sym (take_at copied rest (length text) (ap length e) ∙ e)) u

pub invariant_of-result : goal.invariant_of-result
invariant_of-result c =
    let copied = c.copy_from_slice.ensures.after ∙ c.as_bytes.ensures.value in
    (c.if-len-gt-SHORT_LEN.false, ∣ utf8_before c.args.text.now c.copy_from_slice.new.self _ copied c.utf8.text ∣₁, zero_behind c.args.text.now c.copy_from_slice.new.self copied)

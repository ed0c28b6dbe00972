use Rattle.std.proofs.Common.{◌∙◌, take, drop, bytes_eq, nat_eq, sym, ap}
use Rattle.std.specs.Bool.{one_answer}
use Rattle.std.specs.Int.{from_le_bytes, to_le_bytes, w16, w32, w64}
use Rattle.std.proofs.lemmas.Bool.Decides.{Decides-eqb}
use Rattle.std.proofs.lemmas.Slice.Eq.{bytes_eq-Decides}
use Rattle.cel_value.proofs.ShortTexts.{words_are_all}
use Rattle.cel_value.proofs.string.are_same.Goals as goal

pub returns : goal.returns
returns c =
    let xs = c.args.a.now in
    let ys = c.args.b.now in
    let same = bytes_eq-Decides xs ys in
    let first = sym c.first_word.ensures.bytes ∙ ap (to_le_bytes w64) c.if-first_word.false ∙ c.first_word-2.ensures.bytes in
    let second = sym c.second_word.ensures.bytes ∙ ap (to_le_bytes w32) c.if-second_word.false ∙ c.second_word-2.ensures.bytes in
    one_answer (nat_eq c.third_word.result c.third_word-2.result) (bytes_eq xs ys)
    (Decides-eqb c.third_word.result c.third_word-2.result) (
      (λ h. c.third_word.ensures.value ∙ ap (λ zs. from_le_bytes w16 (take 2 (drop 12 zs))) (same.0 h) ∙ sym c.third_word-2.ensures.value),
      (λ e. same.1 (words_are_all xs ys c.told-a c.told-b first second (sym c.third_word.ensures.bytes ∙ ap (to_le_bytes w16) e ∙ c.third_word-2.ensures.bytes))),
    )

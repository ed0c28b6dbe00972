use Rattle.std.proofs.Common.{◌≡◌, ℕ, List, map, true, false, Bor, sym, ◌∙◌, ap}
use Rattle.semver.specs.Order.{parts}
use Rattle.std.specs.List.{list_all}
use Rattle.std.specs.Prelude.{Some}
use Rattle.kube_types.specs.Version.Reading.{is_number}
use Rattle.kube_types.proofs.Version.Texts.{normal_text-numbers, normal_text-other}
use Rattle.kube_types.proofs.versions.reading.normal_text.Goals as goal

pub returns-then-are_numbers : goal.returns-then-are_numbers
returns-then-are_numbers c = record {
  answer =
      let ps = c.as_slice-then-are_numbers.result.now in
      let core = c.split_at_hyphen.result.0.now in
      let pieces : map (λ (p : Bor (List ℕ)). p.now) ps ≡ parts core = ap (map (λ (p : Bor (List ℕ)). p.now)) c.as_slice-then-are_numbers.ensures.value ∙ c.in_ok-parts.ensures in
      let numbers : list_all (λ (p : Bor (List ℕ)). is_number p.now) ps ≡ true =
      ap (list_all (λ (p : Bor (List ℕ)). is_number p.now)) (c.as_slice-then-are_numbers.ensures.value ∙ sym c.as_slice.ensures.value)
      ∙ sym c.are_numbers.ensures ∙ c.if-are_numbers.true in
      c.in_ok-full.ensures
      ∙ normal_text-numbers c.args.text.now core c.split_at_hyphen.result.1.now ps c.split_at_hyphen.ensures.core c.split_at_hyphen.ensures.tail pieces numbers;
}

pub returns : goal.returns
returns c = record {
  answer =
      let ps = c.as_slice.result.now in
      let core = c.split_at_hyphen.result.0.now in
      let pieces : map (λ (p : Bor (List ℕ)). p.now) ps ≡ parts core = ap (map (λ (p : Bor (List ℕ)). p.now)) c.as_slice.ensures.value ∙ c.in_ok-parts.ensures in
      let other : list_all (λ (p : Bor (List ℕ)). is_number p.now) ps ≡ false = sym c.are_numbers.ensures ∙ c.if-are_numbers.false in
      ap Some c.in_ok-same.ensures.ok ∙ normal_text-other c.args.text.now core ps c.split_at_hyphen.ensures.core pieces other;
}

use Rattle.std.proofs.Common.{length, lit<, sym, ◌∙◌, arith}
use Rattle.std.proofs.lemmas.List.{take_all, drop_all}
use Rattle.std.proofs.lemmas.Str.Pattern.{find_char}
use Rattle.std.specs.Prelude.{Some, None}
use Rattle.kube_types.proofs.Version.Texts.{core_tail_at}
use Rattle.kube_types.proofs.versions.reading.split_at_hyphen.Goals as goal

pub returns-in-Some-clause-core : goal.returns-in-Some-clause-core
returns-in-Some-clause-core c =
    let text = c.args.text.now in
    let found = find_char 45 text (Some c.in-Some.offset) c.in-Some.ensures.cases (lit< tt) in
    c.split_at.ensures.front ∙ (core_tail_at text c.in-Some.offset (omega (arith, found.0)) found.2 (λ _. found.1)).0

pub returns-in-Some-clause-tail : goal.returns-in-Some-clause-tail
returns-in-Some-clause-tail c =
    let text = c.args.text.now in
    let found = find_char 45 text (Some c.in-Some.offset) c.in-Some.ensures.cases (lit< tt) in
    c.split_at.ensures.back ∙ (core_tail_at text c.in-Some.offset (omega (arith, found.0)) found.2 (λ _. found.1)).1

pub returns-in-None-clause-core : goal.returns-in-None-clause-core
returns-in-None-clause-core c =
    let text = c.args.text.now in
    let free = find_char 45 text None c.in-None.ensures.cases (lit< tt) in
    sym (take_all (length text) text (omega arith)) ∙ (core_tail_at text (length text) (omega arith) free (λ l. absurd (omega arith))).0

pub returns-in-None-clause-tail : goal.returns-in-None-clause-tail
returns-in-None-clause-tail c =
    let text = c.args.text.now in
    let free = find_char 45 text None c.in-None.ensures.cases (lit< tt) in
    sym (drop_all (length text) text (omega arith)) ∙ (core_tail_at text (length text) (omega arith) free (λ l. absurd (omega arith))).1

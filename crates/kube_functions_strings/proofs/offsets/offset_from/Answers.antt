use Rattle.std.proofs.Common.{◌<◌, arith, rules, length}
use Rattle.std.specs.Str.{chars}
use Rattle.kube_functions_strings.proofs.Between.{few_characters, offset_found, offset_missing}
use Rattle.kube_functions_strings.proofs.offsets.offset_from.Goals as goal

pub overflow_add-result : goal.overflow_add-result
overflow_add-result c =
    let found = offset_found (chars c.args.text.now) (chars c.args.part.now) _ _ _ _ c.args.start c.character_count.result c.in-Some.ensures.value c.in-Some-around_first.ensures.value c.character_count.ensures.value in
    let small : length c.args.text.now < 9223372036854775808 = first_of (search rules, omega arith) in
    omega (arith, found.1, few_characters c.args.text.now c.utf8.text)

pub returns-in-Some-around_first-clause-value : goal.returns-in-Some-around_first-clause-value
returns-in-Some-around_first-clause-value c =
    (offset_found (chars c.args.text.now) (chars c.args.part.now) _ _ _ _ c.args.start c.character_count.result c.in-Some.ensures.value c.in-Some-around_first.ensures.value c.character_count.ensures.value).0

pub returns-in-Some-around_first-clause-within : goal.returns-in-Some-around_first-clause-within
returns-in-Some-around_first-clause-within c =
    let found = offset_found (chars c.args.text.now) (chars c.args.part.now) _ _ _ _ c.args.start c.character_count.result c.in-Some.ensures.value c.in-Some-around_first.ensures.value c.character_count.ensures.value in
    omega (arith, found.1, few_characters c.args.text.now c.utf8.text)

pub returns-in-None-around_first-clause-value : goal.returns-in-None-around_first-clause-value
returns-in-None-around_first-clause-value c = offset_missing (chars c.args.text.now) (chars c.args.part.now) _ _ c.args.start c.in-Some.ensures.value c.in-None-around_first.ensures.value

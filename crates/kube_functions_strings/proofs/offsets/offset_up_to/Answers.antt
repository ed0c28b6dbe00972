use Rattle.std.proofs.Common.{◌<◌, arith, rules, length}
use Rattle.std.specs.Str.{chars}
use Rattle.kube_functions_strings.proofs.Between.{few_characters, some_characters, last_offset_found, last_offset_missing}
use Rattle.kube_functions_strings.proofs.offsets.offset_up_to.Goals as goal

pub overflow_add-most : goal.overflow_add-most
overflow_add-most c =
    let small : length c.args.part.now < 9223372036854775808 = first_of (search rules, omega arith) in
    omega (arith, c.character_count.ensures.small)

pub returns-in-Some-clause-value : goal.returns-in-Some-clause-value
returns-in-Some-clause-value c =
    (last_offset_found (chars c.args.text.now) (chars c.args.part.now) _ _ _ c.args.most c.character_count.result c.character_count-in-Some.result c.first_characters-front.ensures c.character_count.ensures.value
    (some_characters c.args.part.now c.utf8.part c.requires.some) c.in-Some.ensures c.character_count-in-Some.ensures.value).0

pub returns-in-Some-clause-within : goal.returns-in-Some-clause-within
returns-in-Some-clause-within c =
    let found = last_offset_found (chars c.args.text.now) (chars c.args.part.now) _ _ _ c.args.most c.character_count.result c.character_count-in-Some.result c.first_characters-front.ensures c.character_count.ensures.value
    (some_characters c.args.part.now c.utf8.part c.requires.some) c.in-Some.ensures c.character_count-in-Some.ensures.value in
    omega (arith, found.1, few_characters c.args.text.now c.utf8.text)

pub returns-in-None-clause-value : goal.returns-in-None-clause-value
returns-in-None-clause-value c = last_offset_missing (chars c.args.text.now) (chars c.args.part.now) _ c.args.most c.character_count.result c.first_characters-front.ensures c.character_count.ensures.value c.in-None.ensures

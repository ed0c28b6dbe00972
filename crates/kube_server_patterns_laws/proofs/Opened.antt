-- What computes the translation of a pattern that is written out.
use Rattle.kube_server_patterns.specs.Brackets.{single, range_end, range_between, range, class_named, after_colon, escaped_letter, escaped as escaped_member, colon, member, in_bracket}
use Rattle.kube_server_patterns.specs.Classes.{class_of_name, lettered}
use Rattle.kube_server_patterns.specs.Escapes.{coded, numbered, braced, hexadecimal, octal, control, is_itself, escape}
use Rattle.kube_server_patterns.specs.Fronts.{number}
use Rattle.kube_server_patterns.specs.Lexemes.{letter, escaped, sign, plain, quoted}
use Rattle.kube_server_patterns.specs.Openings.{with_flag, flagged, is_name, named_group, opening}
use Rattle.kube_server_patterns.specs.Pieces.{is_special, character_text}
use Rattle.kube_server_patterns.specs.Repetitions.{count, upper, counts, braces}
use Rattle.kube_server_patterns.specs.States.{passed, step}
use Rattle.kube_server_patterns.specs.Translation.{translated, translation}

unfoldable pub re2 : Unit {0}
unfolding single range_end range_between range class_named after_colon escaped_letter escaped_member colon member in_bracket class_of_name lettered coded numbered braced hexadecimal octal control is_itself escape number letter escaped sign plain quoted with_flag flagged is_name named_group opening is_special character_text count upper counts braces passed step translated translation
re2 = tt

-- a pair, for long lists of proofs
infixr 10 ◌beside◌
pub ◌beside◌ : {A B : Type 0} → A → B → A × B
a beside b = (a, b)

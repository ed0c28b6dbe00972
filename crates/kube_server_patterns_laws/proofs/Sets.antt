-- The sets of characters that are written are those of RE2.
use Rattle.std.proofs.Common.{[], ◌∷◌, arith}
use Rattle.std.proofs.lemmas.Bool.Decides.{nat_tests}
use Rattle.regex.proofs.OnLiterals.{regex_on_literals, alone, class_is}
use Rattle.kube_server_patterns_laws.proofs.Opened.{re2, ◌beside◌}
use Rattle.kube_server_patterns_laws.specs.Meanings.{AreSets, by_name, by_letter, in_brackets, of_dots}

pub by_name_read : AreSets by_name
unfolding regex_on_literals re2
by_name_read =
    alone (class_is _ ((48, 57) ∷ (65, 90) ∷ (97, 122) ∷ []) (λ c le. grind (arith, nat_tests)))
    beside alone (class_is _ ((0, 47) ∷ (58, 64) ∷ (91, 96) ∷ (123, 0x10FFFF) ∷ []) (λ c le. grind (arith, nat_tests)))
    beside alone (class_is _ ((65, 90) ∷ (97, 122) ∷ []) (λ c le. grind (arith, nat_tests)))
    beside alone (class_is _ ((0, 64) ∷ (91, 96) ∷ (123, 0x10FFFF) ∷ []) (λ c le. grind (arith, nat_tests)))
    beside alone (class_is _ ((0, 127) ∷ []) (λ c le. grind (arith, nat_tests)))
    beside alone (class_is _ ((128, 0x10FFFF) ∷ []) (λ c le. grind (arith, nat_tests)))
    beside alone (class_is _ ((9, 9) ∷ (32, 32) ∷ []) (λ c le. grind (arith, nat_tests)))
    beside alone (class_is _ ((0, 8) ∷ (10, 31) ∷ (33, 0x10FFFF) ∷ []) (λ c le. grind (arith, nat_tests)))
    beside alone (class_is _ ((0, 31) ∷ (127, 127) ∷ []) (λ c le. grind (arith, nat_tests)))
    beside alone (class_is _ ((32, 126) ∷ (128, 0x10FFFF) ∷ []) (λ c le. grind (arith, nat_tests)))
    beside alone (class_is _ ((48, 57) ∷ []) (λ c le. grind (arith, nat_tests)))
    beside alone (class_is _ ((0, 47) ∷ (58, 0x10FFFF) ∷ []) (λ c le. grind (arith, nat_tests)))
    beside alone (class_is _ ((33, 126) ∷ []) (λ c le. grind (arith, nat_tests)))
    beside alone (class_is _ ((0, 32) ∷ (127, 0x10FFFF) ∷ []) (λ c le. grind (arith, nat_tests)))
    beside alone (class_is _ ((97, 122) ∷ []) (λ c le. grind (arith, nat_tests)))
    beside alone (class_is _ ((0, 96) ∷ (123, 0x10FFFF) ∷ []) (λ c le. grind (arith, nat_tests)))
    beside alone (class_is _ ((32, 126) ∷ []) (λ c le. grind (arith, nat_tests)))
    beside alone (class_is _ ((0, 31) ∷ (127, 0x10FFFF) ∷ []) (λ c le. grind (arith, nat_tests)))
    beside alone (class_is _ ((33, 47) ∷ (58, 64) ∷ (91, 96) ∷ (123, 126) ∷ []) (λ c le. grind (arith, nat_tests)))
    beside alone (class_is _ ((0, 32) ∷ (48, 57) ∷ (65, 90) ∷ (97, 122) ∷ (127, 0x10FFFF) ∷ []) (λ c le. grind (arith, nat_tests)))
    beside alone (class_is _ ((9, 13) ∷ (32, 32) ∷ []) (λ c le. grind (arith, nat_tests)))
    beside alone (class_is _ ((0, 8) ∷ (14, 31) ∷ (33, 0x10FFFF) ∷ []) (λ c le. grind (arith, nat_tests)))
    beside alone (class_is _ ((65, 90) ∷ []) (λ c le. grind (arith, nat_tests)))
    beside alone (class_is _ ((0, 64) ∷ (91, 0x10FFFF) ∷ []) (λ c le. grind (arith, nat_tests)))
    beside alone (class_is _ ((48, 57) ∷ (65, 90) ∷ (95, 95) ∷ (97, 122) ∷ []) (λ c le. grind (arith, nat_tests)))
    beside alone (class_is _ ((0, 47) ∷ (58, 64) ∷ (91, 94) ∷ (96, 96) ∷ (123, 0x10FFFF) ∷ []) (λ c le. grind (arith, nat_tests)))
    beside alone (class_is _ ((48, 57) ∷ (65, 70) ∷ (97, 102) ∷ []) (λ c le. grind (arith, nat_tests)))
    beside alone (class_is _ ((0, 47) ∷ (58, 64) ∷ (71, 96) ∷ (103, 0x10FFFF) ∷ []) (λ c le. grind (arith, nat_tests)))
    beside tt

pub by_letter_read : AreSets by_letter
unfolding regex_on_literals re2
by_letter_read =
    alone (class_is _ ((48, 57) ∷ []) (λ c le. grind (arith, nat_tests)))
    beside alone (class_is _ ((0, 47) ∷ (58, 0x10FFFF) ∷ []) (λ c le. grind (arith, nat_tests)))
    beside alone (class_is _ ((9, 10) ∷ (12, 13) ∷ (32, 32) ∷ []) (λ c le. grind (arith, nat_tests)))
    beside alone (class_is _ ((0, 8) ∷ (11, 11) ∷ (14, 31) ∷ (33, 0x10FFFF) ∷ []) (λ c le. grind (arith, nat_tests)))
    beside alone (class_is _ ((48, 57) ∷ (65, 90) ∷ (95, 95) ∷ (97, 122) ∷ []) (λ c le. grind (arith, nat_tests)))
    beside alone (class_is _ ((0, 47) ∷ (58, 64) ∷ (91, 94) ∷ (96, 96) ∷ (123, 0x10FFFF) ∷ []) (λ c le. grind (arith, nat_tests)))
    beside tt

pub in_brackets_read : AreSets in_brackets
unfolding regex_on_literals re2
in_brackets_read =
    alone (class_is _ ((97, 122) ∷ []) (λ c le. grind (arith, nat_tests)))
    beside alone (class_is _ ((0, 96) ∷ (123, 0x10FFFF) ∷ []) (λ c le. grind (arith, nat_tests)))
    beside alone (class_is _ ((38, 38) ∷ (97, 98) ∷ []) (λ c le. grind (arith, nat_tests)))
    beside alone (class_is _ ((93, 93) ∷ (97, 97) ∷ []) (λ c le. grind (arith, nat_tests)))
    beside alone (class_is _ ((91, 91) ∷ []) (λ c le. grind (arith, nat_tests)))
    beside alone (class_is _ ((48, 57) ∷ (95, 95) ∷ []) (λ c le. grind (arith, nat_tests)))
    beside alone (class_is _ ((9, 10) ∷ (12, 13) ∷ (32, 32) ∷ []) (λ c le. grind (arith, nat_tests)))
    beside tt

pub of_dots_read : AreSets of_dots
unfolding regex_on_literals re2
of_dots_read =
    alone (class_is _ ((0, 9) ∷ (11, 0x10FFFF) ∷ []) (λ c le. grind (arith, nat_tests)))
    beside alone (alone (class_is _ ((0, 0x10FFFF) ∷ []) (λ c le. grind (arith, nat_tests))))
    beside tt

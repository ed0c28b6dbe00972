use Rattle.std.proofs.Common.{◌≡◌, ◌-◌, length, string_bytes}
use Rattle.kube_server_patterns.specs.States.{beginning, place_of}
use Rattle.kube_server_patterns.specs.Translation.{after_text, translated}
use Rattle.kube_server_patterns.proofs.translation.translated.Given as goal

abbrev pub invariant-loop-lexeme : goal.invariant-loop-lexeme
invariant-loop-lexeme l =
    after_text (string_bytes l.out) (translated (length l.text - l._lexeme) (place_of l.state) l.rest) ≡ translated (length l.text) beginning l.text

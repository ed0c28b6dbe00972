-- The result of parsing a text or a path.
use Rattle.std.proofs.Common.{◌≡◌, ◌++◌, ℕ, Bool, List, true, false, Option, Some, None, refl, sym, ◌∙◌, ap}
use Rattle.std.specs.Option.{option_map}
use Rattle.std.specs.Prelude.{codes}
use Rattle.std.specs.Result.{result_ok}
use Rattle.url.specs.Parser.{parse_url}
use Rattle.url.specs.Parts.{Parts}
use Rattle.kube_types.specs.Url.Parts.{shown_of}
use Rattle.kube_types.specs.Url.Reading.{is_path, full_text, url_of}

pub full_path : (text : List ℕ) → is_path text ≡ true → codes "http://localhost" ++ text ≡ full_text text
unfolding full_text
full_path text e = rw e refl

pub full_other : (text : List ℕ) → is_path text ≡ false → text ≡ full_text text
unfolding full_text
full_other text e = rw e refl

pub read_some : (text full : List ℕ) (read : Option Parts) (url : Parts) (flag : Bool) → full ≡ full_text text → flag ≡ is_path text
    → read ≡ result_ok (parse_url None full) → read ≡ Some url → Some (shown_of url flag) ≡ url_of text
unfolding url_of
read_some text full read url flag at_full at_flag reads some =
    ap (λ b. Some (shown_of url b)) at_flag
    ∙ ap (option_map (λ u. shown_of u (is_path text))) (sym some ∙ reads ∙ ap (λ t. result_ok (parse_url None t)) at_full)

pub read_none : (text full : List ℕ) (read : Option Parts) → full ≡ full_text text → read ≡ result_ok (parse_url None full) → read ≡ None → None ≡ url_of text
unfolding url_of
read_none text full read at_full reads none =
    ap (option_map (λ u. shown_of u (is_path text))) (sym none ∙ reads ∙ ap (λ t. result_ok (parse_url None t)) at_full)

use Rattle.std.proofs.Common.{◌≡◌, ◌&&◌, Bool, true, false, refl}
use Rattle.std.specs.Str.{bytes_eq}
use Rattle.kube_types.proofs.urls.laws.paths_differ_from_urls.Goals as goal

and_false : (a : Bool) → (a && false) ≡ false
and_false true = refl
and_false false = refl

pub returns : goal.returns
returns c = λ path url a b. rw (a, b) (and_false (bytes_eq path.text url.text))

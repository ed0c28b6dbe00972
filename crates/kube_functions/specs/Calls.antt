-- Trusted by the headline.
-- The answers to calls of the functions that Kubernetes
-- adds, each by the definition of its library.
use Rattle.std.specs.Prelude.{ℕ, List, Option}
use Rattle.cel_patterns.specs.Book.{Book}
use Rattle.cel_value.specs.Data.{Data}
use Rattle.cel_semantics.specs.Outcome.{Outcome}
use Rattle.cel_stdlib.specs.Standard.{first_operand, second_operand}
use Rattle.kube_functions.specs.Encoders as encoders
use Rattle.kube_functions.specs.Format as format
use Rattle.kube_functions.specs.Lists as lists
use Rattle.kube_functions.specs.Math as math
use Rattle.kube_functions.specs.Net as net
use Rattle.kube_functions.specs.Operands.{third_operand, fourth_operand}
use Rattle.kube_functions.specs.Quantity as quantity
use Rattle.kube_functions.specs.Regex as regex
use Rattle.kube_functions.specs.Semver as semver
use Rattle.kube_functions.specs.Sets as sets
use Rattle.kube_functions.specs.Strings as strings
use Rattle.kube_functions.specs.Url as url
use Rattle.kube_functions.specs.declared.functions.Function.{Function}
use Rattle.kube_functions.specs.declared.functions.Function.TheVariants.{Strings, Lists, Math, Sets, Encoders, Regex, Net, Semver, Quantity, Url, Format}

-- the answer to a call with these operands, the receiver first, and these arguments
abbrev pub answer_by_library : Function → List ℕ → Option Data → Option Data → Option Data → Option Data
    → List Data → Book → Outcome
answer_by_library (Strings f) name v w x y args book = strings.answer f name v w x y
answer_by_library (Lists f) name v w x y args book = lists.answer f name v w x
answer_by_library (Math f) name v w x y args book = math.answer f name v w args
answer_by_library (Sets f) name v w x y args book = sets.answer f name v w
answer_by_library (Encoders f) name v w x y args book = encoders.answer f name v
answer_by_library (Regex f) name v w x y args book = regex.answer f name v w x book
answer_by_library (Net f) name v w x y args book = net.answer f name v w
answer_by_library (Semver f) name v w x y args book = semver.answer f name v w
answer_by_library (Quantity f) name v w x y args book = quantity.answer f name v w
answer_by_library (Url f) name v w x y args book = url.answer f name v
answer_by_library (Format f) name v w x y args book = format.answer f name v w

abbrev pub answer_of : Function → List ℕ → Option Data → List Data → Book → Outcome
answer_of f name receiver args book =
    answer_by_library f name (first_operand receiver args) (second_operand receiver args)
    (third_operand receiver args) (fourth_operand receiver args) args book

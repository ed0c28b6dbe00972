-- Trusted by the headline.
-- The faults that a table of tests finds in a text, and their texts.
use Rattle.std.specs.Prelude.{ℕ, List, [], ◌∷◌, ◌++◌, Bool, map, Option, Some, None, string_bytes, if◌then◌else◌}
use Rattle.kube_types_formats.specs.declared.fault.Fault.{Fault}
use Rattle.kube_types_formats.specs.declared.report.Report.{Report}
use Rattle.kube_types_formats.specs.Faults.{fault_text}

-- the text of a fault, after a prefix that names the part of the text that it is in
abbrev pub fault_line : List ℕ → Fault → List ℕ
fault_line prefix fault = prefix ++ fault_text fault

-- the text of each fault in a table whose test found it, in order
unfoldable pub faults_found : List ℕ → List (Bool × Fault) → List (List ℕ)
faults_found prefix [] = []
faults_found prefix (rule ∷ rules) =
    if rule.0 then fault_line prefix rule.1 ∷ faults_found prefix rules else faults_found prefix rules

-- the fault of a text, if any
abbrev pub only : List ℕ → Option Fault → List (List ℕ)
only prefix None = []
only prefix (Some fault) = fault_line prefix fault ∷ []

-- the texts that a report holds
abbrev pub texts_of : Report → List (List ℕ)
texts_of report = map string_bytes report.texts.items

-- Trusted by the clauses of kubecel.
-- The input of a run of `kubecel`: the files that it names, in order, and the documents in them. A file that can't be
-- read, isn't JSON, has a key twice in an object or has no document is reported as an item, with the reason; the others
-- are read. A byte order mark at the begin of a text is ignored, as RFC 8259 lets a reader do (section 8.1).
use Rattle.kubecel_io.specs.Documents.{documents}
use Rattle.kubecel_io.specs.Faults.{IsFault, fault_text}
use Rattle.kubecel_report.specs.Items.{FindingData, ItemData, item_view}
use Rattle.kubecel_io.specs.declared.fault.Fault.{Fault}
use Rattle.kubecel_report.specs.declared.item.Verdict.TheVariants.{NotJudged}
use Rattle.kubecel_io.specs.declared.sources.Document.{Document}
use Rattle.kubecel_io.specs.declared.sources.Stop.{Stop}
use Rattle.kubecel_io.specs.declared.sources.Stop.TheVariants as stop
use Rattle.serde_json.specs.Data.{Data}
use Rattle.serde_json.specs.View.{view}
use Rattle.std.specs.Global.{Global}
use Rattle.std.specs.List.{starts_with}
use Rattle.std.specs.Prelude.{◌≡◌, ◌⊎◌, ℕ, ◌+◌, ◌<◌, List, [], ◌∷◌, ◌++◌, drop, length, map, nat_eq, if◌then◌else◌, Bool, true, false, Option, Some, None, Result, Ok, Err, String, codes, string_bytes}

-- the bytes of the byte order mark U+FEFF
abbrev pub byte_order_mark : List ℕ
byte_order_mark = 0xEF ∷ 0xBB ∷ 0xBF ∷ []

-- a text without the byte order mark that it may begin with
unfoldable pub without_mark : List ℕ → List ℕ
without_mark text =
    if starts_with nat_eq text byte_order_mark then drop (length byte_order_mark) text else text

-- the result of a read: a text, or none
abbrev pub text_seen : Result (String Global) (String Global) → Option (List ℕ)
text_seen (Ok text) = Some (string_bytes text)
text_seen (Err e) = None

-- a document, with the path of its file and its index among those of the file; or an item of a document that is a list
pub record Found : Type 0 where
  pub file : List ℕ
  pub index : ℕ
  pub is_item : Bool
  pub value : Data

-- the values of one file with their indices, which start at this one
unfoldable pub with_indices : List ℕ → ℕ → List Data → List Found
with_indices file n [] = []
with_indices file n (d ∷ ds) = record { file = file; index = n; is_item = false; value = d } ∷ with_indices file (n + 1) ds

-- a single finding, which is about the whole thing
abbrev pub alone : List ℕ → List FindingData
alone message = record { location = []; rule = []; message = message } ∷ []

-- a file that isn't used, and why
abbrev pub unusable_item : List ℕ → List ℕ → ItemData
unusable_item path reason = record {
  file = path;
  index = 0;
  kind = [];
  namespace = [];
  name = [];
  verdict = NotJudged;
  findings = alone reason;
}

-- whether there are none
abbrev pub are_none : List ItemData → Bool
are_none [] = true
are_none (i ∷ is) = false

module _ {S : Type 0} (reads : S → List ℕ → Option (List ℕ) → S → Type 0) where
  -- the text of the file at this path consists of these documents, and there is at least one
  pub record IsRead (before : S) (path : List ℕ) (values : List Data) (after : S) : Type 0 where
    pub text : List ℕ
    pub given : reads before path (Some text) after
    pub means : documents (without_mark text) ≡ Some values
    pub some : 0 < length values

  -- the files at these paths were read in order, and nothing else was
  unfoldable pub AreRead : S → List (List ℕ) → List Found → S → Type 0
  AreRead before [] found after = (found ≡ []) × (before ≡ after)
  AreRead before (path ∷ paths) found after =
      (between : S) × (values : List Data) × (rest : List Found)
      × IsRead before path values between × AreRead between paths rest after
      × (found ≡ with_indices path 0 values ++ rest)

  -- the file at this path isn't used, for this reason: it can't be read, which the reason says in words of its own; it
  -- isn't JSON or has a key twice, at the given place; or its text is white space only
  abbrev pub IsUnread : S → List ℕ → List ℕ → S → Type 0
  IsUnread before path reason after =
      reads before path None after
      ⊎ (((text : List ℕ) × (fault : Fault) × reads before path (Some text) after × IsFault (without_mark text) fault
      × (reason ≡ fault_text fault))
      ⊎ ((text : List ℕ) × reads before path (Some text) after × (documents (without_mark text) ≡ Some [])
      × (reason ≡ codes "no document")))

  -- the file at this path was read, or isn't used: its documents follow those found before, or its item those of the
  -- files before that aren't used
  abbrev pub IsTried : S → List ℕ → List Found → List ItemData → List Found → List ItemData → S → Type 0
  IsTried before path found unusable more_found more_unusable after =
      ((values : List Data) × IsRead before path values after × (more_found ≡ found ++ with_indices path 0 values)
      × (more_unusable ≡ unusable))
      ⊎ ((reason : List ℕ) × IsUnread before path reason after × (more_found ≡ found)
      × (more_unusable ≡ unusable ++ unusable_item path reason ∷ []))

  -- the files at these paths were tried in order, and nothing else was: these are the documents of those that were read,
  -- and an item for each other one
  unfoldable pub AreTried : S → List (List ℕ) → List Found → List ItemData → List Found → List ItemData → S → Type 0
  AreTried before [] found unusable all_found all_unusable after =
      (found ≡ all_found) × (unusable ≡ all_unusable) × (before ≡ after)
  AreTried before (path ∷ paths) found unusable all_found all_unusable after =
      (between : S) × (more_found : List Found) × (more_unusable : List ItemData)
      × IsTried before path found unusable more_found more_unusable between
      × AreTried between paths more_found more_unusable all_found all_unusable after

-- ---- views of the code's values

-- the files that aren't used, for which a run stops
abbrev pub unusable_of : Stop → Option (List ItemData)
unusable_of (stop.Refused refused) = None
unusable_of (stop.Said words) = None
unusable_of (stop.Unusable items) = Some (map item_view items.items)

abbrev pub document_view : Document → Found
document_view d = record { file = string_bytes d.file; index = d.index; is_item = false; value = view d.value }

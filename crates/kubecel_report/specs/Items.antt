-- Trusted by the clauses of kubecel.
-- The report on each thing that was judged, and the exit status of all of them.
use Rattle.kubecel_report.specs.declared.item.Finding.{Finding}
use Rattle.kubecel_report.specs.declared.item.Item.{Item}
use Rattle.kubecel_report.specs.declared.item.Verdict.{Verdict}
use Rattle.kubecel_report.specs.declared.item.Verdict.TheVariants.{Pass, Skip, Fail, NotJudged}
use Rattle.std.specs.Prelude.{ℕ, List, [], ◌∷◌, ◌++◌, map, codes, max, string_bytes}

-- something that a report states about a thing
pub record FindingData : Type 0 where
  pub location : List ℕ
  pub rule : List ℕ
  pub message : List ℕ

-- one thing: its file, the index of its document there, its kind, namespace and name (empty if it
-- has none), its verdict and findings
pub record ItemData : Type 0 where
  pub file : List ℕ
  pub index : ℕ
  pub kind : List ℕ
  pub namespace : List ℕ
  pub name : List ℕ
  pub verdict : Verdict
  pub findings : List FindingData

-- ---- exit statuses

-- 0: it holds or doesn't apply; 1: some rule doesn't hold; 2: it couldn't be judged
abbrev pub verdict_status : Verdict → ℕ
verdict_status Pass = 0
verdict_status Skip = 0
verdict_status Fail = 1
verdict_status NotJudged = 2

-- the greatest exit status
unfoldable pub items_status : List ItemData → ℕ
items_status [] = 0
items_status (i ∷ is) = max (verdict_status i.verdict) (items_status is)

-- ---- names of things

-- the two texts with a mark between them; the second alone if the first is empty
abbrev pub prefixed_text : List ℕ → List ℕ → List ℕ → List ℕ
prefixed_text [] mark text = text
prefixed_text (b ∷ bs) mark text = (b ∷ bs) ++ (mark ++ text)

-- the two texts with a mark between them; the first alone if the second is empty
abbrev pub suffixed_text : List ℕ → List ℕ → List ℕ → List ℕ
suffixed_text text mark [] = text
suffixed_text text mark (b ∷ bs) = text ++ (mark ++ (b ∷ bs))

abbrev pub kind_or_document : List ℕ → List ℕ
kind_or_document [] = codes "document"
kind_or_document (b ∷ bs) = b ∷ bs

-- `KIND NAMESPACE/NAME`
abbrev pub title : ItemData → List ℕ
title i = suffixed_text (kind_or_document i.kind) (codes " ") (prefixed_text i.namespace (codes "/") i.name)

-- `PLACE: MESSAGE`
abbrev pub finding_text : FindingData → List ℕ
finding_text f = prefixed_text f.location (codes ": ") f.message

-- ---- views of the code's values

abbrev pub finding_view : Finding → FindingData
finding_view f = record {
  location = string_bytes f.location;
  rule = string_bytes f.rule;
  message = string_bytes f.message;
}

abbrev pub item_view : Item → ItemData
item_view i = record {
  file = string_bytes i.file;
  index = i.index;
  kind = string_bytes i.kind;
  namespace = string_bytes i.namespace;
  name = string_bytes i.name;
  verdict = i.verdict;
  findings = map finding_view i.findings.items;
}

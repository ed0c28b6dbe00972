use Rattle.std.proofs.Common.{option_map, ap}
use Rattle.kube_cel.proofs.Reports.{agrees_itself, shown_is_book}
use Rattle.cel.specs.Entries.{entries_of}
use Rattle.kube_manifests.proofs.Judged.{judged, judged_under, not_judged}
use Rattle.kube_manifests.proofs.set.CrdSet.validate_in.Goals as goal
use Rattle.kube_manifests.specs.Sets.{set_view, why_not}
use Rattle.serde_json.specs.View.{view}

pub returns-in-Err-clause-reason : goal.returns-in-Err-clause-reason
returns-in-Err-clause-reason c =
    ap why_not c.in-Err.ensures

pub returns-clause-reason : goal.returns-clause-reason
returns-clause-reason c =
    ap why_not c.in-Ok.ensures

pub returns-in-Err-clause-judgement : goal.returns-in-Err-clause-judgement
returns-in-Err-clause-judgement c = λ versions same.
    not_judged (set_view c.args.self.now) versions same (view c.args.object.now) (option_map (λ v. view v.now) c.args.old) c.in-Err.reason
    c.in-Err.ensures

pub returns-in-Err-clause-books : goal.returns-in-Err-clause-books
returns-in-Err-clause-books c = λ versions same b extends.
    not_judged (set_view c.args.self.now) versions same (view c.args.object.now) (option_map (λ v. view v.now) c.args.old) c.in-Err.reason
    c.in-Err.ensures

pub returns-clause-judgement : goal.returns-clause-judgement
returns-clause-judgement c = λ versions same.
    let b = entries_of c.validate_compiled_in.new.book in
    judged (set_view c.args.self.now) versions same (view c.args.object.now) (option_map (λ v. view v.now) c.args.old) c.in-Ok.version.now c.in_ok-answer.answer
    c.in-Ok.ensures
    (λ s e. (b, shown_is_book c.validate_compiled_in.new.book, c.in_ok-answer.ensures.answer b (agrees_itself b) s e, c.in_ok-answer.ensures.places b (agrees_itself b) s e))

pub returns-clause-books : goal.returns-clause-books
returns-clause-books c = λ versions same b extends.
    judged_under (set_view c.args.self.now) versions same (view c.args.object.now) (option_map (λ v. view v.now) c.args.old) b c.in-Ok.version.now c.in_ok-answer.answer
    c.in-Ok.ensures
    (λ s e. (c.in_ok-answer.ensures.answer b extends s e, c.in_ok-answer.ensures.places b extends s e))

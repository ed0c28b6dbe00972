use Rattle.std.proofs.Common.{[], ◌∷◌, ◌++◌, sym, ap, ◌∙◌}
use Rattle.kube_types_formats.specs.Found.{texts_of}
use Rattle.kube_types_formats.specs.Labels.{label_faults}
use Rattle.kube_types_formats.specs.Offsets.{is_one_of}
use Rattle.kube_types_formats.specs.declared.dns.Label.TheVariants.{Rfc1123}
use Rattle.kube_types_formats.proofs.PartLemmas.{parts_turn, parts_end}
use Rattle.kube_types_formats.proofs.report.Report.add_front_parts.Goals as goal

pub loop-dot-preserved : goal.loop-dot-preserved
loop-dot-preserved c =
    λ last. parts_turn (is_one_of (46 ∷ [])) (label_faults Rfc1123 c.args.prefix.now) last c.loop-dot.rest.now c.cut.result.0.now c.cut.result.1.now c.in-Some.dot (texts_of c.loop-dot.self) (texts_of c.add_label.new.self) (sym c.first_offset.ensures.byte_offset ∙ c.in-Some.is) c.cut.ensures.before c.cut.ensures.after c.in_ok-add_label.ensures.added
    ∙ c.loop-dot.invariant last

pub returns : goal.returns
returns c = record {
  added =
      λ last. ap (λ texts. texts_of c.loop-dot.self ++ texts) (sym (parts_end (is_one_of (46 ∷ [])) (label_faults Rfc1123 c.args.prefix.now) last c.loop-dot.rest.now (sym c.first_offset.ensures.byte_offset ∙ c.in_default.is)))
      ∙ c.loop-dot.invariant last;
}

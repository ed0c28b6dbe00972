use Rattle.std.proofs.Common.{sym, ap, ◌∙◌}
use Rattle.cel_value.specs.View.{view}
use Rattle.cel_value.specs.Same.{same}
use Rattle.kube_types.specs.Formats.{kind_of}
use Rattle.kube_types.specs.Version.Order.{same_parts}
use Rattle.kube_types.specs.Version.Shown.{parts}
use Rattle.kube_types.specs.Url.Equality.{same_url}
use Rattle.kube_types.specs.Url.Shown.{url_view}
use Rattle.cel_value.proofs.Views.{view_quantity, view_semver, view_url, view_format}
use Rattle.cel_value.proofs.Equal.{same_fields, same_quantities, same_versions, same_urls, same_formats}
use Rattle.cel_value.proofs.same.+same.Goals as goal

pub is_same-returns-in-Some-as_quantity : goal.is_same-returns-in-Some-as_quantity
is_same-returns-in-Some-as_quantity t c =
    let y = c.in-Some-as_quantity.y.now in
    c.eq-in-Some-as_quantity.ensures ∙ ap (λ q. same_fields q y) c.as_ref-in-Some-as_quantity.ensures
    ∙ sym (ap (λ d. same d (view c.args.b.now)) (ap view c.in-Quantity.is ∙ view_quantity c.in-Quantity.x) ∙ same_quantities c.in-Quantity.x.value (view c.args.b.now) y c.in-Some-as_quantity.ensures)

pub is_same-returns-in-Some-as_semver : goal.is_same-returns-in-Some-as_semver
is_same-returns-in-Some-as_semver t c =
    let y = c.in-Some-as_semver.y.now in
    c.eq-in-Some-as_semver.ensures ∙ ap (λ v. same_parts (parts v) (parts y)) c.as_ref-in-Some-as_semver.ensures
    ∙ sym (ap (λ d. same d (view c.args.b.now)) (ap view c.in-Semver.is ∙ view_semver c.in-Semver.x) ∙ same_versions (parts c.in-Semver.x.value) (view c.args.b.now) (parts y) c.in-Some-as_semver.ensures)

pub is_same-returns-in-Some-as_url : goal.is_same-returns-in-Some-as_url
is_same-returns-in-Some-as_url t c =
    let y = c.in-Some-as_url.y.now in
    c.eq-in-Some-as_url.ensures ∙ ap (λ u. same_url (url_view u) (url_view y)) c.as_ref-in-Some-as_url.ensures
    ∙ sym (ap (λ d. same d (view c.args.b.now)) (ap view c.in-Url.is ∙ view_url c.in-Url.x) ∙ same_urls (url_view c.in-Url.x.value) (view c.args.b.now) (url_view y) c.in-Some-as_url.ensures)

pub is_same-returns-in-Some-as_format : goal.is_same-returns-in-Some-as_format
is_same-returns-in-Some-as_format t c =
    c.eq-in-Some-as_format.ensures
    ∙ sym (ap (λ d. same d (view c.args.b.now)) (ap view c.in-Format.is ∙ view_format c.in-Format.x) ∙ same_formats (kind_of c.in-Format.x) (view c.args.b.now) (kind_of c.in-Some-as_format.y) c.in-Some-as_format.ensures)

-- Values of one kind as contracts see them.
use Rattle.std.proofs.Common.{◌≡◌, refl}
use Rattle.cel_value.specs.Data.{list, map_of, optional, quantity, semver, url, format}
use Rattle.cel_value.specs.View.{view}
use Rattle.kube_types.specs.Formats.{kind_of}
use Rattle.kube_types.specs.Quantity.Shown.{number}
use Rattle.kube_types.specs.Version.Shown.{parts}
use Rattle.kube_types.specs.Url.Shown.{url_view}
use Rattle.cel_value.specs.declared.value.Value.TheVariants as value

pub view_list : (v : _) → view (value.List v) ≡ list v.value
view_list v = refl

pub view_map : (m : _) → view (value.Map m) ≡ map_of m
view_map m = refl

pub view_optional : (o : _) → view (value.Optional o) ≡ optional o
view_optional o = refl

pub view_quantity : (q : _) → view (value.Quantity q) ≡ quantity (number q.value)
view_quantity q = refl

pub view_semver : (v : _) → view (value.Semver v) ≡ semver (parts v.value)
view_semver v = refl

pub view_url : (u : _) → view (value.Url u) ≡ url (url_view u.value)
view_url u = refl

pub view_format : (f : _) → view (value.Format f) ≡ format (kind_of f)
view_format f = refl

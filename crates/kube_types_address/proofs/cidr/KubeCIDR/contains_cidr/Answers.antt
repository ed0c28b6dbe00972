use Rattle.std.proofs.Common.{◌≡◌, rules, leb}
use Rattle.kube_types_address.proofs.Sets.{containment_of}
use Rattle.kube_types_address.specs.Networks.{network}
use Rattle.kube_types_address.specs.Prefixes.{encloses}
use Rattle.kube_types_address.proofs.cidr.KubeCIDR.contains_cidr.Goals as goal

pub returns-then-contains_ip-clause-sets : goal.returns-then-contains_ip-clause-sets
returns-then-contains_ip-clause-sets c =
    let answer = leb c.prefix_length.result c.prefix_length-then-contains_ip.result in
    let is : answer ≡ encloses (network c.args.self.now) (network c.args.inner) = search rules in
    containment_of (network c.args.self.now) (network c.args.inner) answer c.a_cidr_is_a_network.ensures c.a_cidr_is_a_network-2.ensures is

pub returns-else-contains_ip-clause-sets : goal.returns-else-contains_ip-clause-sets
returns-else-contains_ip-clause-sets c =
    let is : c.contains_ip.result ≡ encloses (network c.args.self.now) (network c.args.inner) = search rules in
    containment_of (network c.args.self.now) (network c.args.inner) c.contains_ip.result c.a_cidr_is_a_network.ensures c.a_cidr_is_a_network-2.ensures is
